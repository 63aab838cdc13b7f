use Rattle.std.proofs.Common.{rules}
use Rattle.sabr_plan.specs.Canonical.{digest_of}
use Rattle.sabr_session.specs.SessionText.{text_of}
use Rattle.sabr_session.proofs.TextLemmas.Gathering.{WritesText-stopped, WritesText-sent}
use Rattle.sabr_session.proofs.writing.session_text.write_session.Goals as goal

pub returns-in_err-put_session-clause-text : goal.returns-in_err-put_session-clause-text
returns-in_err-put_session-clause-text g c =
    let s = c.args.session.now in
    WritesText-stopped _ _ (text_of (digest_of s.plan.plan) s.request s.state) c.from_residual.result c.new-text.ensures (search rules) c.from_residual.ensures.1 (rw c.requires at c.in_err-put_session.ensures)

pub returns-clause-text : goal.returns-clause-text
returns-clause-text g c =
    let s = c.args.session.now in
    WritesText-sent _ _ (text_of (digest_of s.plan.plan) s.request s.state) c.send.result c.new-text.ensures (search rules) (rw c.requires at c.in_ok-put_session.ensures) c.send.ensures
