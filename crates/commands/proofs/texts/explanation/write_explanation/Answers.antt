use Rattle.std.proofs.Common.{ℕ, Err, Ok, rules}
use Rattle.std.proofs.lemmas.Result.{err_from_is_err_and}
use Rattle.sabr_session.proofs.TextLemmas.Gathering.{WritesText-sent, WritesText-stopped}
use Rattle.commands.proofs.texts.explanation.write_explanation.Goals as goal

pub returns-in_err-is_route-clause-text : goal.returns-in_err-is_route-clause-text
returns-in_err-is_route-clause-text g c =
    WritesText-stopped _ _ _ c.from_residual.result c.new-text.ensures (search rules) c.from_residual.ensures.1 c.in_err-is_route.ensures.text

pub returns-in_err-send-clause-text : goal.returns-in_err-send-clause-text
returns-in_err-send-clause-text g c =
    let failed = err_from_is_err_and c.from_residual-in_err-send.result c.from_residual-in_err-send.ensures.1 in
    rw failed.1 (WritesText-sent {A = ℕ} _ _ _ (Err failed.0) c.new-text.ensures (search rules) c.in_ok-is_route.ensures.text c.in_err-send.ensures)

pub returns-clause-text : goal.returns-clause-text
returns-clause-text g c = WritesText-sent {A = ℕ} {E = ℕ} _ _ _ (Ok 0) c.new-text.ensures (search rules) c.in_ok-is_route.ensures.text c.in_ok-send.ensures
