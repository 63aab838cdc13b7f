use Rattle.std.proofs.Common.{rules}
use Rattle.sabr_session.proofs.TextLemmas.Gathering.{HasPut-append, StopsIn-after, StopsIn-before, WritesText-sent, WritesText-stopped}
use Rattle.commands.proofs.runs.answering.write_explained.Goals as goal

pub returns-in_err-put_heading : goal.returns-in_err-put_heading
returns-in_err-put_heading g c =
    WritesText-stopped _ _ _ c.from_residual.result c.new-text.ensures (search rules) c.from_residual.ensures.1 (StopsIn-before _ _ c.in_err-put_heading.ensures)

pub returns-in_err-put_explanation : goal.returns-in_err-put_explanation
returns-in_err-put_explanation g c =
    WritesText-stopped _ _ _ c.from_residual-in_err-put_explanation.result c.new-text.ensures (search rules) c.from_residual-in_err-put_explanation.ensures.1
    (StopsIn-after _ _ c.in_ok-put_heading.ensures (rw c.as_slice.ensures at c.in_err-put_explanation.ensures.text))

pub returns : goal.returns
returns g c =
    WritesText-sent _ _ _ c.send.result c.new-text.ensures (search rules) (HasPut-append _ _ c.in_ok-put_heading.ensures (rw c.as_slice.ensures at c.in_ok-put_explanation.ensures.text)) c.send.ensures
