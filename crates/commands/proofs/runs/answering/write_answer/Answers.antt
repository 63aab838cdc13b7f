use Rattle.std.proofs.Common.{rules}
use Rattle.sabr_session.proofs.TextLemmas.Gathering.{HasPut-append, StopsIn-after, StopsIn-before, WritesText-sent, WritesText-stopped}
use Rattle.commands.proofs.runs.answering.write_answer.Goals as goal

pub returns-in_err-put_heading : goal.returns-in_err-put_heading
returns-in_err-put_heading g c =
    WritesText-stopped _ _ _ c.from_residual.result c.new-text.ensures (search rules) c.from_residual.ensures.1 (StopsIn-before _ _ c.in_err-put_heading.ensures)

pub returns-in_err-put_report : goal.returns-in_err-put_report
returns-in_err-put_report g c =
    WritesText-stopped _ _ _ c.from_residual-in_err-put_report.result c.new-text.ensures (search rules) c.from_residual-in_err-put_report.ensures.1
    (StopsIn-after _ _ c.in_ok-put_heading.ensures (rw (c.routes.ensures, c.more.ensures) at c.in_err-put_report.ensures))

pub returns : goal.returns
returns g c =
    WritesText-sent _ _ _ c.send.result c.new-text.ensures (search rules)
    (HasPut-append _ _ c.in_ok-put_heading.ensures (rw (c.routes.ensures, c.more.ensures) at c.in_ok-put_report.ensures)) c.send.ensures
