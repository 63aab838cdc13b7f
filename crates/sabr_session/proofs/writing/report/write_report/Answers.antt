use Rattle.std.proofs.Common.{rules}
use Rattle.sabr_session.proofs.TextLemmas.Gathering.{WritesText-stopped, WritesText-sent}
use Rattle.sabr_session.proofs.writing.report.write_report.Goals as goal

pub returns-in_err-put_report : goal.returns-in_err-put_report
returns-in_err-put_report g c =
    WritesText-stopped _ _ _ c.from_residual.result c.new-text.ensures (search rules) c.from_residual.ensures.1 c.in_err-put_report.ensures

pub returns : goal.returns
returns g c = WritesText-sent _ _ _ c.send.result c.new-text.ensures (search rules) c.in_ok-put_report.ensures c.send.ensures
