use Rattle.sabr_session.specs.ReportText.{report_lines, last_line}
use Rattle.sabr_session.proofs.TextLemmas.Gathering.{Puts-after, Puts-stopped}
use Rattle.sabr_session.proofs.writing.report.put_report.Goals as goal

pub returns-in_err-put_lines : goal.returns-in_err-put_lines
returns-in_err-put_lines g c =
    Puts-stopped _ (report_lines c.args.first_rank c.args.routes.now) (last_line c.args.more) c.from_residual.result c.from_residual.ensures.1 c.in_err-put_lines.ensures

pub returns : goal.returns
returns g c = Puts-after _ (report_lines c.args.first_rank c.args.routes.now) (last_line c.args.more) c.put_last_line.result c.in_ok-put_lines.ensures c.put_last_line.ensures
