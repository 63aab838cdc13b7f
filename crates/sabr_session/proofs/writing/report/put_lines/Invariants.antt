use Rattle.std.proofs.Common.{◌≡◌, ◌+◌, take}
use Rattle.sabr_session.specs.Gathering.{HasPut}
use Rattle.sabr_session.specs.ReportText.{report_lines}
use Rattle.sabr_session.proofs.writing.report.put_lines.Given as goal

abbrev pub invariant-loop-route : goal.invariant-loop-route
invariant-loop-route g l = record {
  counted : l.rank ≡ l.fn.first_rank + l.route-index;
  gathered : HasPut g.W.Write.output l.fn.text (report_lines l.fn.first_rank (take l.route-index l.routes)) l.text;
}
