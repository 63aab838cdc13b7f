use Rattle.std.proofs.Common.{ℕ, ◌+◌, List, drop, suc, add-one, arith}
use Rattle.sabr_model.specs.routes.Record.{RouteRecord}
use Rattle.sabr_session.specs.ReportText.{report_line, report_lines}
use Rattle.sabr_session.proofs.TextLemmas.Gathering.{HasPut-append, Puts-stopped, Puts-after, report_lines-at, report_lines-take}
use Rattle.sabr_session.proofs.writing.report.put_lines.Goals as goal

pub returns-in_err-put_line : goal.returns-in_err-put_line
returns-in_err-put_line g c =
    let xs : List RouteRecord = c.args.routes.now in
    let i : ℕ = c.loop-route.route-index in
    let first : ℕ = c.args.first_rank in
    let x : RouteRecord = c.route-item.result in
    let h = c.in_err-put_line.ensures {u = tt} in
    rw (report_lines-at first xs i x c.loop-route-test.true, ← c.route-item.is)
    (Puts-after _ _ _ _ c.loop-route.invariant.gathered
    (Puts-stopped _ (report_line (first + i) x) (report_lines (first + i + 1) (drop (suc i) xs)) c.from_residual.result c.from_residual.ensures.1 (rw c.loop-route.invariant.counted at h)))

pub loop-route-preserved : goal.loop-route-preserved
loop-route-preserved g c =
    let xs : List RouteRecord = c.args.routes.now in
    let i : ℕ = c.loop-route.route-index in
    let x : RouteRecord = c.route-item.result in
    let h = c.in_ok-put_line.ensures {u = tt} in
    record {
      counted = omega (arith, c.loop-route.invariant.counted);
      gathered =
          rw (add-one, report_lines-take c.args.first_rank xs i x c.loop-route-test.true, ← c.route-item.is)
          (HasPut-append _ _ c.loop-route.invariant.gathered (rw c.loop-route.invariant.counted at h));
    }
