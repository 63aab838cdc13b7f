use Rattle.sabr_model.specs.plan.Plan.{IsWindow}
use Rattle.sabr_model.proofs.PlanLemmas.RangeLemmas.{all_at}
use Rattle.libcgrlist.specs.PlanTexts.{range_line}
use Rattle.libcgrlist.proofs.PlanTextPieces.{record_put}
use Rattle.libcgrlist.proofs.plan_text.put_ranges.Goals as goal

pub put_range-requires : goal.put_range-requires
put_range-requires c = all_at (λ r. IsWindow r.start r.end) c.args.ranges.now c.loop-range.range-index _ c.requires c.loop-range-test.true

pub loop-range-preserved : goal.loop-range-preserved
loop-range-preserved c = record_put range_line c.args.ranges.now c.loop-range.range-index _ c.args.text.now.items c.loop-range.text.items c.put_range.new.text.items c.loop-range-test.true c.loop-range.invariant c.in_ok-put_range.ensures
