use Rattle.std.proofs.Common.{◌≡◌, drop}
use Rattle.sabr_model.specs.plan.Plan.{ContactPlan}
use Rattle.libcgrlist.specs.Additions.{all_put, over_ranges, row_put}
use Rattle.libcgrlist.proofs.additions.put_ranges.Given as goal

abbrev pub invariant-loop-place : goal.invariant-loop-place
invariant-loop-place l = (p : ContactPlan) → all_put row_put l.place (over_ranges p l.growing) (drop l.place l.ranges) ≡ all_put row_put 0 (over_ranges p l.fn.growing) l.ranges
