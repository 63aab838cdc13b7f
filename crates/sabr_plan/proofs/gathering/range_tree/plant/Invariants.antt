use Rattle.sabr_plan.proofs.Names.{◌≡◌, ◌≤◌, length, drop, map}
use Rattle.sabr_plan.specs.Gathering.{keyed}
use Rattle.sabr_plan.proofs.gathering.range_tree.plant.Given as goal

abbrev pub invariant-loop-left : goal.invariant-loop-left
invariant-loop-left g l = (l.left ≤ length l.ranges) × (l.planted.entries ≡ map keyed (drop l.left l.ranges))

abbrev pub decreases-loop-left : goal.decreases-loop-left
decreases-loop-left g l = l.left
