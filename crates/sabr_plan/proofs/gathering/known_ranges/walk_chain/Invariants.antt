use Rattle.sabr_plan.proofs.Names.{Range, overlap}
use Rattle.sabr_plan.specs.Gathering.{range_bucket}
use Rattle.sabr_plan.proofs.ChainedPlaces.{IsWalked}
use Rattle.sabr_plan.proofs.gathering.known_ranges.walk_chain.Given as goal

abbrev none : Range
none = record { one = 0; other = 0; start = 0; end = 0; light = 0 }

abbrev pub invariant-loop-at : goal.invariant-loop-at
invariant-loop-at l = IsWalked range_bucket (overlap l.range) (range_bucket l.range) none l.ranges l.at

abbrev pub decreases-loop-at : goal.decreases-loop-at
decreases-loop-at l = l.at
