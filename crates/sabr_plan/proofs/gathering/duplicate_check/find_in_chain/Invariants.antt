use Rattle.sabr_plan.specs.Gathering.{opening_bucket, contact_bucket, stands_at}
use Rattle.sabr_plan.proofs.ChainedPlaces.{IsWalked}
use Rattle.sabr_plan.proofs.GatheredOpenings.{no_contact}
use Rattle.sabr_plan.proofs.gathering.duplicate_check.find_in_chain.Given as goal

abbrev pub invariant-loop-at : goal.invariant-loop-at
invariant-loop-at l = IsWalked contact_bucket (stands_at l.opening) (opening_bucket l.opening) no_contact l.contacts l.at

abbrev pub decreases-loop-at : goal.decreases-loop-at
decreases-loop-at l = l.at
