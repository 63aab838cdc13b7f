use Rattle.sabr_plan.proofs.Names.{◌≡◌, ◌+◌, ◌-◌, ◌<◌, ◌≤◌, get_or, List, ℕ, Bool, ◌++◌, length}
use Rattle.sabr_plan.specs.Feeding.{outcome, weight}
use Rattle.sabr_plan.proofs.feed.PlanFeed.feed.Given as goal

abbrev pub invariant-loop-rest : goal.invariant-loop-rest
invariant-loop-rest g l = record {
  same : ((more : List ℕ) (ended : Bool) → outcome l.initial.self (l.piece ++ more) ended ≡ outcome l.self ((l.rest ++ l.tail) ++ more) ended);
  grows : weight l.initial.self + length l.piece ≤ weight l.self + length (l.rest ++ l.tail);
  ended : 0 < length l.rest → get_or l.rest (length l.rest - 1) 0 ≡ 10;
}

abbrev pub decreases-loop-rest : goal.decreases-loop-rest
decreases-loop-rest g l = length l.rest
