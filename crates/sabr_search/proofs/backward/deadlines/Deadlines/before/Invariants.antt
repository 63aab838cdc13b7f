use Rattle.sabr_search.proofs.WholeLemmas.Chained.{IsLastTo}
use Rattle.sabr_search.proofs.backward.deadlines.Deadlines.before.Given as goal

abbrev pub invariant-loop-place : goal.invariant-loop-place
invariant-loop-place g l = IsLastTo l.self.entries.items l.node l.end l.place

abbrev pub decreases-loop-place : goal.decreases-loop-place
decreases-loop-place g l = l.place
