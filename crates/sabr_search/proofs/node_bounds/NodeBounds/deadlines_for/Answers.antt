use Rattle.std.proofs.Common.{arith}
use Rattle.sabr_search.proofs.BackwardLemmas.Relaxing.{late_before}
use Rattle.sabr_search.proofs.node_bounds.NodeBounds.deadlines_for.Goals as goal

pub returns : goal.returns
returns g c = λ p r is. rw c.deref.ensures.value (late_before p r _ _ _ (omega (arith, c.if-until-last.true)) (rw (c.in-Some.is, c.in-Some-deadline_until.is) at is.deadline_until))

pub returns-2 : goal.returns-2
returns-2 g c = λ p r is. rw c.deref-2.ensures.value (late_before p r _ _ _ (omega (arith, c.ranges.until)) is.deadline)
