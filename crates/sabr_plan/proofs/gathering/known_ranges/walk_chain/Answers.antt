use Rattle.sabr_plan.proofs.Names.{ap, not, sym, ◌∙◌, arith}
use Rattle.sabr_plan.proofs.ChainedPlaces.{walk_ends, walk_on}
use Rattle.sabr_plan.proofs.gathering.known_ranges.walk_chain.Goals as goal

pub loop-at-preserved : goal.loop-at-preserved
loop-at-preserved c = (walk_on c.loop-at.invariant _ _ c.requires.chained c.requires.all c.loop-at-test.true (sym c.overlaps.ensures ∙ c.if-overlaps.false)).0

pub returns : goal.returns
returns c = sym (ap not (walk_ends c.loop-at.invariant (omega (arith, c.loop-at-test.false))))
