use Rattle.sabr_plan.proofs.Names.{sym, ◌∙◌, arith}
use Rattle.sabr_plan.proofs.ChainedPlaces.{walk_ends, walk_on}
use Rattle.sabr_plan.proofs.gathering.duplicate_check.find_in_chain.Goals as goal

pub loop-at-preserved : goal.loop-at-preserved
loop-at-preserved c = (walk_on c.loop-at.invariant _ _ c.requires.chained c.requires.all c.loop-at-test.true (sym c.stands_at.ensures ∙ c.if-stands_at.false)).0

pub returns : goal.returns
returns c = walk_ends c.loop-at.invariant (omega (arith, c.loop-at-test.false))
