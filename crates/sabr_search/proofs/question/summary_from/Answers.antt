use Rattle.std.proofs.Common.{arith}
use Rattle.sabr_search.proofs.question.summary_from.Goals as goal

pub returns-clause-counted : goal.returns-clause-counted
returns-clause-counted g c = omega (arith, c.take_many.ensures, c.loop-place.invariant.counted, c.loop-place-test.false, c.loop-place.auto.place-end, c.requires.within)
