use Rattle.std.proofs.Common.{arith}
use Rattle.sabr_search.proofs.LinkLemmas.Rising.{within_span}
use Rattle.sabr_search.proofs.links.finger.is_outside.Goals as goal

pub returns-then-number-least : goal.returns-then-number-least
returns-then-number-least c = λ summary has. omega (arith, c.if-number-least.true, (within_span c.args.numbers.now c.requires c.args.number has).0)

pub returns-then-largest-number : goal.returns-then-largest-number
returns-then-largest-number c = λ summary has. omega (arith, c.if-largest-number.true, (within_span c.args.numbers.now c.requires c.args.number has).1)
