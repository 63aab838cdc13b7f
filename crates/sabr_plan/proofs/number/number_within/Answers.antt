-- What digits stand for is what they spell.
use Rattle.sabr_plan.proofs.Names.{sym, ◌∙◌, arith, nat_tests}
use Rattle.sabr_plan.proofs.SpelledNumbers.{within, within_yes}
use Rattle.sabr_plan.proofs.number.number_within.Goals as goal

pub returns-then-leads_with_zero-clause-value : goal.returns-then-leads_with_zero-clause-value
returns-then-leads_with_zero-clause-value c = let is = within c.args.low c.args.high c.args.text.now c.ranges.high.fits c.in_ok-value.value (sym c.in_ok-value.ensures) in grind (arith, nat_tests, c.then-leads_with_zero.either)

pub returns-clause-value : goal.returns-clause-value
returns-clause-value c =
    sym (within_yes c.args.low c.args.high c.args.text.now c.ranges.high.fits c.in_ok-value.value (sym c.in_ok-value.ensures) (sym c.leads_with_zero.ensures ∙ c.if-leads_with_zero.false) c.if-value-low.false c.if-value-high.false)
