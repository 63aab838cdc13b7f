-- Digits, few enough to be small, spell what they stand for.
use Rattle.sabr_plan.proofs.Names.{Some, sym, ap, ◌∙◌}
use Rattle.sabr_plan.proofs.SpelledNumbers.{small_digits, within_yes}
use Rattle.sabr_plan.proofs.number.checked_value.Goals as goal

pub returns-clause-value : goal.returns-clause-value
returns-clause-value c =
    let h = c.requires in
    let word = c.args.word.now in
    let start = c.starts_amiss.ensures c.if-starts_amiss.false in
    within_yes c.args.low c.args.high word c.ranges.high.fits c.args.value (small_digits word start.0 h.digits h.few ∙ ap Some (sym h.stands)) start.1 c.if-value-low.false c.if-value-high.false
