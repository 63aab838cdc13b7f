-- A range that begins after all others end overlaps none. Else it is looked for along a chain.
use Rattle.sabr_plan.proofs.Names.{◌∙◌, sym}
use Rattle.sabr_plan.proofs.SortedRanges.{later_end, overlaps_none}
use Rattle.sabr_plan.proofs.gathering.known_ranges.KnownRanges.overlaps.Goals as goal

pub returns-then-in_key_order-clause-value : goal.returns-then-in_key_order-clause-value
returns-then-in_key_order-clause-value g c = sym (overlaps_none c.args.range.now c.args.ranges.now (later_end _ _ _ (sym c.in_key_order.ensures ∙ c.if-in_key_order.true) (c.requires.1 c.if-self.true)))

pub returns-then-in_key_order-clause-rises : goal.returns-then-in_key_order-clause-rises
returns-then-in_key_order-clause-rises g c = λ up. later_end _ _ _ (sym c.in_key_order.ensures ∙ c.if-in_key_order.true) (c.requires.1 up)
