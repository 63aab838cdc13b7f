use Rattle.std.proofs.Common.{sym, ◌∙◌}
use Rattle.sabr_model.specs.declared.contact.Range.{Range}
use Rattle.sabr_model.proofs.PlanLemmas.RangeOrder.{overlap_none, overlap_told}
use Rattle.sabr_model.proofs.contact.Range.overlaps_some.Goals as goal

pub returns-then-count-eq0 : goal.returns-then-count-eq0
returns-then-count-eq0 c =
    sym (overlap_none c.args.ranges.now c.requires c.args.self.now c.ranges_until-count.result (rw c.saturating_sub-last.ensures at c.ranges_until-count.ensures) c.if-count-eq0.true)

pub returns : goal.returns
returns c =
    let e : Range = record { one = 0; other = 0; start = 0; end = 0; light = 0 } in
    c.overlaps.ensures
    ∙ sym (overlap_told c.args.ranges.now c.requires c.args.self.now c.ranges_until-count.result e (rw c.saturating_sub-last.ensures at c.ranges_until-count.ensures) c.if-count-eq0.false)
