-- The last range that begins before the end overlaps, or none does.
use Rattle.sabr_plan.proofs.Names.{◌∙◌, sym, ap, list_any, values, overlap, range_list}
use Rattle.sabr_plan.specs.Gathering.{plan_of_ranges}
use Rattle.sabr_plan.proofs.RangeTrees.{overlaps_no_range, overlaps_last}
use Rattle.sabr_plan.proofs.gathering.range_tree.RangeTree.overlaps.Goals as goal

pub returns-in-Some : goal.returns-in-Some
returns-in-Some g c =
    let m = c.self.inside.ranges in
    let h = c.self.invariant in
    let r = c.args.range.now in
    let last = overlaps_last m (values m) h.0 h.1.ranges_rise (range_list (plan_of_ranges (values m)) h.1) r c.range.result (c.range.ensures.in_range tt) c.next_back.new.self (c.in-Some.field-0-0.now, c.in-Some.last.now) c.in-Some.ensures.steps in
    c.overlaps.ensures ∙ sym last ∙ ap (list_any (overlap r)) c.self.view_is

pub returns-in-None : goal.returns-in-None
returns-in-None g c =
    let m = c.self.inside.ranges in
    let h = c.self.invariant in
    let r = c.args.range.now in
    let none = overlaps_no_range m (values m) h.0 h.1.ranges_rise (range_list (plan_of_ranges (values m)) h.1) r c.range.result (c.range.ensures.in_range tt) c.in-None.ensures.steps.0 in
    sym none ∙ ap (list_any (overlap r)) c.self.view_is
