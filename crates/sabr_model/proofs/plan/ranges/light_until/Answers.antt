use Rattle.std.proofs.Common.{sym, ◌∙◌}
use Rattle.sabr_model.specs.declared.contact.Range.{Range}
use Rattle.sabr_model.proofs.PlanLemmas.RangeOrder.{light_none, light_told}
use Rattle.sabr_model.proofs.plan.ranges.light_until.Goals as goal

pub returns-then-count-eq0 : goal.returns-then-count-eq0
returns-then-count-eq0 c =
    sym (light_none c.args.ranges.now c.requires.ranges c.args.one c.args.other c.args.t c.args.count c.requires.count c.if-count-eq0.true)

pub returns : goal.returns
returns c =
    let e : Range = record { one = 0; other = 0; start = 0; end = 0; light = 0 } in
    c.light_of_range.ensures
    ∙ sym (light_told c.args.ranges.now c.requires.ranges c.args.one c.args.other c.args.t c.args.count e c.requires.count c.if-count-eq0.false)
