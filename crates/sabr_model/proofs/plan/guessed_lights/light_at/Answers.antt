use Rattle.sabr_model.proofs.PlanLemmas.RangeOrder.{told_at}
use Rattle.sabr_model.proofs.plan.guessed_lights.light_at.Goals as goal

pub returns : goal.returns
returns c = let found = c.in_ok-get.ensures.lookup.3 in told_at c.args.ranges.now c.requires c.args.one c.args.other c.args.t c.args.place c.in_ok-get.field-0.now c.light_of_range.result found.0 found.1 c.light_of_range.ensures
