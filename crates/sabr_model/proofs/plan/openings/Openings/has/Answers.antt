use Rattle.std.proofs.Common.{◌∙◌}
use Rattle.sabr_model.specs.plan.Plan.{opens}
use Rattle.sabr_model.proofs.PlanLemmas.KnownLemmas.{any_at_place}
use Rattle.sabr_model.proofs.plan.openings.Openings.has.Goals as goal

pub returns : goal.returns
returns g c = c.is_some.ensures ∙ any_at_place (opens c.args.from c.args.to c.args.start) c.args.contacts.now c.find.result c.find.ensures
