use Rattle.std.proofs.Common.{sym, subst}
use Rattle.sabr_model.specs.plan.Plan.{TabledPlan, IsPlan}
use Rattle.sabr_model.proofs.PlanLemmas.KnownLemmas.{unlit}
use Rattle.sabr_model.proofs.plan.Plan.set_ranges.Goals as goal

pub invariant_of-self : goal.invariant_of-self
invariant_of-self g c = (
  subst (λ (q : TabledPlan). IsPlan (record { contacts = q.plan.contacts; ranges = c.args.ranges.items; largest = q.plan.largest })) (sym c.self.view_is) c.requires,
  c.self.invariant.1,
  unlit _ _ _ _ _ _ c.self.invariant.2,
  c.self.invariant.3,
)
