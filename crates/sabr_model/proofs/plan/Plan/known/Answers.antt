use Rattle.std.proofs.Common.{subst}
use Rattle.sabr_model.specs.plan.Plan.{TabledPlan}
use Rattle.sabr_model.specs.plan.Known.{AreEnds}
use Rattle.sabr_model.proofs.PlanLemmas.KnownLemmas.{unlit}
use Rattle.sabr_model.proofs.plan.Plan.known.Goals as goal

pub returns : goal.returns
returns g c =
    rw c.deref.ensures.value (subst (λ (q : TabledPlan). AreEnds q.table q.plan.contacts c.self.inside.known.items) c.self.view_is (unlit _ _ _ _ _ _ c.self.invariant.2))
