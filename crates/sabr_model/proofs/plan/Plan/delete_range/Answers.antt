use Rattle.std.proofs.Common.{ap, not, rules}
use Rattle.std.proofs.lemmas.Fn.{filter_same}
use Rattle.sabr_model.specs.plan.Plan.{ContactPlan, TabledPlan}
use Rattle.sabr_model.specs.plan.Adding.{begins, without_range}
use Rattle.sabr_model.proofs.PlanLemmas.Deletions.{IsPlan-fewer_ranges}
use Rattle.sabr_model.proofs.PlanLemmas.KnownLemmas.{unlit}
use Rattle.sabr_model.proofs.plan.Plan.delete_range.Goals as goal

pub invariant_of-self : goal.invariant_of-self
invariant_of-self g c =
    let p : ContactPlan = record { contacts = c.self.inside.contacts.items; ranges = c.self.inside.ranges.items; largest = c.self.inside.largest } in
    let kept = filter_same _ (λ r. not (begins c.args.one c.args.other c.args.start r)) _ (λ r b f' k. search rules) _ _ c.retain.ensures.filtered in
    rw kept (IsPlan-fewer_ranges p (λ r. not (begins c.args.one c.args.other c.args.start r)) c.self.invariant.0, c.self.invariant.1, unlit _ _ _ _ _ _ c.self.invariant.2, c.self.invariant.3)

pub returns-clause-ok : goal.returns-clause-ok
returns-clause-ok g c =
    let kept = filter_same _ (λ r. not (begins c.args.one c.args.other c.args.start r)) _ (λ r b f' k. search rules) _ _ c.retain.ensures.filtered in
    rw kept (ap (λ (q : TabledPlan). let r : TabledPlan = record { plan = without_range q.plan c.args.one c.args.other c.args.start; table = q.table } in r) c.self.view_is)
