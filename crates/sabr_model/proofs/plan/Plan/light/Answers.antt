use Rattle.std.proofs.Common.{◌≡◌, Option, ℕ, ◌≤◌, List, ap, sym, subst, ◌∙◌}
use Rattle.std.specs.Prelude.{IfSome}
use Rattle.sabr_model.specs.declared.contact.Range.{Range}
use Rattle.sabr_model.specs.plan.Light.{light_of}
use Rattle.sabr_model.specs.plan.Plan.{ContactPlan, TabledPlan}
use Rattle.sabr_model.proofs.PlanLemmas.RangeOrder.{range_list, light_of_limit}
use Rattle.sabr_model.proofs.plan.Plan.light.Goals as goal

pub light_of_contact-requires : goal.light_of_contact-requires
light_of_contact-requires g c =
    rw c.deref.ensures.value (range_list _ c.self.invariant.0)

pub returns : goal.returns
returns g c =
    let p : ContactPlan = record { contacts = c.self.inside.contacts.items; ranges = c.self.inside.ranges.items; largest = c.self.inside.largest } in
    let contact = c.args.contact.now in
    let is : c.light_of_contact.result ≡ light_of p contact =
    c.light_of_contact.ensures ∙ ap (λ (rs : List Range). let q : ContactPlan = record { contacts = p.contacts; ranges = rs; largest = p.largest } in light_of q contact) c.deref.ensures.value in
    record {
      value = is ∙ ap (λ (q : TabledPlan). light_of q.plan contact) c.self.view_is;
      limit = subst (λ (o : Option ℕ). IfSome o (λ l. l ≤ 1000000)) (sym is) (light_of_limit p contact c.self.invariant.0);
    }
