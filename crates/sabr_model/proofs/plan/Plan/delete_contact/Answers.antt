use Rattle.std.proofs.Common.{◌≡◌, ◌<◌, ◌-◌, ◌∙◌, cond, ltb, length, ap, sym, subst, not, eqb, arith, remove, List}
use Rattle.std.specs.Prelude.{ok_or, Some}
use Rattle.std.specs.List.{find}
use Rattle.std.specs.Option.{option_map}
use Rattle.std.specs.declared.option.Option.{Option}
use Rattle.indexmap.specs.IndexMap.{keys}
use Rattle.sabr_model.specs.declared.contact.Contact.{Contact}
use Rattle.sabr_model.specs.declared.fault.AddFault.TheVariants.{NothingToDelete}
use Rattle.sabr_model.specs.plan.Plan.{ContactPlan, TabledPlan, opens}
use Rattle.sabr_model.specs.plan.Table.{without_number}
use Rattle.sabr_model.specs.plan.Adding.{number_of_opening, without_contact}
use Rattle.sabr_model.specs.plan.Known.{AreKnown}
use Rattle.sabr_model.proofs.PlanLemmas.Deletions.{found_by_number, without_opening, IsPlan-fewer_contacts}
use Rattle.sabr_model.proofs.PlanLemmas.Limits.{few_contacts}
use Rattle.sabr_model.specs.plan.Openings.{IsNoted}
use Rattle.sabr_model.proofs.PlanLemmas.KnownLemmas.{noted_removed, unlit, relit}
use Rattle.sabr_model.proofs.PlanLemmas.Removed.{found_there, others, known_removed}
use Rattle.sabr_model.proofs.plan.Plan.delete_contact.Given.{Over}
use Rattle.sabr_model.proofs.plan.Plan.delete_contact.Goals.{After-index}
use Rattle.sabr_model.proofs.plan.Plan.delete_contact.Goals as goal

-- the contact of the opening is at the place
there : (g : Over) (c : After-index g) → (c.in-Some.place < length c.self.inside.contacts.items) × (find (opens c.args.from c.args.to c.args.start) c.self.inside.contacts.items ≡ Some c.index.result.now)
there g c = found_there (opens c.args.from c.args.to c.args.start) c.self.inside.contacts.items c.deref.result.now c.in-Some.place c.index.result.now c.deref.ensures.value c.in-Some.ensures c.index.ensures

-- the others are left
left : (g : Over) (c : After-index g) → remove c.self.inside.contacts.items c.in-Some.place ≡ without_number c.index.result.now.number c.self.inside.contacts.items
left g c = others c.self.inside.contacts.items c.in-Some.place c.index.result.now c.self.invariant.0.numbers_rise (there g c).0 c.index.ensures

pub find-requires : goal.find-requires
find-requires g c = rw c.deref.ensures.value (record { noted = c.self.invariant.3; numbered = c.self.invariant.0.numbers_rise })

pub index-requires : goal.index-requires
index-requires g c = omega (arith, rw c.deref.ensures.value at c.in-Some.ensures.0, c.self.inside.contacts.ok.0)

pub forget_contact-same_nodes-requires : goal.forget_contact-same_nodes-requires
forget_contact-same_nodes-requires g c =
    let there = there g (goal.at.forget_contact-same_nodes-requires g c).After-index in
    rw c.deref-2.ensures.value (record { numbered = c.self.invariant.0.numbers_rise; stands = found_by_number 0 (opens c.args.from c.args.to c.args.start) c.self.inside.contacts.items c.index.result.now c.self.invariant.0.numbers_rise there.1; table = c.self.invariant.1 })

pub remove-requires : goal.remove-requires
remove-requires g c = omega (arith, (there g (goal.at.remove-requires g c).After-index).0, c.self.inside.contacts.ok.0)

pub remove_known-requires-clause-table : goal.remove_known-requires-clause-table
remove_known-requires-clause-table g c =
    rw (c.deref-3.ensures.value, c.remove.ensures.items, left g (goal.at.remove_known-requires-clause-table g c).After-index) (rw c.deref-2.ensures.value at c.forget_contact-same_nodes.ensures.table)

pub remove_known-requires-clause-few : goal.remove_known-requires-clause-few
remove_known-requires-clause-few g c =
    rw (c.deref-3.ensures.value, c.remove.ensures.items, left g (goal.at.remove_known-requires-clause-few g c).After-index)
    (few_contacts _ (IsPlan-fewer_contacts _ (λ (d : Contact). not (eqb d.number c.index.result.now.number)) c.self.invariant.0))

pub remove_known-requires-clause-place : goal.remove_known-requires-clause-place
remove_known-requires-clause-place g c = omega (arith, (there g (goal.at.remove_known-requires-clause-place g c).After-index).0, c.self.invariant.2.as_many)

pub remove_known-requires-clause-same_nodes : goal.remove_known-requires-clause-same_nodes
remove_known-requires-clause-same_nodes g c = λ same.
    rw (c.deref-3.ensures.value, c.remove.ensures.items, c.forget_contact-same_nodes.ensures.same_nodes same)
    (unlit _ _ _ _ _ _ (known_removed _ _ _ _ c.self.inside.known.items c.in-Some.place (there g (goal.at.remove_known-requires-clause-same_nodes g c).After-index).0 c.self.invariant.2))

pub invariant_of-self : goal.invariant_of-self
invariant_of-self g c =
    let cs = c.self.inside.contacts.items in
    let after = (goal.at.invariant_of-self g c).After-index in
    let left = left g after in
    let kept = c.remove.ensures.items ∙ left in
    rw kept (
      IsPlan-fewer_contacts _ (λ (d : Contact). not (eqb d.number c.index.result.now.number)) c.self.invariant.0,
      rw c.deref-2.ensures.value at c.forget_contact-same_nodes.ensures.table,
      relit _ _ _ _ _ _ c.remove_known.new.known.items
          (subst (λ (ds : List Contact). AreKnown (keys c.self.inside.table) c.self.inside.ranges.items c.self.inside.lit ds (remove c.self.inside.known.items c.in-Some.place)) left (known_removed _ _ _ cs c.self.inside.known.items c.in-Some.place (there g after).0 c.self.invariant.2))
          (rw (c.deref-3.ensures.value, kept) at c.remove_known.ensures.ends)
          c.remove_known.ensures.lights,
      rw (c.remove-2.ensures.numbers, c.remove-2.ensures.noted)
          (subst (λ (ds : List Contact). IsNoted c.self.inside.openings.numbers (cond (ltb c.in-Some.place c.self.inside.openings.noted) (c.self.inside.openings.noted - 1) c.self.inside.openings.noted) ds) left
          (noted_removed c.self.inside.openings.numbers c.self.inside.openings.noted cs c.self.invariant.3 c.in-Some.place (there g after).0)),
    )

pub returns-clause-value : goal.returns-clause-value
returns-clause-value g c =
    ap (λ (o : Option Contact). ok_or (option_map (λ (d : Contact). d.number) o) NothingToDelete) (sym (there g (goal.at.returns-clause-value g c).After-index).1)
    ∙ ap (λ (q : TabledPlan). ok_or (number_of_opening q.plan c.args.from c.args.to c.args.start) NothingToDelete) c.self.view_is

pub returns-clause-ok : goal.returns-clause-ok
returns-clause-ok g c =
    let after = (goal.at.returns-clause-ok g c).After-index in
    let p : ContactPlan = record { contacts = c.self.inside.contacts.items; ranges = c.self.inside.ranges.items; largest = c.self.inside.largest } in
    ap (λ (xs : List Contact). let q : ContactPlan = record { contacts = xs; ranges = p.ranges; largest = p.largest } in q)
    (c.remove.ensures.items ∙ left g after ∙ sym (without_opening p c.args.from c.args.to c.args.start c.index.result.now c.self.invariant.0 (there g after).1))
    ∙ ap (λ (q : TabledPlan). without_contact q.plan c.args.from c.args.to c.args.start) c.self.view_is
