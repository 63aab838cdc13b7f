-- The contact ends at its start, and its opening stays in its chain.
use Rattle.sabr_plan.proofs.Names.{true, false, map, ◌≡◌, ◌∙◌, get_or, set, not, refl, sym, ap, subst, Some, None, ok_or, Contact, Opening, IsPlan, opens, IsPlan-fewer_contacts}
use Rattle.std.proofs.Math.Seq.{map-set_same}
use Rattle.sabr_model.specs.declared.fault.AddFault.TheVariants.{NothingToDelete}
use Rattle.sabr_plan.specs.Gathering.{AreChained, plan_of_contacts, standing, contact_bucket, KnowsSome, IsFound, IsTreed}
use Rattle.sabr_plan.proofs.GatheredOpenings.{ended, no_contact, deletes, gone, none_found, open_by_set, there}
use Rattle.sabr_plan.proofs.TreedOpenings.{treed_set}
use Rattle.sabr_plan.proofs.gathering.gathered_contacts.GatheredContacts.delete.Goals as goal

pub returns-in_default-clause-value : goal.returns-in_default-clause-value
returns-in_default-clause-value g c =
    let o : Opening = record { from = c.args.from; to = c.args.to; start = c.args.start } in
    let cs = c.self.inside.contacts.items in
    let found : IsFound o cs None = subst (λ ds. IsFound o ds None) c.deref.ensures.value (c.in_default.ensures {u = tt}).found in
    rw (← c.self.view_is, none_found o cs found) refl

pub invariant_of-self-2 : goal.invariant_of-self-2
invariant_of-self-2 g c =
    let o : Opening = record { from = c.args.from; to = c.args.to; start = c.args.start } in
    let s = c.self.inside in
    let cs = s.contacts.items in
    let k = c.in-Some.index in
    let chains = c.find_standing.new.chains in
    let tree = c.find_standing.new.tree in
    let found : IsFound o cs (Some k) = subst (λ ds. IsFound o ds (Some k)) c.deref.ensures.value (c.in-Some.ensures {u = tt}).found in
    let left = deletes o cs k found c.self.invariant.0.openings_differ in
    let then = ended (get_or cs k no_contact) c.args.start in
    let chained = subst (λ ds. AreChained (map contact_bucket ds) chains.befores.items chains.lasts.items) c.deref.ensures.value c.find_standing.ensures.chained in
    subst (λ x. IsPlan (plan_of_contacts (standing (set cs k (ended x c.args.start))) s.largest) × KnowsSome chains.befores.items chains.lasts.items s.openings.in_order s.openings.last (set cs k (ended x c.args.start)) × IsTreed tree.indexes tree.treed (set cs k (ended x c.args.start)) × (true ≡ false → standing (set cs k (ended x c.args.start)) ≡ set cs k (ended x c.args.start))) (sym (there cs k c.index_mut.result.now found.0 c.index_mut.ensures.value)) (
      subst (λ ds. IsPlan (plan_of_contacts ds s.largest)) (sym left.0) (IsPlan-fewer_contacts (plan_of_contacts (standing cs) s.largest) (λ d. not (opens o.from o.to o.start d)) c.self.invariant.0),
      (
        subst (λ ks. AreChained ks chains.befores.items chains.lasts.items) (sym (map-set_same contact_bucket cs k then no_contact refl)) chained,
        λ up. open_by_set s.openings.last cs k c.args.start (c.self.invariant.1.1 up),
      ),
      treed_set tree.indexes tree.treed cs k then (subst (IsTreed tree.indexes tree.treed) c.deref.ensures.value c.find_standing.ensures.treed) found.0 (gone o cs k found),
      λ no. absurd cc,
    )

pub returns-clause-value : goal.returns-clause-value
returns-clause-value g c =
    let o : Opening = record { from = c.args.from; to = c.args.to; start = c.args.start } in
    let cs = c.self.inside.contacts.items in
    let k = c.in-Some.index in
    let found : IsFound o cs (Some k) = subst (λ ds. IsFound o ds (Some k)) c.deref.ensures.value (c.in-Some.ensures {u = tt}).found in
    rw (← c.self.view_is, (deletes o cs k found c.self.invariant.0.openings_differ).1) (ap (λ (d : Contact). ok_or (Some d.number) NothingToDelete) (there cs k c.index.result.now found.0 c.index.ensures))

pub returns-clause-ok : goal.returns-clause-ok
returns-clause-ok g c =
    let o : Opening = record { from = c.args.from; to = c.args.to; start = c.args.start } in
    let s = c.self.inside in
    let cs = s.contacts.items in
    let k = c.in-Some.index in
    let found : IsFound o cs (Some k) = subst (λ ds. IsFound o ds (Some k)) c.deref.ensures.value (c.in-Some.ensures {u = tt}).found in
    let left = deletes o cs k found c.self.invariant.0.openings_differ in
    rw (← c.self.view_is) (ap (λ x. plan_of_contacts (standing (set cs k (ended x c.args.start))) s.largest) (there cs k c.index_mut.result.now found.0 c.index_mut.ensures.value) ∙ ap (λ ds. plan_of_contacts ds s.largest) left.0)
