use Rattle.std.proofs.Common.{◌≡◌, ◌<◌, Some, length, ap, sym, subst, ◌∙◌}
use Rattle.std.proofs.lemmas.Option.{slice_get-get_or}
use Rattle.sabr_model.specs.declared.contact.Contact.{Contact}
use Rattle.sabr_model.specs.plan.Plan.{TabledPlan, contact_named}
use Rattle.sabr_model.proofs.PlanLemmas.Numbered.{found_here}
use Rattle.sabr_model.proofs.plan.Plan.hop_at.Goals as goal

pub returns-clause-hop : goal.returns-clause-hop
returns-clause-hop g c =
    let cs = c.self.inside.contacts.items in
    let x = c.index-contact.result.now in
    let read = c.index-contact.ensures in
    let within : c.args.place < length cs = subst (λ (q : TabledPlan). c.args.place < length q.plan.contacts) (sym c.self.view_is) c.requires in
    let found = found_here 0 cs x.number c.args.place x c.self.invariant.0.numbers_rise within (sym (ap (λ (d : Contact). d.number) read)) in
    record {
      contact = x;
      named = subst (λ (q : TabledPlan). contact_named q.plan x.number ≡ Some x) c.self.view_is (found ∙ slice_get-get_or cs c.args.place x within ∙ ap Some (sym read));
      is = c.hop_of.ensures;
    }
