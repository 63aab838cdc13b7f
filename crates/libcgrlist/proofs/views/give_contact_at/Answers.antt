use Rattle.std.proofs.Common.{◌≡◌, Some, length, slice_get, ap, sym, subst, ◌∙◌}
use Rattle.std.proofs.lemmas.Bool.{ltb-true}
use Rattle.std.proofs.lemmas.Option.{get_or_from_slice_get, slice_get-get_or, slice_get_within}
use Rattle.sabr_model.specs.declared.contact.Contact.{Contact}
use Rattle.sabr_model.proofs.PlanLemmas.Numbered.{found_here}
use Rattle.libcgrlist.specs.Views.{Gives}
use Rattle.libcgrlist.proofs.views.give_contact_at.Goals as goal

pub returns : goal.returns
returns c =
    let p = c.args.plan.now.plan in
    let contact : Contact = c.in-Some.contact.now in
    let lookup = (c.in-Some.ensures {u = tt}).lookup in
    let there : slice_get c.contacts.result.now c.args.place ≡ Some contact = slice_get-get_or c.contacts.result.now c.args.place _ (ltb-true c.args.place (length c.contacts.result.now) (sym lookup.0)) ∙ ap Some (sym lookup.1) in
    let at : slice_get p.contacts c.args.place ≡ Some contact = subst (λ cs. slice_get cs c.args.place ≡ Some contact) c.contacts.ensures.value there in
    let number = ap (λ (d : Contact). d.number) (get_or_from_slice_get p.contacts c.args.place contact contact at) in
    subst (λ o. Gives p o c.give_contact.result c.args.row.now c.give_contact.new.row)
    (found_here 0 p.contacts contact.number c.args.place contact c.rules_hold.ensures.numbers_rise (slice_get_within p.contacts c.args.place contact at) number) c.give_contact.ensures
