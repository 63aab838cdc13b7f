use Rattle.sabr_plan.proofs.Names.{◌≡◌, ◌∙◌, ap, arith, list_any, Opening, ContactPlan, opens}
use Rattle.sabr_plan.specs.Gathering.{stands_at}
use Rattle.sabr_plan.proofs.GatheredOpenings.{any_standing, by_pass, found_any}
use Rattle.sabr_plan.proofs.gathering.gathered_contacts.GatheredContacts.fault.Goals as goal

pub returns : goal.returns
returns g c =
    let o : Opening = record { from = c.args.from; to = c.args.to; start = c.args.start } in
    let p = opens o.from o.to o.start in
    let clashes : c.is_some-clashes.result ≡ list_any p c.args.self.now.contacts =
    c.is_some-clashes.ensures ∙ found_any o _ _ (by_pass o _ _ c.find_by_pass.ensures) ∙ ap (list_any (stands_at o)) c.deref.ensures.value ∙ any_standing p c.self.inside.contacts.items ∙ ap (λ (q : ContactPlan). list_any p q.contacts) c.self.view_is in
    grind (arith, clashes)
