use Rattle.sabr_plan.proofs.Names.{◌∙◌, ap, sym, rules, ContactPlan}
use Rattle.std.proofs.lemmas.Fn.{filter_same}
use Rattle.sabr_plan.specs.Gathering.{stands}
use Rattle.sabr_plan.proofs.gathering.gathered_contacts.GatheredContacts.into_contacts.Goals.{then-has_deleted, else-has_deleted}
use Rattle.sabr_plan.proofs.gathering.gathered_contacts.GatheredContacts.into_contacts.Goals as goal

pub returns-clause-contacts : goal.returns-clause-contacts
returns-clause-contacts g c =
    let viewed = ap (λ (p : ContactPlan). p.contacts) c.self.view_is in
    elim c.if-has_deleted.branch [
      | then-has_deleted w ↦ rw w.contacts-is (filter_same _ stands _ (λ d b f' k. search rules) _ _ w.retain.ensures.filtered ∙ viewed)
      | else-has_deleted w ↦ rw w.contacts-is (sym (c.self.invariant.3 w.if-has_deleted.false) ∙ viewed)
    ]
