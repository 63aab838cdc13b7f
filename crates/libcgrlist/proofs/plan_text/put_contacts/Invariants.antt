use Rattle.std.proofs.Common.{◌≡◌, ◌++◌, drop}
use Rattle.libcgrlist.specs.PlanTexts.{contacts_text}
use Rattle.libcgrlist.proofs.plan_text.put_contacts.Given as goal

abbrev pub invariant-loop-contact : goal.invariant-loop-contact
invariant-loop-contact l =
    l.text.items ++ contacts_text l.start l.largest l.low (drop l.contact-index l.contacts) ≡ l.initial.text.items ++ contacts_text l.start l.largest 0 l.contacts
