use Rattle.std.proofs.Common.{◌++◌}
use Rattle.sabr_model.specs.plan.Plan.{IsWindow}
use Rattle.sabr_model.proofs.PlanLemmas.RangeLemmas.{all_at}
use Rattle.libcgrlist.specs.PlanTexts.{contacts_text}
use Rattle.libcgrlist.proofs.PlanTextPieces.{contact_put, contacts_end}
use Rattle.libcgrlist.proofs.plan_text.put_contacts.Goals as goal

pub put_contact-requires : goal.put_contact-requires
put_contact-requires c = all_at (λ d. IsWindow d.start d.end) c.args.contacts.now c.loop-contact.contact-index _ c.requires.windows c.loop-contact-test.true

pub loop-contact-preserved : goal.loop-contact-preserved
loop-contact-preserved c =
    let gap = rw (c.saturating_sub-in-loop-contact.ensures, c.saturating_sub.ensures) at c.in_ok-put_gap.ensures in
    contact_put c.args.start c.args.largest c.loop-contact.low c.args.contacts.now c.loop-contact.contact-index _
    c.loop-contact.text.items c.put_gap.new.text.items c.put_contact.new.text.items (c.args.text.now.items ++ contacts_text c.args.start c.args.largest 0 c.args.contacts.now)
    c.loop-contact-test.true gap c.in_ok-put_contact.ensures c.loop-contact.invariant

pub returns : goal.returns
returns c =
    let gap = rw c.saturating_sub-2.ensures at c.in_ok-put_gap-2.ensures in
    contacts_end c.args.start c.args.largest c.loop-contact.low c.args.contacts.now c.loop-contact.contact-index
    c.loop-contact.text.items c.put_gap-2.new.text.items (c.args.text.now.items ++ contacts_text c.args.start c.args.largest 0 c.args.contacts.now)
    c.loop-contact-test.false gap c.loop-contact.invariant
