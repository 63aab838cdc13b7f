use Rattle.std.proofs.Common.{◌≡◌, ◌∙◌, Some, ap, subst, sym}
use Rattle.std.specs.Option.{option_copied}
use Rattle.std.specs.Prelude.{ok_or}
use Rattle.sabr_model.specs.declared.fault.AddFault.TheVariants.{NothingToDelete}
use Rattle.sabr_model.specs.plan.Plan.{IsPlan, TabledPlan, contact_named}
use Rattle.libcgrlist.proofs.AdditionLemmas.{deleted_by_number, number_gone}
use Rattle.libcgrlist.proofs.changes.delete_number.Goals as goal

pub returns-in-Ok : goal.returns-in-Ok
returns-in-Ok c =
    let rules = subst (λ (q : TabledPlan). IsPlan q.plan) c.plan.ensures c.rules_hold.ensures in
    let named : contact_named c.args.opened.now.plan.plan c.args.number ≡ Some c.in-Some.contact.now =
    ap (λ (q : TabledPlan). contact_named q.plan c.args.number) (sym c.plan-2.ensures) ∙ sym c.contact.ensures ∙ ap option_copied c.in-Some.is in
    number_gone c.args.opened.now c.delete_contact.new.self c.args.number c.in-Some.contact.now (sym c.has_listing.ensures ∙ c.if-has_listing.false) rules named c.in-Ok.ensures.ok

pub returns-in-Err : goal.returns-in-Err
returns-in-Err c =
    let p = c.args.opened.now.plan.plan in
    let rules = subst (λ (q : TabledPlan). IsPlan q.plan) c.plan.ensures c.rules_hold.ensures in
    let named : contact_named p c.args.number ≡ Some c.in-Some.contact.now =
    ap (λ (q : TabledPlan). contact_named q.plan c.args.number) (sym c.plan-2.ensures) ∙ sym c.contact.ensures ∙ ap option_copied c.in-Some.is in
    let gone = deleted_by_number p c.args.number c.in-Some.contact.now rules named in
    let deleted = c.delete_contact.ensures.value ∙ ap (λ o. ok_or o NothingToDelete) gone.0 in
    let failed = c.in-Err.is in
    absurd cc
