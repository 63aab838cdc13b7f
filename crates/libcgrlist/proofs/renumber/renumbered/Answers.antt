use Rattle.std.proofs.Common.{◌≡◌, arith, subst, sym, ap, ◌∙◌}
use Rattle.std.specs.Prelude.{length}
use Rattle.sabr_model.specs.plan.Plan.{IsPlan}
use Rattle.libcgrlist.specs.Plans.{contacts_after, ranges_after}
use Rattle.libcgrlist.proofs.PlanLemmas.{few_after, renumbered_in_place, IsPlan-renumbered}
use Rattle.libcgrlist.proofs.renumber.renumbered.Goals as goal

pub number-requires : goal.number-requires
number-requires c =
    let left : c.in_ok-contacts.contacts.items ≡ contacts_after c.args.second c.args.plan.now.plan.contacts = c.in_ok-contacts.ensures.items ∙ c.requires in
    omega (arith, few_after c.args.plan.now.plan c.args.second c.rules_hold.ensures, ap length c.deref_mut.ensures.value, ap length left)

pub overflow_cast-largest : goal.overflow_cast-largest
overflow_cast-largest c =
    let left : c.in_ok-contacts.contacts.items ≡ contacts_after c.args.second c.args.plan.now.plan.contacts = c.in_ok-contacts.ensures.items ∙ c.requires in
    omega (arith, few_after c.args.plan.now.plan c.args.second c.rules_hold.ensures, ap length c.deref_mut.ensures.value, ap length left, c.deref_mut.ensures.len, c.len-largest.ensures)

pub of_parts-requires : goal.of_parts-requires
of_parts-requires c =
    let p = c.args.plan.now.plan in
    let left : c.in_ok-contacts.contacts.items ≡ contacts_after c.args.second p.contacts = c.in_ok-contacts.ensures.items ∙ c.requires in
    let ended : c.in_ok-ranges.ranges.items ≡ ranges_after c.args.second p.ranges = c.in_ok-ranges.ensures ∙ ap (ranges_after c.args.second) c.ranges-2.ensures in
    let kept : c.deref_mut.result.now ≡ contacts_after c.args.second p.contacts = c.deref_mut.ensures.value ∙ left in
    let long = sym c.deref_mut.ensures.len in
    subst IsPlan (sym (renumbered_in_place p c.args.second _ _ c.deref_mut.result.now c.number.new.contacts _ c.in_ok-ranges.ranges.items c.rules_hold.ensures kept c.number.ensures ended long (c.len-largest.ensures ∙ long)))
    (IsPlan-renumbered p c.args.second c.rules_hold.ensures)
