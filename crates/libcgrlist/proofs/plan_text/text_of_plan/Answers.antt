use Rattle.std.proofs.Common.{◌++◌, List, ℕ, ap, ◌∙◌}
use Rattle.std.specs.List.{flat_map}
use Rattle.libcgrlist.specs.PlanTexts.{plan_text, range_line}
use Rattle.libcgrlist.proofs.PlanTextLemmas.{start_is_early}
use Rattle.libcgrlist.proofs.plan_text.text_of_plan.Goals as goal

pub put_contacts-requires-clause-start : goal.put_contacts-requires-clause-start
put_contacts-requires-clause-start c = rw (c.free_start-start.ensures, c.contacts.ensures.value) (start_is_early c.args.plan.now.plan c.contacts.ensures.rules)

pub returns : goal.returns
unfolding plan_text
returns c =
    let contacts = rw (c.new-text.ensures.items, c.free_start-start.ensures, c.contacts.ensures.value, c.contacts-2.ensures.value, c.largest.ensures) at c.in_ok-put_contacts.ensures in
    rw c.ranges-2.ensures at (c.in_ok-put_ranges.ensures ∙ ap (λ (t : List ℕ). t ++ flat_map range_line c.ranges-2.result.now) contacts)
