use Rattle.sabr_model.proofs.PlanLemmas.RangeOrder.{range_list}
use Rattle.sabr_model.proofs.PlanLemmas.Limits.{few_contacts}
use Rattle.sabr_model.proofs.PlanLemmas.KnownLemmas.{noted_none}
use Rattle.sabr_model.proofs.plan.Plan.of_parts.Goals as goal

pub table_of-requires : goal.table_of-requires
table_of-requires g c =
    rw (c.deref.ensures.value, c.deref-2.ensures.value) (record { few = few_contacts _ c.requires; ranges = range_list _ c.requires; limit = c.requires.lights })

pub invariant_of-result : goal.invariant_of-result
invariant_of-result g c =
    let made = c.in_ok-table.ensures in
    (c.requires, rw c.deref.ensures.value at made.table, rw (c.deref.ensures.value, c.deref-2.ensures.value) at made.known, noted_none _ _ _ c.new.ensures)
