use Rattle.sabr_model.proofs.PlanLemmas.RangeOrder.{range_list}
use Rattle.sabr_model.proofs.plan.Plan.add_range.Goals as goal

pub overlaps_some-clashes-requires : goal.overlaps_some-clashes-requires
overlaps_some-clashes-requires g c = rw c.deref.ensures.value (range_list _ c.self.invariant.0)
