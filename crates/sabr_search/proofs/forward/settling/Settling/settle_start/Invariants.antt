use Rattle.std.proofs.Common.{◌≡◌, ℕ, ◌-◌, ◌<◌, Some, slice_get, slice_set, true, slice_index}
use Rattle.sabr_search.specs.declared.visit.Visit.{Visit}
use Rattle.sabr_search.specs.layers.Lists.{IsKnown}
use Rattle.sabr_search.specs.layers.Settling.{AreSettling, IsFallen}
use Rattle.sabr_search.proofs.forward.settling.Settling.settle_start.Given as goal

abbrev pub invariant-loop-place : goal.invariant-loop-place
invariant-loop-place g l = record {
  settled : l.self.settled.items ≡ slice_set l.fn.self.settled.items l.event.node true;
  state : AreSettling l.forward.task.now l.forward.until l.forward.deadline.now l.forward.costs.now (slice_set l.fn.self.settled.items l.event.node true) l.event.node l.event.at l.self.arrival.items l.self.hops.items l.self.queue l.best;
  fallen : IsFallen (slice_set l.fn.self.settled.items l.event.node true) l.fn.self.arrival.items l.initial.best l.self.arrival.items l.best;
  known : (k : ℕ) (s : Visit) → k < l.place → slice_get l.first k ≡ Some s → IsKnown l.forward.task.now.goal l.self.arrival.items (l.best.delivery - slice_index l.forward.costs.now s.node) s.node s.at;
}
