use Rattle.std.proofs.Common.{◌≡◌, ℕ, ◌<◌, ◌≤◌, Some, slice_get, slice_index}
use Rattle.sabr_search.specs.declared.visit.Visit.{Visit}
use Rattle.sabr_search.proofs.backward.deadlines.Deadlines.is_met.Given as goal

abbrev pub invariant-loop-place : goal.invariant-loop-place
invariant-loop-place g l = record {
  deadline : (k : ℕ) (s : Visit) → k < l.place → slice_get l.first k ≡ Some s → slice_index l.self.deadline.items s.node ≤ s.at;
}
