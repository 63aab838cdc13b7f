use Rattle.std.proofs.Common.{◌≡◌, ℕ, ◌<◌, Some, length, slice_get, slice_index, slice_index_or, true, false}
use Rattle.sabr_search.specs.questions.Task.{never}
use Rattle.sabr_search.proofs.forward.arrivals.initial_arrivals.Given as goal

abbrev pub invariant-loop-place : goal.invariant-loop-place
invariant-loop-place g l = record {
  many : length l.arrival.items ≡ length l.task.forbidden;
  opened : (k : ℕ) → k < length l.arrival.items → slice_index_or l.task.forbidden k false ≡ false → slice_index l.arrival.items k ≡ slice_index_or l.deadline k never;
  zero : (j k : ℕ) → j < l.place → slice_get l.nodes j ≡ Some k → slice_index_or l.task.forbidden k false ≡ true → slice_index l.arrival.items k ≡ 0;
}
