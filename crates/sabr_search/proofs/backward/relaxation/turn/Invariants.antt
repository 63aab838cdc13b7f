use Rattle.std.proofs.Common.{◌≡◌, ℕ, ◌-◌, ◌≤◌, ◌<◌, length, slice_index}
use Rattle.sabr_search.specs.layers.Relaxation.{last_at}
use Rattle.sabr_search.proofs.backward.relaxation.turn.Given as goal

abbrev pub invariant-loop-place : goal.invariant-loop-place
invariant-loop-place g l = record {
  many : length l.seconds.items ≡ length l.fn.seconds.items;
  turned : (k : ℕ) → k < l.place → slice_index l.seconds.items k ≡ last_at - slice_index l.fn.seconds.items k;
  same : (k : ℕ) → l.place ≤ k → slice_index l.seconds.items k ≡ slice_index l.fn.seconds.items k;
}
