use Rattle.std.proofs.Common.{◌≡◌, ℕ, ◌≤◌, ◌<◌, min, slice_index}
use Rattle.sabr_search.proofs.node_bounds.lower.Given as goal

abbrev pub invariant-loop-place : goal.invariant-loop-place
invariant-loop-place g l = record {
  lowered : (k : ℕ) → k < l.place → slice_index l.seconds.items k ≤ min (slice_index l.fn.seconds.items k) l.most;
  kept : (k : ℕ) → l.place ≤ k → slice_index l.seconds.items k ≡ slice_index l.fn.seconds.items k;
}
