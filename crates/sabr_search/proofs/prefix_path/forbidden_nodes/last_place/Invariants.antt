use Rattle.std.proofs.Common.{◌≡◌, ◌≤◌, ℕ, Some, length, slice_get}
use Rattle.sabr_search.proofs.prefix_path.forbidden_nodes.last_place.Given as goal

abbrev pub invariant-loop-end : goal.invariant-loop-end
invariant-loop-end l = record {
  within : l.end ≤ length l.nodes;
  others : (place : ℕ) → l.end ≤ place → slice_get l.nodes place ≡ Some l.node → ⊥;
}

abbrev pub decreases-loop-end : goal.decreases-loop-end
decreases-loop-end l = l.end
