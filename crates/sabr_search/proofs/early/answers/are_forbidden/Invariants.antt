use Rattle.std.proofs.Common.{◌≡◌, ◌≤◌, ℕ, Some, true, false, length, slice_get, slice_index_or}
use Rattle.sabr_search.proofs.early.answers.are_forbidden.Given as goal

abbrev pub invariant-loop-end : goal.invariant-loop-end
invariant-loop-end l = record {
  within : l.end ≤ length l.nodes;
  behind : (i k : ℕ) → l.end ≤ i → slice_get l.nodes i ≡ Some k → slice_index_or l.flags k false ≡ true;
}

abbrev pub decreases-loop-end : goal.decreases-loop-end
decreases-loop-end l = l.end
