use Rattle.std.proofs.Common.{◌≡◌, ◌⊎◌, ℕ, ◌≤◌, Some, slice_get}
use Rattle.sabr_search.specs.declared.backward.walk.DeadEnd.{DeadEnd}
use Rattle.sabr_search.proofs.backward.walk.Walk.before_end.Given as goal

abbrev pub invariant-loop-place : goal.invariant-loop-place
invariant-loop-place g l = record {
  upper : l.earliest ≤ l.before;
  end : (l.earliest ≡ l.before) ⊎ ((k : ℕ) × (x : DeadEnd) × (slice_get l.self.ends.items k ≡ Some x) × (x.node ≡ l.node) × (l.hops ≤ x.hops) × (x.at ≡ l.earliest));
}
