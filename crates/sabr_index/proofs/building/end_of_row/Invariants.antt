use Rattle.std.proofs.Common.{◌≡◌, ◌-◌, ◌<◌, ◌≤◌, ℕ, length}
use Rattle.std.specs.Prelude.{slice_index_or}
use Rattle.sabr_index.specs.declared.link.Pass.{Pass}
use Rattle.sabr_index.proofs.building.end_of_row.Given as goal

abbrev pub invariant-loop-end : goal.invariant-loop-end
invariant-loop-end l = record {
  behind : l.first < l.end;
  within : l.end ≤ length l.passes;
  first : (d : Pass) → l.receiver ≡ (slice_index_or l.passes l.first d).receiver;
  alike : (k : ℕ) (d : Pass) → l.first ≤ k → k < l.end → (slice_index_or l.passes k d).receiver ≡ l.receiver;
}

abbrev pub decreases-loop-end : goal.decreases-loop-end
decreases-loop-end l = length l.passes - l.end
