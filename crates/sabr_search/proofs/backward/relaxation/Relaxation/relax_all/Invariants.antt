use Rattle.std.proofs.Common.{ℕ, ◌≤◌, length, slice_index}
use Rattle.sabr_search.specs.layers.Relaxation.{AreRelaxing}
use Rattle.sabr_search.proofs.backward.relaxation.Relaxation.relax_all.Given as goal

abbrev pub invariant-loop : goal.invariant-loop
invariant-loop g l = record {
  relaxing : AreRelaxing l.backward l.self (length l.backward.task.now.table);
  rises : (k : ℕ) → slice_index l.fn.self.seconds.items k ≤ slice_index l.self.seconds.items k;
}
