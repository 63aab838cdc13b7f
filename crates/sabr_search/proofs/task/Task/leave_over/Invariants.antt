use Rattle.std.proofs.Common.{◌≡◌, ℕ, ◌+◌, ◌<◌, ◌≤◌, Some, false, slice_get, slice_index_or}
use Rattle.sabr_index.specs.declared.link.Pass.{Pass}
use Rattle.sabr_search.specs.questions.Task.{Takes}
use Rattle.sabr_search.proofs.task.Task.leave_over.Given as goal

abbrev pub invariant-loop-back : goal.invariant-loop-back
invariant-loop-back g l = record {
  counted : l.fn.looks.left ≤ l.looks.left + l.back;
  looked : l.looks.left ≤ l.fn.looks.left;
  some_looks : l.fn.latest < l.last → l.looks.left < l.fn.looks.left;
  lower : l.fn.latest ≤ l.last;
  sound : (t : ℕ) → l.fn.latest ≤ t → t < l.last → (b : ℕ) × (b < l.before) × (slice_index_or l.self.forbidden l.link.to false ≡ false → (n : ℕ) × Takes l.self n l.link.from t l.link.to b);
  full : (k : ℕ) (x : Pass) (t w b : ℕ) → l.end ≤ k + l.back → slice_get l.passes k ≡ Some x → Takes l.self x.number l.link.from t w b → b < l.before → t < l.last;
}
