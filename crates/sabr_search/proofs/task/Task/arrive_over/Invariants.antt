use Rattle.std.proofs.Common.{◌≡◌, ℕ, ◌+◌, ◌-◌, ◌<◌, ◌≤◌, Some, false, length, slice_get, slice_index_or}
use Rattle.sabr_index.specs.declared.link.Pass.{Pass}
use Rattle.sabr_search.specs.questions.Task.{Takes}
use Rattle.sabr_search.proofs.task.Task.arrive_over.Given as goal

abbrev pub invariant-loop-place : goal.invariant-loop-place
invariant-loop-place g l = record {
  within : l.place ≤ length l.passes;
  counted : l.fn.looks.left ≤ l.looks.left + l.place;
  looked : l.looks.left ≤ l.fn.looks.left;
  some_looks : l.earliest < l.before → l.looks.left < l.fn.looks.left;
  later : l.at ≤ l.earliest;
  upper : l.earliest ≤ l.before;
  sound : l.earliest < l.before → slice_index_or l.self.forbidden l.link.to false ≡ false → (n : ℕ) × Takes l.self n l.link.from l.at l.link.to l.earliest;
  full : (k : ℕ) (x : Pass) (w b : ℕ) → k < l.place → slice_get l.passes k ≡ Some x → Takes l.self x.number l.link.from l.at w b → l.earliest ≤ b;
}

abbrev pub decreases-loop-place : goal.decreases-loop-place
decreases-loop-place g l = length l.passes - l.place
