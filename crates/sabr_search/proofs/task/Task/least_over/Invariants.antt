use Rattle.std.proofs.Common.{◌≡◌, ◌⊎◌, ℕ, ◌+◌, ◌-◌, ◌<◌, ◌≤◌, Some, false, length, slice_get, slice_index_or}
use Rattle.std.specs.Prelude.{IfSome}
use Rattle.sabr_index.specs.declared.link.Pass.{Pass}
use Rattle.sabr_search.specs.questions.Task.{Takes}
use Rattle.sabr_search.specs.layers.Picks.{IsAtMost}
use Rattle.sabr_search.proofs.task.Task.least_over.Given as goal

abbrev pub invariant-loop-place : goal.invariant-loop-place
invariant-loop-place g l = record {
  within : l.place ≤ length l.passes;
  counted : l.fn.looks.left ≤ l.looks.left + l.place;
  looked : l.looks.left ≤ l.fn.looks.left;
  some_looks : (l.chosen ≡ l.fn.best) ⊎ (l.looks.left < l.fn.looks.left);
  lower : (n : ℕ) → IsAtMost l.fn.best n → IsAtMost l.chosen n;
  sound : (l.chosen ≡ l.fn.best) ⊎ IfSome l.chosen (λ s. (s.node ≡ l.link.to) × (s.at < l.before) × (slice_index_or l.self.forbidden l.link.to false ≡ false → Takes l.self s.number l.link.from l.at l.link.to s.at));
  full : (k : ℕ) (x : Pass) (w b : ℕ) → k < l.place → slice_get l.passes k ≡ Some x → Takes l.self x.number l.link.from l.at w b → b < l.before → IsAtMost l.chosen x.number;
}

abbrev pub decreases-loop-place : goal.decreases-loop-place
decreases-loop-place g l = length l.passes - l.place
