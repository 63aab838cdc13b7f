use Rattle.std.proofs.Common.{◌≡◌, ℕ, ◌+◌, ◌<◌, ◌≤◌, Some, length, slice_get}
use Rattle.sabr_index.specs.declared.link.Link.{Link}
use Rattle.sabr_index.specs.Links.{passes_over}
use Rattle.sabr_search.specs.questions.Task.{Takes}
use Rattle.sabr_search.specs.layers.Lists.{IsLowered, IsKnown}
use Rattle.sabr_search.specs.questions.Linked.{HasNumber, AreLinksAt}
use Rattle.sabr_search.proofs.forward.layers.Layers.take_all.Given as goal

abbrev pub invariant-loop-place : goal.invariant-loop-place
invariant-loop-place g l = record {
  links : AreLinksAt l.task l.from.node l.links.links.now l.links.passes.now;
  counted : l.fn.looks.left ≤ l.looks.left + length l.links.passes.now;
  placed : (k : ℕ) (x : Link) → l.place ≤ k → slice_get l.links.links.now k ≡ Some x → l.fn.looks.left ≤ l.looks.left + x.first;
  lowered : IsLowered l.task.forbidden l.task.goal l.task.at l.begin (λ w x. (n : ℕ) × Takes l.task n l.from.node l.from.at w x) l.fn.self.arrival.items l.fn.self.reached.items l.best l.self.arrival.items l.self.place.items l.self.reached.items l.earliest;
  known : (j : ℕ) (x : Link) (n w b : ℕ) → j < l.place → slice_get l.links.links.now j ≡ Some x → HasNumber (passes_over l.links.passes.now x) n → Takes l.task n l.from.node l.from.at w b → IsKnown l.task.goal l.self.arrival.items l.earliest w b;
}
