use Rattle.std.proofs.Common.{◌≡◌, ℕ, ◌+◌, ◌<◌, ◌≤◌, Some, length, slice_get}
use Rattle.sabr_index.specs.declared.link.Link.{Link}
use Rattle.sabr_index.specs.Links.{passes_over}
use Rattle.sabr_search.specs.declared.visit.Visit.{Visit}
use Rattle.sabr_search.specs.questions.Task.{Takes}
use Rattle.sabr_search.specs.questions.Linked.{HasNumber, AreLinksAt}
use Rattle.sabr_search.specs.questions.FirstSteps.{ComesTo}
use Rattle.sabr_search.proofs.task.Task.first_steps.Given as goal

abbrev pub invariant-loop-place : goal.invariant-loop-place
invariant-loop-place g l = record {
  links : AreLinksAt l.self l.from.node l.links.links.now l.links.passes.now;
  placed : (k : ℕ) (x : Link) → l.place ≤ k → slice_get l.links.links.now k ≡ Some x → l.fn.looks.left ≤ l.looks.left + x.first;
  all : l.fn.looks.left ≤ l.looks.left + length l.links.passes.now;
  real : (k : ℕ) (s : Visit) → slice_get l.first.items k ≡ Some s → (n : ℕ) × Takes l.self n l.from.node l.from.at s.node s.at;
  come : (j : ℕ) (x : Link) (n w b : ℕ) → j < l.place → slice_get l.links.links.now j ≡ Some x → HasNumber (passes_over l.links.passes.now x) n → Takes l.self n l.from.node l.from.at w b → ComesTo l.first.items w b;
}
