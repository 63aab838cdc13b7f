use Rattle.std.proofs.Common.{◌≡◌, ◌⊎◌, ℕ, ◌+◌, ◌<◌, ◌≤◌, Some, length, slice_get}
use Rattle.std.specs.Prelude.{IfSome}
use Rattle.sabr_index.specs.declared.link.Link.{Link}
use Rattle.sabr_index.specs.Links.{passes_over}
use Rattle.sabr_search.specs.questions.Task.{Takes}
use Rattle.sabr_search.specs.questions.Linked.{HasNumber, AreLinksAt}
use Rattle.sabr_search.specs.layers.Deadlines.{IsInTimeWithin}
use Rattle.sabr_search.specs.layers.WholeDeadlines.{IsDeadEnd}
use Rattle.sabr_search.specs.layers.Picks.{IsAtMost}
use Rattle.sabr_search.proofs.backward.walk.Walk.next.Given as goal

abbrev pub invariant-loop-place : goal.invariant-loop-place
invariant-loop-place g l = record {
  links : AreLinksAt l.task l.from.node l.links.links.now l.links.passes.now;
  counted : l.fn.looks.left ≤ l.looks.left + length l.links.passes.now;
  looked : l.looks.left ≤ l.fn.looks.left;
  placed : (k : ℕ) (x : Link) → l.place ≤ k → slice_get l.links.links.now k ≡ Some x → l.fn.looks.left ≤ l.looks.left + x.first;
  chosen : IfSome l.best (λ s. Takes l.task s.number l.from.node l.from.at s.node s.at × IsInTimeWithin l.layers.ends.items l.layers.entries.items l.hops s.node s.at);
  least : (j : ℕ) (x : Link) (n w b : ℕ) → j < l.place → slice_get l.links.links.now j ≡ Some x → HasNumber (passes_over l.links.passes.now x) n → Takes l.task n l.from.node l.from.at w b → IsDeadEnd l.task l.self.delivery w b l.hops ⊎ IsAtMost l.best n;
}
