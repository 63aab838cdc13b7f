use Rattle.std.proofs.Common.{◌≡◌, ℕ, ◌+◌, ◌-◌, ◌<◌, ◌≤◌, Some, length, slice_set, slice_get, true, slice_index}
use Rattle.sabr_index.specs.declared.link.Link.{Link}
use Rattle.sabr_index.specs.Links.{passes_over}
use Rattle.sabr_search.specs.questions.Task.{Takes}
use Rattle.sabr_search.specs.layers.Lists.{IsKnown}
use Rattle.sabr_search.specs.questions.Linked.{HasNumber, AreLinksAt}
use Rattle.sabr_search.specs.layers.Settling.{AreSettling, IsFallen}
use Rattle.sabr_search.proofs.forward.settling.Settling.settle.Given as goal

abbrev pub invariant-loop-place : goal.invariant-loop-place
invariant-loop-place g l = record {
  links : AreLinksAt l.forward.task.now l.event.node l.links.links.now l.links.passes.now;
  settled : l.self.settled.items ≡ slice_set l.fn.self.settled.items l.event.node true;
  counted : l.fn.looks.left ≤ l.looks.left + length l.links.passes.now;
  placed : (k : ℕ) (x : Link) → l.place ≤ k → slice_get l.links.links.now k ≡ Some x → l.fn.looks.left ≤ l.looks.left + x.first;
  state : AreSettling l.forward.task.now l.forward.until l.forward.deadline.now l.forward.costs.now (slice_set l.fn.self.settled.items l.event.node true) l.event.node l.event.at l.self.arrival.items l.self.hops.items l.self.queue l.earliest;
  fallen : IsFallen (slice_set l.fn.self.settled.items l.event.node true) l.fn.self.arrival.items l.initial.earliest l.self.arrival.items l.earliest;
  known : (j : ℕ) (x : Link) (n w b : ℕ) → j < l.place → slice_get l.links.links.now j ≡ Some x → HasNumber (passes_over l.links.passes.now x) n → Takes l.forward.task.now n l.event.node l.event.at w b → IsKnown l.forward.task.now.goal l.self.arrival.items (l.earliest.delivery - slice_index l.forward.costs.now w) w b;
  pushes : length l.self.queue + l.looks.left ≤ length l.fn.self.queue + l.fn.looks.left;
}
