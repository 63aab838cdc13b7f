use Rattle.std.proofs.Common.{◌≡◌, ◌+◌, ◌*◌, ◌-◌, ◌<◌, ◌≤◌, length}
use Rattle.sabr_search.specs.layers.WholeDeadlines.{AreDeadEnds, LeadOn}
use Rattle.sabr_search.proofs.WholeLemmas.Walks.{AreStepsOn, LeadsOn, start_of}
use Rattle.sabr_search.proofs.backward.walk.Walk.pick.Given as goal

abbrev pub invariant-loop-self : goal.invariant-loop-self
invariant-loop-self g l = record {
  delivery : l.self.delivery ≡ l.fn.self.delivery;
  looked : l.looks.left ≤ l.fn.looks.left;
  ends : AreDeadEnds l.task l.fn.self.delivery l.self.ends.items;
  less : length l.self.steps.items < l.hops;
  steps : AreStepsOn l.task l.fn.self.delivery l.hops (start_of l.task) l.self.steps.items;
  leads : LeadOn l.task l.hops l.layers l.fn.self → LeadsOn l.task l.fn.self.delivery l.hops l.fn.looks.left l.looks.left l.self.ends.items l.self.steps.items;
}

abbrev pub decreases-loop-self : goal.decreases-loop-self
decreases-loop-self g l = (8 - length l.self.ends.items) * (l.hops + 1) + (l.hops - length l.self.steps.items)
