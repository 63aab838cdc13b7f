use Rattle.std.proofs.Common.{◌+◌, ◌≤◌, length}
use Rattle.sabr_search.specs.layers.Settling.{AreSettled}
use Rattle.sabr_search.proofs.ForwardLemmas.FirstWays.{sent_by_settled}
use Rattle.sabr_search.proofs.forward.settling.Settling.run.Given as goal

abbrev pub invariant-loop-event : goal.invariant-loop-event
invariant-loop-event g l = record {
  counted : l.fn.looks.left ≤ l.looks.left + sent_by_settled l.forward.task.now l.self.settled.items;
  settled : AreSettled l.forward.task.now l.forward.until l.forward.deadline.now l.forward.costs.now l.self.settled.items l.self.arrival.items l.self.hops.items l.self.queue l.best;
}

abbrev pub decreases-loop-event : goal.decreases-loop-event
decreases-loop-event g l = length l.self.queue + l.looks.left
