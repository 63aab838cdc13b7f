use Rattle.std.proofs.Common.{◌+◌, ◌*◌, ◌≤◌, length}
use Rattle.sabr_search.proofs.ForwardLemmas.MadeLayers.{AreMade}
use Rattle.sabr_search.proofs.forward.layers.Layers.make.Given as goal

abbrev pub invariant-loop-hop : goal.invariant-loop-hop
invariant-loop-hop g l = record {
  layers : AreMade l.task l.until l.hop l.first l.self.arrival.items l.self.place.items l.self.reached.items l.best;
  counted : l.fn.looks.left ≤ l.looks.left + l.hop * length l.task.plan.contacts;
}
