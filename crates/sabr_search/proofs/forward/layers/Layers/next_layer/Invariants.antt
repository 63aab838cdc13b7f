use Rattle.std.proofs.Common.{◌+◌, ◌≤◌}
use Rattle.sabr_search.specs.layers.Lists.{IsLowered, GivenFrom, IsKnownFrom}
use Rattle.sabr_search.proofs.ForwardLemmas.LayerEntries.{nodes_between, sent_by_all}
use Rattle.sabr_search.proofs.forward.layers.Layers.next_layer.Given as goal

abbrev pub invariant-loop-place : goal.invariant-loop-place
invariant-loop-place g l = record {
  counted : l.fn.looks.left ≤ l.looks.left + sent_by_all l.task (nodes_between l.fn.self.reached.items l.first l.place);
  lowered : IsLowered l.task.forbidden l.task.goal l.task.at l.begin (GivenFrom l.task l.fn.self.reached.items l.first l.begin) l.fn.self.arrival.items l.fn.self.reached.items l.best l.self.arrival.items l.self.place.items l.self.reached.items l.earliest;
  known : IsKnownFrom l.task l.fn.self.reached.items l.first l.place l.self.arrival.items l.earliest;
}
