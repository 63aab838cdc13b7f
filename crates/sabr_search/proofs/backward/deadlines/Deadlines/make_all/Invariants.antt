use Rattle.sabr_search.specs.layers.Deadlines.{AreLinked}
use Rattle.sabr_search.proofs.BackwardLemmas.LateMade.{AreBackLayers}
use Rattle.sabr_search.proofs.backward.deadlines.Deadlines.make_all.Given as goal

abbrev pub invariant-loop-left : goal.invariant-loop-left
invariant-loop-left g l = record {
  made : AreBackLayers l.aim.task.now l.aim.since.now l.aim.delivery l.left l.self.ends.items l.self.deadline.items l.self.place.items l.self.entries.items;
  linked : AreLinked l.self.entries.items l.self.fewer.items;
}
