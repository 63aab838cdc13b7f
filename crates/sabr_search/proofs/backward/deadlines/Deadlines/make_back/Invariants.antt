use Rattle.std.proofs.Common.{◌+◌, ◌*◌, ◌≤◌, length}
use Rattle.sabr_search.specs.layers.Deadlines.{AreLinked}
use Rattle.sabr_search.proofs.BackwardLemmas.LateMade.{AreLateLayers}
use Rattle.sabr_search.proofs.backward.deadlines.Deadlines.make_back.Given as goal

abbrev pub invariant-loop-left : goal.invariant-loop-left
invariant-loop-left g l = record {
  counted : l.fn.looks.left ≤ l.looks.left + l.left * length l.aim.task.now.plan.contacts;
  made : AreLateLayers l.aim.task.now l.aim.since.now l.aim.delivery l.left l.self.ends.items l.self.deadline.items l.self.place.items l.self.entries.items;
  linked : AreLinked l.self.entries.items l.self.fewer.items;
}
