use Rattle.std.proofs.Common.{◌≡◌, ◌-◌, ◌<◌}
use Rattle.sabr_search.specs.layers.WholeDeadlines.{AreDeadEnds, IsDeadEnd}
use Rattle.sabr_search.proofs.early.whole_deadlines.WholeDeadlines.find.Given as goal

abbrev pub invariant-loop-count : goal.invariant-loop-count
invariant-loop-count g l = record {
  delivery : l.walk.delivery ≡ l.asked.floor;
  some : 0 < l.count;
  ends : AreDeadEnds l.asked.task.now l.asked.floor l.walk.ends.items;
  dead : IsDeadEnd l.asked.task.now l.asked.floor l.asked.task.now.start l.asked.task.now.at (l.count - 1);
}
