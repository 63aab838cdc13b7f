use Rattle.sabr_frontier.proofs.Names.{◌≡◌, ◌-◌, length, shape_of, CanUndoTimes, undone_times, IsSpacious}
use Rattle.sabr_frontier.proofs.tree.Tree.undo_to.Given as goal

abbrev pub invariant-loop-self : goal.invariant-loop-self
invariant-loop-self g l = record {
  possible : CanUndoTimes (length l.self.journal.items - l.start) (shape_of l.self);
  index : l.self.index.items ≡ l.fn.self.index.items;
  room : IsSpacious l.self;
  former : undone_times (length l.self.journal.items - l.start) (shape_of l.self) ≡ undone_times (length l.fn.self.journal.items - l.start) (shape_of l.fn.self);
}

abbrev pub decreases-loop-self : goal.decreases-loop-self
decreases-loop-self g l = length l.self.journal.items - l.start
