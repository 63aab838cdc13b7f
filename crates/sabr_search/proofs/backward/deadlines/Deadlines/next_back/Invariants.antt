use Rattle.std.proofs.Common.{◌+◌, ◌≤◌, slice_index}
use Rattle.sabr_search.specs.layers.Late.{AreGrown, AreLeftInTimeFrom}
use Rattle.sabr_search.proofs.ForwardLemmas.LayerEntries.{late_between, received_by_all}
use Rattle.sabr_search.proofs.backward.deadlines.Deadlines.next_back.Given as goal

abbrev pub invariant-loop-place : goal.invariant-loop-place
invariant-loop-place g l = record {
  grown : AreGrown l.aim l.left l.fn.self l.self;
  counted : l.fn.looks.left ≤ l.looks.left + received_by_all l.aim.task.now (late_between l.fn.self.entries.items l.first l.place);
  in_time : AreLeftInTimeFrom l.aim.task.now l.aim.since.now l.fn.self.entries.items (slice_index l.fn.self.ends.items l.left) l.place l.self.deadline.items;
}
