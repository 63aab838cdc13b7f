use Rattle.std.proofs.Common.{◌≡◌, ℕ, ◌+◌, ◌<◌, ◌≤◌, Some, length, take, slice_get}
use Rattle.std.specs.List.{sum_by}
use Rattle.sabr_index.specs.Links.{SentLink}
use Rattle.sabr_search.specs.layers.Late.{AreGrown, AreLeftInTimeOver}
use Rattle.sabr_search.proofs.backward.deadlines.Deadlines.take_senders.Given as goal

abbrev pub invariant-loop-place : goal.invariant-loop-place
invariant-loop-place g l = record {
  grown : AreGrown l.aim l.left l.fn.self l.self;
  counted : l.fn.looks.left ≤ l.looks.left + sum_by (λ s. length s.passes) (take l.place l.senders);
  in_time : (j : ℕ) (s : SentLink) → j < l.place → slice_get l.senders j ≡ Some s → AreLeftInTimeOver l.aim.task.now l.aim.since.now l.self.deadline.items s.sender s.passes l.to.before;
}
