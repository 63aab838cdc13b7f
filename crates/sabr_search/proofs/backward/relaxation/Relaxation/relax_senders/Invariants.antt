use Rattle.std.proofs.Common.{◌≡◌, ℕ, ◌≤◌, ◌<◌, Some, slice_get, slice_index}
use Rattle.sabr_index.specs.Links.{SentLink}
use Rattle.sabr_search.specs.layers.Relaxation.{AreLeftOver, AreRelaxing}
use Rattle.sabr_search.proofs.backward.relaxation.Relaxation.relax_senders.Given as goal

abbrev pub invariant-loop-place : goal.invariant-loop-place
invariant-loop-place g l = record {
  relaxing : AreRelaxing l.backward l.self l.node;
  rises : (k : ℕ) → slice_index l.fn.self.seconds.items k ≤ slice_index l.self.seconds.items k;
  same : slice_index l.self.seconds.items l.node ≡ l.to.before;
  reached : (j : ℕ) (s : SentLink) → j < l.place → slice_get l.senders j ≡ Some s → AreLeftOver l.backward.rule l.backward.task.now s.sender s.passes l.node (slice_index l.self.seconds.items s.sender) l.to.before;
}
