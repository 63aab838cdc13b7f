use Rattle.std.proofs.Common.{◌≡◌, ◌⊎◌, ℕ, ◌+◌, ◌<◌, ◌≤◌, Some, length, take, false, slice_get, slice_index, slice_index_or}
use Rattle.std.specs.List.{sum_by}
use Rattle.sabr_index.specs.Links.{SentLink}
use Rattle.sabr_search.specs.questions.Task.{Takes}
use Rattle.sabr_search.specs.questions.Linked.{HasNumber}
use Rattle.sabr_search.specs.layers.Lists.{IsBroughtTo}
use Rattle.sabr_search.proofs.forward.layers.Layers.last_layer.Given as goal

abbrev pub invariant-loop-place : goal.invariant-loop-place
invariant-loop-place g l = record {
  counted : l.fn.looks.left ≤ l.looks.left + sum_by (λ s. length s.passes) (take l.place l.senders);
  lower : l.earliest ≤ l.best;
  known : (j : ℕ) (s : SentLink) → j < l.place → slice_get l.senders j ≡ Some s → (n b : ℕ) → HasNumber s.passes n → Takes l.task n s.sender (slice_index l.self.arrival.items s.sender) l.goal b → slice_index_or l.task.forbidden s.sender false ≡ false → l.earliest ≤ b;
  found : (l.earliest ≡ l.best) ⊎ IsBroughtTo l.task l.self.arrival.items l.earliest;
}
