use Rattle.std.specs.declared.cmp.Reverse.{Reverse}
use Rattle.std.proofs.Common.{ℕ}
use Rattle.std.proofs.lemmas.List.Sorted.{IsPermutation-map}
use Rattle.sabr_search.specs.layers.Events.{event_of}
use Rattle.sabr_search.proofs.queue.Queue.push.Goals as goal

pub returns-clause-ok : goal.returns-clause-ok
returns-clause-ok g c = rw (← c.self.view_is, ← c.key_of.ensures) (IsPermutation-map (λ (k : Reverse ℕ). event_of k.0) _ _ c.in_ok-push.ensures.permutation)
