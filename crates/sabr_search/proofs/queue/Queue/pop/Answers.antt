use Rattle.std.specs.declared.cmp.Reverse.{Reverse}
use Rattle.std.proofs.Common.{ℕ}
use Rattle.std.proofs.lemmas.List.Sorted.{IsPermutation-map}
use Rattle.sabr_search.specs.layers.Events.{event_of}
use Rattle.sabr_search.proofs.ForwardLemmas.Forward.{earliest_of_least}
use Rattle.sabr_search.proofs.queue.Queue.pop.Goals as goal

pub returns-clause-moved : goal.returns-clause-moved
returns-clause-moved g c = rw (← c.self.view_is, c.event_of_key.ensures) (IsPermutation-map (λ (k : Reverse ℕ). event_of k.0) _ _ c.in_ok-key.ensures.permutation)

pub returns-clause-first : goal.returns-clause-first
returns-clause-first g c = rw c.event_of_key.ensures (earliest_of_least c.in_ok-key.field-0 _ (c.in_ok-key.ensures.below_top c.self.invariant))
