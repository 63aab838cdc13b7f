-- Before which second no way comes to a node, and the least way within other limits.
use Rattle.std.proofs.Common.{◌≡◌, inl, inr, ℕ, zero, suc, ◌<◌, ◌≤◌, ◌-◌, min, max, List, [], ◌∷◌, ◌++◌, length, take, replicate, slice_index, ◌∙◌, arith}
use Rattle.std.proofs.lemmas.List.{get_or_past, length-replicate}
use Rattle.std.proofs.lemmas.Bool.{cases_lt}
use Rattle.std.proofs.lemmas.List.FromFn.{get_or-map-range_with_len, length-map-range_with_len}
use Rattle.sabr_search.specs.questions.Task.{SearchTask, Takes, IsTask}
use Rattle.sabr_search.specs.layers.Late.{AreSince, AreArrivals}
use Rattle.sabr_search.specs.layers.Since.{first_of, since_at, since_of}
use Rattle.sabr_search.specs.layers.Settling.{AreArrivalsBy}
use Rattle.sabr_search.proofs.WayLemmas.Ways.{Leads-later}
use Rattle.sabr_search.proofs.WayLemmas.RoutesAndWays.{takes_timely}

pub same_everywhere : (n x k : ℕ) → slice_index (replicate n x) k ≤ x
same_everywhere zero x k = omega arith
same_everywhere (suc n) x zero = omega arith
same_everywhere (suc n) x (suc k) = same_everywhere n x k

-- no way comes to a node before the search starts
pub arrivals_since : (task : SearchTask) → IsTask task → (n : ℕ) → n ≡ length task.forbidden → AreArrivals task (replicate n task.at)
arrivals_since task is n n_is = record {
  flags = length-replicate n task.at ∙ n_is ∙ is.as_many;
  least = λ ns v t some way. omega (arith, same_everywhere n task.at v, Leads-later (Takes task) (takes_timely task is.nodes) ns task.start task.at v t way);
}

pub since_many : (nodes : ℕ) (arrival costs soon : List ℕ) (d : ℕ) → length (since_of nodes arrival costs soon d) ≡ nodes
since_many nodes arrival costs soon d = length-map-range_with_len (since_at arrival costs soon d) 0 nodes

pub since_read : (nodes : ℕ) (arrival costs soon : List ℕ) (d k : ℕ) → k < nodes → slice_index (since_of nodes arrival costs soon d) k ≡ since_at arrival costs soon d k
since_read nodes arrival costs soon d k less = get_or-map-range_with_len (since_at arrival costs soon d) 0 nodes k k 0 less (omega arith)

pub since_most : (nodes : ℕ) (arrival costs soon : List ℕ) (d k : ℕ) → slice_index (since_of nodes arrival costs soon d) k ≤ since_at arrival costs soon d k
since_most nodes arrival costs soon d k = elim (cases_lt k nodes) [
  | inl less ↦ omega (arith, since_read nodes arrival costs soon d k less)
  | inr past ↦ omega (arith, get_or_past (since_of nodes arrival costs soon d) k 0 (omega (arith, since_many nodes arrival costs soon d)))
]

pub first_before : (a l s : ℕ) → a < l → first_of a l s ≡ a
first_before a l s less = grind (arith, less)

pub first_after : (a l s : ℕ) → l ≤ a → first_of a l s ≡ max l s
first_after a l s le = grind (arith, le)

pub first_most : (a l s : ℕ) → first_of a l s ≤ max (min a l) s
first_most a l s = elim (cases_lt a l) [
  | inl less ↦ omega (arith, first_before a l s less, less)
  | inr le ↦ omega (arith, first_after a l s le, le)
]

-- nor before the arrivals that were found, each lowered to the last second from which a way may still deliver by then; nor
-- before the soonest seconds
pub arrivals_lowered : (task : SearchTask) (nodes : ℕ) (arrival costs soon : List ℕ) (d : ℕ) → nodes ≡ length task.table → AreSince task soon → AreArrivalsBy task costs arrival d → AreArrivals task (since_of nodes arrival costs soon d)
arrivals_lowered task nodes arrival costs soon d all since by = record {
  flags = since_many nodes arrival costs soon d ∙ all;
  least = λ ns v t some way. omega (arith, since_most nodes arrival costs soon d v, first_most (slice_index arrival v) (d - slice_index costs v) (slice_index soon v), since ns v t some way, by ns v t some way);
}

-- an empty list that is made longer has the new value alone
pub filled : {A : Type 0} (n k : ℕ) (v : A) (xs ys : List A) → xs ≡ [] → k ≡ n → ys ≡ take n xs ++ replicate k v → ys ≡ replicate n v
filled zero k v [] ys none many is = rw many at is
filled (suc n) k v [] ys none many is = rw many at is
filled n k v (x ∷ xs) ys none many is = absurd cc
