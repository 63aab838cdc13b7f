-- Steps of a forward search: what one contact, one node and one layer leave.
use Rattle.std.proofs.Common.{◌≡◌, min, ◌⊎◌, inl, inr, ℕ, ◌+◌, ◌<◌, ◌≤◌, List, Bool, false, Some, slice_get, slice_index, slice_index_or, refl, ap, sym, subst, ◌∙◌, arith, [], ◌∷◌, map}
use Rattle.std.proofs.lemmas.Bool.{cases_lt}
use Rattle.sabr_model.specs.declared.contact.Contact.{Contact}
use Rattle.sabr_model.specs.declared.hop.Hop.{Hop}
use Rattle.sabr_model.specs.plan.Plan.{contact_named, has}
use Rattle.sabr_search.specs.declared.visit.Visit.{Visit}
use Rattle.sabr_search.specs.questions.Task.{SearchTask, Takes, IsTask}
use Rattle.sabr_search.specs.questions.Linked.{IsHopAt}
use Rattle.sabr_model.specs.routes.Hops.{hop_arrival}
use Rattle.sabr_search.specs.layers.Lists.{AreLists, IsLowered, IsKnown, Arrivals}
use Rattle.sabr_search.proofs.LinkLemmas.PlanFacts.{hop_arrival_is}
use Rattle.sabr_search.proofs.WayLemmas.RoutesAndWays.{same_some}
use Rattle.std.specs.Prelude.{All}
use Rattle.std.specs.BinaryHeap.{IsUpperBound}
use Rattle.std.specs.Ordering.{nat_cmp}
use Rattle.std.specs.declared.cmp.Reverse.{Reverse}
use Rattle.std.proofs.lemmas.List.Elements.{All-nil, All-cons}
use Rattle.std.proofs.lemmas.Map.Keys.{ge_from_not_lt}
use Rattle.sabr_search.specs.layers.Events.{event_of}

-- nothing was taken
pub lowered_none : (forbidden : List Bool) (goal at begin : ℕ) (Given : Arrivals) (arrival place : List ℕ) (reached : List Visit) (best : ℕ) →
    AreLists forbidden goal at begin arrival place reached → IsLowered forbidden goal at begin Given arrival reached best arrival place reached best
lowered_none forbidden goal at begin Given arrival place reached best lists = record {
  lists = lists;
  lower = omega arith;
  lowered = λ k. omega arith;
  before = refl;
  adds = λ p d within. inl (within, refl);
  found = inl refl;
}

-- more steps after some steps, if what the first are given is also given to the second
pub lowered_more : (forbidden : List Bool) (goal at begin : ℕ) (Given Given' : Arrivals) (arrival0 : List ℕ) (reached0 : List Visit) (best0 : ℕ) (arrival1 place1 : List ℕ) (reached1 : List Visit) (best1 : ℕ) (arrival2 place2 : List ℕ) (reached2 : List Visit) (best2 : ℕ) →
    ((w x : ℕ) → Given' w x → Given w x) →
    IsLowered forbidden goal at begin Given arrival0 reached0 best0 arrival1 place1 reached1 best1 → IsLowered forbidden goal at begin Given' arrival1 reached1 best1 arrival2 place2 reached2 best2 →
    IsLowered forbidden goal at begin Given arrival0 reached0 best0 arrival2 place2 reached2 best2
lowered_more forbidden goal at begin Given Given' arrival0 reached0 best0 arrival1 place1 reached1 best1 arrival2 place2 reached2 best2 weaker one two = record {
  lists = two.lists;
  lower = omega (arith, one.lower, two.lower);
  lowered = λ k. omega (arith, one.lowered k, two.lowered k);
  before = two.before ∙ one.before;
  adds = λ p d within. elim (two.adds p d within) [
    | inl old ↦ elim (one.adds p d old.0) [
      | inl older ↦ inl (older.0, old.1 ∙ older.1)
      | inr given ↦ inr (rw old.1 given)
    ]
    | inr given ↦ inr (weaker (slice_index_or reached2 p d).node (slice_index_or reached2 p d).at given)
  ];
  found = elim two.found [
    | inl same ↦ (elim one.found [ inl older ↦ inl (same ∙ older) | inr given ↦ inr (subst (Given goal) (sym same) given) ])
    | inr given ↦ inr (weaker goal best2 given)
  ];
}

-- what is known stays known, since arrivals and the best delivery only fall
pub known_lower : (goal : ℕ) (arrival arrival' : List ℕ) (best best' w x : ℕ) → ((k : ℕ) → slice_index arrival' k ≤ slice_index arrival k) → best' ≤ best → IsKnown goal arrival best w x → IsKnown goal arrival' best' w x
known_lower goal arrival arrival' best best' w x falls lower (inl late) = inl (omega (arith, late))
known_lower goal arrival arrival' best best' w x falls lower (inr reached) = inr (reached.0, omega (arith, reached.1, falls w))

-- what is known at some second is known later
pub known_later : (goal : ℕ) (arrival : List ℕ) (best w x y : ℕ) → x ≤ y → IsKnown goal arrival best w x → IsKnown goal arrival best w y
known_later goal arrival best w x y le (inl late) = inl (omega (arith, late))
known_later goal arrival best w x y le (inr reached) = inr (reached.0, omega (arith, reached.1))

-- what comes no earlier than what is news is known
pub known_old : (goal : ℕ) (arrival : List ℕ) (best w x : ℕ) → best ≤ slice_index arrival goal → min best (slice_index arrival w) ≤ x → IsKnown goal arrival best w x
known_old goal arrival best w x deadline le = elim (cases_lt x best) [
  | inr behind ↦ inl behind
  | inl before ↦ inr (λ same. absurd (omega (arith, before, le, deadline, ap (slice_index arrival) same)), omega (arith, before, le))
]

-- what a step over the contact of a hop is
pub step_of_hop : (task : SearchTask) → IsTask task → (n : ℕ) (h : Hop) → IsHopAt task n h → (u t w x : ℕ) → Takes task n u t w x → (w ≡ h.receiver) × (hop_arrival task.request.margin t h ≡ Some x)
step_of_hop task is n h hop u t w x s =
    let same : s.contact ≡ hop.contact = same_some (sym s.named ∙ hop.named) in
    let to : slice_get task.table w ≡ Some hop.contact.to = s.receiver ∙ ap (λ (c : Contact). Some c.to) same in (
      is.nodes.apart w h.receiver hop.contact.to to hop.is.receiver,
      sym (hop_arrival_is (record { plan = task.plan; table = task.table }) task.request t hop.contact h hop.is) ∙ rw same at s.arrives,
    )

-- a hop in time to an open node is a step
pub hop_takes : (task : SearchTask) → IsTask task → (n : ℕ) (h : Hop) → IsHopAt task n h → (u t x : ℕ) → ((c : Contact) × (contact_named task.plan n ≡ Some c) × (slice_get task.table u ≡ Some c.from)) →
    slice_index_or task.forbidden h.receiver false ≡ false → (u ≡ task.start → has n task.excluded ≡ false) → hop_arrival task.request.margin t h ≡ Some x → Takes task n u t h.receiver x
hop_takes task is n h hop u t x sent permitted allowed arrives =
    let same : sent.0 ≡ hop.contact = same_some (sym sent.1 ∙ hop.named) in
    record {
      contact = hop.contact;
      named = hop.named;
      sender = sent.2 ∙ ap (λ (c : Contact). Some c.from) same;
      receiver = hop.is.receiver;
      permitted = permitted;
      allowed = allowed;
      arrives = hop_arrival_is (record { plan = task.plan; table = task.table }) task.request t hop.contact h hop.is ∙ arrives;
    }

-- a place before the next is an earlier one or this
pub last_or_before : (n i : ℕ) → n < i + 1 → (n < i) ⊎ (n ≡ i)
last_or_before n i h = grind arith

-- The keys of events in their order.

-- no event is earlier than that of the least key
pub earliest_of_least : (x : Reverse ℕ) (keys : List (Reverse ℕ)) → IsUpperBound (λ (a b : Reverse ℕ). nat_cmp b.0 a.0) x keys → All (λ (e : Visit). (event_of x.0).at ≤ e.at) (map (λ (k : Reverse ℕ). event_of k.0) keys)
earliest_of_least x [] least = All-nil (λ (e : Visit). (event_of x.0).at ≤ e.at)
earliest_of_least x (k ∷ keys) least = All-cons (λ (e : Visit). (event_of x.0).at ≤ e.at) (event_of k.0) (map (λ (j : Reverse ℕ). event_of j.0) keys) (omega (arith, ge_from_not_lt k.0 x.0 least.0)) (earliest_of_least x keys least.1)
