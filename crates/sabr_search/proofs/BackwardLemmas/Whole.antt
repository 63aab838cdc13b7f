-- Layers backward from the goal: as far as they were made, and as far as one likes if the last one has no entry; and what
-- a question's own layers say.
use Rattle.std.proofs.Common.{◌≡◌, inl, inr, ℕ, zero, suc, ◌+◌, ◌<◌, List, Some, slice_get, slice_index, ap, sym, ◌∙◌, arith, ◌≤◌, false, [], ◌∷◌, length, slice_index_or, refl, add-one}
use Rattle.std.proofs.lemmas.List.{get_or_past}
use Rattle.std.proofs.lemmas.Bool.{cases_lt, cases_eq, both_ways}
use Rattle.sabr_search.specs.declared.backward.deadlines.Deadline.{Deadline}
use Rattle.sabr_search.specs.declared.backward.deadlines.Deadlines.{Deadlines}
use Rattle.sabr_search.specs.questions.Task.{SearchTask, IsTask, Takes}
use Rattle.sabr_search.specs.layers.Deadlines.{AreLinked, HasDeadline}
use Rattle.sabr_search.specs.layers.WholeDeadlines.{AreWhole, AreMet, AreSound, IsDeadEnd, AreWholeDeadlinesOf}
use Rattle.sabr_search.proofs.BackwardLemmas.LateMade.{AreBackLayers, open_entry, AreLateLayers, IsMet}
use Rattle.sabr_search.proofs.WholeLemmas.Chained.{last_of}
use Rattle.sabr_search.specs.questions.FirstSteps.{Leads}
use Rattle.sabr_search.specs.layers.Late.{AreArrivals}
use Rattle.sabr_search.proofs.WayLemmas.RoutesAndWays.{same_some}
use Rattle.sabr_search.proofs.ForwardLemmas.FirstWays.{goal_other}
use Rattle.sabr_search.proofs.WholeLemmas.Leaves.{dead_at, leaves_out_none}

module _ {A : Type 0} (task : SearchTask) (is : IsTask task) (since : List ℕ) (d left : ℕ) (s : Deadlines A) (made : AreBackLayers task since d left s.ends.items s.deadline.items s.place.items s.entries.items) where
  -- no entry is after the last layer
  pub up_to_last : (j v x : ℕ) → HasDeadline s.ends.items s.entries.items j v x → j < left + 1
  up_to_last j v x e = elim (cases_lt left j) [
    | inl past ↦ absurd (omega (arith, get_or_past s.ends.items (j + 1) 0 (omega (arith, made.bounds_are.many)), e.2))
    | inr within ↦ omega (arith, within)
  ]

  -- nor in it, if it is empty
  pub before_last : slice_index s.ends.items left ≡ slice_index s.ends.items (left + 1) → (j v x : ℕ) → HasDeadline s.ends.items s.entries.items j v x → j < left
  before_last last j v x e = elim (cases_eq j left) [
    | inl same ↦ absurd (omega (arith, e.1, e.2, last, ap (slice_index s.ends.items) same, ap (λ k. slice_index s.ends.items (k + 1)) same))
    | inr other ↦ omega (arith, other, up_to_last j v x e)
  ]

  later : (p q : ℕ) (e f : Deadline) → p < q → slice_get s.entries.items p ≡ Some e → slice_get s.entries.items q ≡ Some f → e.node ≡ f.node → e.before < f.before
  later zero q e f less at_p at_q same = absurd ((made.lists.each q f (omega (arith, less)) at_q).other (sym same ∙ (made.lists.goal e at_p).0))
  later (suc p) q e f less at_p at_q same = made.lists.rising (suc p) q e f (omega arith) less at_p at_q same

  pub whole_of : AreLinked s.entries.items s.fewer.items → (most : ℕ) → ((j v x : ℕ) → j < most → HasDeadline s.ends.items s.entries.items j v x → j < left) → AreWhole task since d most s
  whole_of linked most within = record {
    nodes = made.lists.flags;
    chained = record {
      many = made.lists.many ∙ sym made.lists.flags;
      linked = linked;
      last = λ v inside. last_of task _ _ s.deadline.items s.place.items s.entries.items made.lists v (omega (arith, inside, made.lists.flags));
      later = later;
      by = made.lists.by;
    };
    first_end = made.bounds_are.first;
    second_end = made.bounds_are.second;
    rising = λ j less. made.bounds_are.rising j (omega (arith, less, made.bounds_are.many));
    goal_first = made.goal_first;
    permitted = λ p v here. (open_entry task is _ _ s.deadline.items s.place.items s.entries.items made.lists p _ here.1).1;
    taken = λ j w x n u t b less e by step. made.taken j w x n u t b (within j w x less e) e by step;
  }

-- What a question's own layers say: a way on for each entry in time, and none of fewer hops that delivers in time.

module _ {A : Type 0} (task : SearchTask) (is : IsTask task) (since : List ℕ) (arrivals : AreArrivals task since) (d left : ℕ) (s : Deadlines A)
    (made : AreLateLayers task since d left s.ends.items s.deadline.items s.place.items s.entries.items) (linked : AreLinked s.entries.items s.fewer.items) where
  -- layer 0 is the goal
  base : (v x : ℕ) → HasDeadline s.ends.items s.entries.items 0 v x → (v ≡ task.goal) × (x ≡ d + 1)
  base v x e =
      let zero_is : e.0 ≡ 0 = omega (arith, e.2, made.layers.bounds_are.second) in
      let same : record { node = v; before = x } ≡ record { node = task.goal; before = d + 1 } = same_some (sym e.3 ∙ ap (slice_get s.entries.items) zero_is ∙ made.layers.goal_first) in
      (ap (λ (y : Deadline). y.node) same, ap (λ (y : Deadline). y.before) same)

  -- a way on to the goal by d, of as many hops as the layer
  rest : (h v x t : ℕ) → h ≤ left → HasDeadline s.ends.items s.entries.items h v x → t < x → (ns : List ℕ) × (e : ℕ) × (length ns ≡ h) × (e ≤ d) × Leads (Takes task) v t ns task.goal e
  rest zero v x t le e less = let b = base v x e in ([], t, refl, omega (arith, b.1), (b.0, refl))
  rest (suc h) v x t le e less =
      let r = made.layers.sound h v x t (omega arith) (rw (add-one h) e) less in
      let on = rest h r.1 r.3 r.2 (omega arith) r.5 r.6 in
      (r.0 ∷ on.0, on.1, omega (arith, on.2), on.3, (r.1, r.2, r.4, on.4))

  -- they are layers of the question itself
  own_level : (most : ℕ) → ((j v x : ℕ) → j < most → HasDeadline s.ends.items s.entries.items j v x → j < left) → AreWholeDeadlinesOf task d most s
  own_level most within = record {
    most = most;
    within = omega arith;
    whole = task;
    since = since;
    layers = whole_of task is since d left s made.layers linked most within;
    table = refl;
    goal = refl;
    takes = λ n u t w b step. step;
    soonest = arrivals.least;
    begins = λ permitted. absurd (both_ways (slice_index_or task.forbidden task.start false) permitted is.start_forbidden);
  }

  -- fewer hops come later than d
  pub own_dead : (most : ℕ) → ((j v x : ℕ) → j < most → HasDeadline s.ends.items s.entries.items j v x → j < left) → IsDeadEnd task d task.start task.at most
  own_dead most within = dead_at task is.nodes d task.start task.at most later where
    later : (ns : List ℕ) (e : ℕ) → length ns ≤ most → Leads (Takes task) task.start task.at ns task.goal e → d < e
    later [] e few way = absurd (goal_other task is (sym way.0))
    later (n ∷ ns) e few way = elim (cases_lt d e) [
      | inl yes' ↦ yes'
      | inr le ↦
          (let r = leaves_out_none task is d most s (own_level most within) (n ∷ []) ns way.0 way.1 e (omega arith) (omega (arith, few)) (way.0, way.1, way.2, (refl, refl)) way.3 le in
          absurd (made.unmet r.0 way.0 r.1 n way.1 (within r.0 way.0 r.1 (omega (arith, r.2, few)) r.3) r.3 r.4 way.2))
    ]

  sound : AreSound task d s
  sound h v x t e less dead =
      let r = rest h v x t (omega (arith, up_to_last task is since d left s made.layers h v x e)) e less in
      omega (arith, r.3, dead r.0 t r.1 (omega arith) (omega (arith, r.2)) r.4)

  -- if the start is in time for the last layer, some way of one hop more comes by d
  pub are_met : IsMet task left s.ends.items s.entries.items → AreMet task d left s
  are_met met =
      let r = rest left met.w met.x met.b (omega arith) met.entry met.in_time in
      record {
        whole_deadlines = own_level left (λ j v x less e. less);
        sound = sound;
        fewer = own_dead left (λ j v x less e. less);
        met = λ dead. omega (arith, r.3, dead (met.n ∷ r.0) task.at r.1 (omega arith) (omega (arith, r.2)) (met.w, met.b, met.step, r.4));
      }
