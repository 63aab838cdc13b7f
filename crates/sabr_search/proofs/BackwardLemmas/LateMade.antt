-- One layer more, backward from the goal.
use Rattle.std.proofs.Common.{◌≡◌, ◌≢◌, inl, inr, ℕ, zero, suc, ◌+◌, ◌<◌, ◌≤◌, List, [], ◌∷◌, ◌++◌, length, take, false, Some, slice_get, slice_index, slice_index_or, refl, ap, sym, ◌∙◌, arith}
use Rattle.std.proofs.lemmas.Bool.{cases_eq}
use Rattle.std.proofs.lemmas.Option.{slice_get_within}
use Rattle.sabr_search.specs.declared.backward.deadlines.Deadline.{Deadline}
use Rattle.sabr_search.specs.questions.Task.{SearchTask, Takes, IsTask}
use Rattle.sabr_search.specs.layers.Deadlines.{AreLinked, HasDeadline, IsApart}
use Rattle.sabr_search.specs.layers.Late.{InTimeFor, AreLate, AreLeftInTimeFrom, IsLeftInTimeBy}
use Rattle.sabr_search.proofs.ForwardLemmas.LayerEntries.{AreBounds, bound_before, bounds_next, still, stands_still, stood, apart_next}
use Rattle.sabr_search.proofs.ForwardLemmas.Forward.{last_or_before}
use Rattle.sabr_search.proofs.WayLemmas.RoutesAndWays.{same_some}
use Rattle.sabr_search.proofs.ForwardLemmas.MadeLayers.{layer_of}

-- the layers up to `left` hops from the goal
pub record AreBackLayers (task : SearchTask) (since : List ℕ) (d left : ℕ) (ends deadline place : List ℕ) (entries : List Deadline) : Type 0 where
  pub lists : AreLate task (slice_index ends left) (slice_index ends (left + 1)) deadline place entries
  pub bounds_are : AreBounds left ends entries
  pub goal_first : slice_get entries 0 ≡ Some (record { node = task.goal; before = d + 1 })
  pub apart : (h : ℕ) → h ≤ left → IsApart ends entries h
  pub sound : (h v x t : ℕ) → h < left → HasDeadline ends entries (h + 1) v x → t < x → (n : ℕ) × (w : ℕ) × (b : ℕ) × (y : ℕ) × Takes task n v t w b × HasDeadline ends entries h w y × (b < y)
  pub taken : (j w x n u t b : ℕ) → j < left → HasDeadline ends entries j w x → b < x → Takes task n u t w b → IsLeftInTimeBy task since (HasDeadline ends entries) j u t

-- so they are, and the start is in time for no entry of an earlier one than the last
pub record AreLateLayers (task : SearchTask) (since : List ℕ) (d left : ℕ) (ends deadline place : List ℕ) (entries : List Deadline) : Type 0 where
  pub layers : AreBackLayers task since d left ends deadline place entries
  pub unmet : (j w x n b : ℕ) → j < left → HasDeadline ends entries j w x → b < x → Takes task n task.start task.at w b → ⊥

-- the start is in time for an entry of the last layer
pub record IsMet (task : SearchTask) (left : ℕ) (ends : List ℕ) (entries : List Deadline) : Type 0 where
  pub n : ℕ
  pub w : ℕ
  pub b : ℕ
  pub x : ℕ
  pub step : Takes task n task.start task.at w b
  pub entry : HasDeadline ends entries left w x
  pub in_time : b < x

-- an entry is the goal's, or one of another open node
pub open_entry : (task : SearchTask) → IsTask task → (first begin : ℕ) (deadline place : List ℕ) (entries : List Deadline) → AreLate task first begin deadline place entries → (p : ℕ) (e : Deadline) → slice_get entries p ≡ Some e →
    (e.node < length task.table) × (slice_index_or task.forbidden e.node false ≡ false)
open_entry task is first begin deadline place entries was zero e at =
    let same : e.node ≡ task.goal = (was.goal e at).0 in
    (omega (arith, is.goal_in), ap (λ k. slice_index_or task.forbidden k false) same ∙ is.goal_open)
open_entry task is first begin deadline place entries was (suc p) e at = let one = was.each (suc p) e (omega arith) at in (one.inside, one.permitted)

-- there is nothing after the end of a list
pub nothing_past : (task : SearchTask) (first begin first' begin' : ℕ) (deadline place : List ℕ) (entries : List Deadline) → AreLate task first begin deadline place entries → begin' ≡ length entries → AreLate task first' begin' deadline place entries
nothing_past task first begin first' begin' deadline place entries was all = record {
  flags = was.flags;
  many = was.many;
  later = omega (arith, was.later, was.begins);
  begins = omega arith;
  top = was.top;
  goal = was.goal;
  each = was.each;
  by = was.by;
  rising = was.rising;
  once = λ p e from at. absurd (omega (arith, slice_get_within entries p e at));
  sound = λ p e t from at less. absurd (omega (arith, slice_get_within entries p e at));
}

module _ (task : SearchTask) (is : IsTask task) (since : List ℕ) (d left : ℕ) (ends deadline place : List ℕ) (entries : List Deadline) (made : AreBackLayers task since d left ends deadline place entries)
    (ends' deadline' place' : List ℕ) (entries' : List Deadline)
    (after : AreLate task (slice_index ends left) (slice_index ends (left + 1)) deadline' place' entries')
    (kept_all : take (slice_index ends (left + 1)) entries' ≡ take (slice_index ends (left + 1)) entries)
    (in_time : AreLeftInTimeFrom task since entries (slice_index ends left) (slice_index ends (left + 1)) deadline')
    (ends_is : ends' ≡ ends ++ length entries' ∷ []) where
  next : AreBounds (left + 1) ends' entries'
  next = bounds_next left ends entries made.bounds_are ends' entries' kept_all after.begins ends_is

  end_before : (j : ℕ) → j ≤ left + 1 → slice_index ends' j ≡ slice_index ends j
  end_before = bound_before left ends entries made.bounds_are ends' entries' kept_all after.begins ends_is

  entry_kept : (h v x : ℕ) → HasDeadline ends entries h v x → HasDeadline ends' entries' h v x
  entry_kept h v x = stands_still left ends entries made.bounds_are ends' entries' kept_all after.begins ends_is h (record { node = v; before = x })

  entry_was : (h v x : ℕ) → h ≤ left → HasDeadline ends' entries' h v x → HasDeadline ends entries h v x
  entry_was h v x = stood left ends entries made.bounds_are ends' entries' kept_all after.begins ends_is h (record { node = v; before = x })

  -- an entry of the new layer
  entry_new : (h v x : ℕ) → h ≡ left + 1 → HasDeadline ends' entries' h v x → (p : ℕ) × (slice_index ends (left + 1) ≤ p) × (slice_get entries' p ≡ Some (record { node = v; before = x }))
  entry_new h v x here e = (e.0, omega (arith, end_before (left + 1) (omega arith), ap (slice_index ends') here, e.1), e.3)

  -- an entry that a step of the new layer is in time for
  entry_for : (h w b : ℕ) → h ≡ left → InTimeFor entries' (slice_index ends left) (slice_index ends (left + 1)) w b → (y : ℕ) × HasDeadline ends' entries' h w y × (b < y)
  entry_for h w b same t =
      let e : Deadline = t.1 in (
        e.before,
        (t.0, omega (arith, end_before left (omega arith), ap (slice_index ends') same, t.2), omega (arith, end_before (left + 1) (omega arith), ap (λ k. slice_index ends' (k + 1)) same, t.3), t.4 ∙ ap (λ k. Some (record { node = k; before = e.before })) t.5),
        t.6,
      )

  sound' : (h v x t : ℕ) → h < left + 1 → HasDeadline ends' entries' (h + 1) v x → t < x → (n : ℕ) × (w : ℕ) × (b : ℕ) × (y : ℕ) × Takes task n v t w b × HasDeadline ends' entries' h w y × (b < y)
  sound' h v x t less e by = elim (last_or_before h left less) [
    | inl before ↦
        (let s = made.sound h v x t before (entry_was (h + 1) v x (omega arith) e) by in
        (s.0, s.1, s.2, s.3, s.4, entry_kept h s.1 s.3 s.5, s.6))
    | inr same ↦
        (let new = entry_new (h + 1) v x (omega arith) e in
        let s = after.sound new.0 (record { node = v; before = x }) t new.1 new.2 by in
        let to = entry_for h s.1 s.2 same s.4 in
        (s.0, s.1, s.2, to.0, s.3, to.1, to.2))
  ]

  -- the newest entry of a node that isn't too late yet
  newest : (v t : ℕ) → v < length task.table → t < slice_index deadline' v → (i : ℕ) × (x : ℕ) × (i ≤ left + 1) × HasDeadline ends' entries' i v x × (t < x)
  newest v t inside by =
      let on = after.top v inside (omega arith) in
      let p : ℕ = slice_index place' v in
      let within : p < length entries' = slice_get_within entries' p (record { node = v; before = slice_index deadline' v }) on in
      let layer = layer_of ends' p (left + 1 + 1) next.first (omega (arith, next.last)) in
      (layer.0, slice_index deadline' v, omega (arith, layer.1), (p, layer.2, layer.3, on), by)

  taken' : (j w x n u t b : ℕ) → j < left + 1 → HasDeadline ends' entries' j w x → b < x → Takes task n u t w b → IsLeftInTimeBy task since (HasDeadline ends' entries') j u t
  taken' j w x n u t b less e by step = elim (last_or_before j left less) [
    | inl before ↦ λ permitted other soon.
        (let r = made.taken j w x n u t b before (entry_was j w x (omega arith) e) by step permitted other soon in
        (r.0, r.1, r.2, entry_kept r.0 u r.1 r.3, r.4))
    | inr same ↦ λ permitted other soon.
        (let old : HasDeadline ends entries left w x = entry_was left w x (omega arith) (rw same at e) in
        let now = in_time old.0 (record { node = w; before = x }) n u t b old.1 old.2 old.3 step by permitted other soon in
        let r = newest u t (slice_get_within task.table u step.contact.from step.sender) now in
        (r.0, r.1, omega (arith, r.2), r.3, r.4))
  ]

  -- the layers with the new one
  pub back_next : AreBackLayers task since d (left + 1) ends' deadline' place' entries'
  back_next = record {
    lists = nothing_past task (slice_index ends left) (slice_index ends (left + 1)) _ _ deadline' place' entries' after next.last;
    bounds_are = next;
    goal_first = still left ends entries made.bounds_are ends' entries' kept_all after.begins ends_is 0 (record { node = task.goal; before = d + 1 }) made.goal_first;
    apart = apart_next left ends entries made.bounds_are ends' entries' kept_all after.begins ends_is (λ (e : Deadline). e.node) made.apart (λ p q e f above_p above_q at_p at_q same. sym (after.once p e above_p at_p) ∙ ap (slice_index place') same ∙ after.once q f above_q at_q);
    sound = sound';
    taken = taken';
  }

  -- nor is the start in time for an entry of one of them but the new one, if it wasn't for one before
  module _ (earlier : (j w x n b : ℕ) → j < left → HasDeadline ends entries j w x → b < x → Takes task n task.start task.at w b → ⊥)
      (unmet : (w x n b : ℕ) → HasDeadline ends entries left w x → b < x → Takes task n task.start task.at w b → ⊥) where
    unmet' : (j w x n b : ℕ) → j < left + 1 → HasDeadline ends' entries' j w x → b < x → Takes task n task.start task.at w b → ⊥
    unmet' j w x n b less e by step = elim (last_or_before j left less) [
      | inl before ↦ earlier j w x n b before (entry_was j w x (omega arith) e) by step
      | inr same ↦ unmet w x n b (entry_was left w x (omega arith) (rw same at e)) by step
    ]

    pub late_next : AreLateLayers task since d (left + 1) ends' deadline' place' entries'
    late_next = record { layers = back_next; unmet = unmet' }

-- the layers so far, and a step from the start
module _ (task : SearchTask) (since : List ℕ) (d left : ℕ) (ends deadline place : List ℕ) (entries : List Deadline) (made : AreLateLayers task since d left ends deadline place entries) (n w b : ℕ) (step : Takes task n task.start task.at w b) where
  -- if it is in time for its node, the start is in time for an entry of the last layer
  pub met_by : b < slice_index deadline w → IsMet task left ends entries
  met_by by =
      let on = made.layers.lists.top w (slice_get_within task.table w step.contact.to step.receiver) (omega arith) in
      let within : slice_index place w < length entries = slice_get_within entries (slice_index place w) (record { node = w; before = slice_index deadline w }) on in
      let layer = layer_of ends (slice_index place w) (left + 1) made.layers.bounds_are.first (omega (arith, made.layers.bounds_are.last)) in
      let entry : HasDeadline ends entries layer.0 w (slice_index deadline w) = (slice_index place w, layer.2, layer.3, on) in
      elim (last_or_before layer.0 left (omega (arith, layer.1))) [
        | inl before ↦ absurd (made.unmet layer.0 w (slice_index deadline w) n b before entry by step)
        | inr same ↦ record { n = n; w = w; b = b; x = slice_index deadline w; step = step; entry = rw same at entry; in_time = by }
      ]

  -- if it comes too late for its node, it does so for each entry
  pub unmet_by : (j x : ℕ) → HasDeadline ends entries j w x → slice_index deadline w ≤ b → b < x → ⊥
  unmet_by j x e late_is by = omega (arith, made.layers.lists.by e.0 (record { node = w; before = x }) e.3)

-- zeros stand in a list of them
-- the goal's entry is its only one
pub linked_first : (e : Deadline) → AreLinked (e ∷ []) (0 ∷ [])
linked_first e = record {
  many = refl;
  each = λ p v here.
      (let first : p ≡ 0 = omega (arith, slice_get_within (e ∷ []) p _ here.1) in
      rw first (record { within = omega arith; entry = λ some. absurd (omega (arith, some)); none = λ q low high there. omega (arith, high) }));
}

-- the goal alone
pub back_first : (task : SearchTask) → IsTask task → (since : List ℕ) (d : ℕ) (ends deadline place : List ℕ) (entries : List Deadline) → ends ≡ 0 ∷ 1 ∷ [] → entries ≡ record { node = task.goal; before = d + 1 } ∷ [] →
    length place ≡ length task.forbidden → slice_index place task.goal ≡ 0 → length deadline ≡ length task.forbidden → slice_index deadline task.goal ≡ d + 1 → ((k : ℕ) → k ≢ task.goal → slice_index deadline k ≡ 0) → AreBackLayers task since d 0 ends deadline place entries
back_first task is since d ends deadline place entries ends_is entries_is places place_is many late_is none =
    rw (ends_is, entries_is) (record {
      lists = record {
        flags = omega (arith, places, is.as_many);
        many = omega (arith, many, is.as_many);
        later = omega arith;
        begins = omega arith;
        top = λ v less some. elim (cases_eq v task.goal) [
          | inl same ↦ rw (same, place_is, late_is) refl
          | inr other ↦ absurd (omega (arith, some, none v other))
        ];
        goal = λ e at. rw (← same_some at) (refl, omega arith);
        each = λ p e some at. absurd (omega (arith, slice_get_within (record { node = task.goal; before = d + 1 } ∷ []) p e at));
        by = λ p e at.
            (let zero_is : p ≡ 0 = omega (arith, slice_get_within (record { node = task.goal; before = d + 1 } ∷ []) p e at) in
            let is : record { node = task.goal; before = d + 1 } ≡ e = same_some (ap (slice_get (record { node = task.goal; before = d + 1 } ∷ [])) (sym zero_is) ∙ at) in
            rw (← is) (omega (arith, late_is)));
        rising = λ p q e f some less at_p at_q same. absurd (omega (arith, slice_get_within (record { node = task.goal; before = d + 1 } ∷ []) p e at_p));
        once = λ p e from at. absurd (omega (arith, slice_get_within (record { node = task.goal; before = d + 1 } ∷ []) p e at));
        sound = λ p e t from at less. absurd (omega (arith, slice_get_within (record { node = task.goal; before = d + 1 } ∷ []) p e at));
      };
      bounds_are = record { many = refl; first = refl; second = refl; rising = λ j le. (let zero_is : j ≡ 0 = omega arith in rw zero_is (omega arith)); last = refl };
      goal_first = refl;
      apart = λ h le p q e f above_p above_q below_p below_q at_p at_q same. omega (arith, slice_get_within (record { node = task.goal; before = d + 1 } ∷ []) p e at_p, slice_get_within (record { node = task.goal; before = d + 1 } ∷ []) q f at_q);
      sound = λ h v x t less e by. absurd (omega arith);
      taken = λ j w x n u t b less e by step. absurd (omega arith);
    })
