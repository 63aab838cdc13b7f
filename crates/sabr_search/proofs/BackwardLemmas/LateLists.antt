-- The lists of layers that are made backward: one write in a list, and one node that is noted to be too late later than
-- before.
use Rattle.std.proofs.Common.{◌≡◌, ℕ, zero, suc, ◌<◌, ◌∷◌, [], List, length, false, Some, slice_get, slice_index, slice_index_or, slice_set, refl, ap, arith, ◌≢◌, ◌⊎◌, inl, inr, ◌-◌, ◌≤◌, ◌++◌, take, sym, ◌∙◌, length-append}
use Rattle.std.proofs.lemmas.List.{get_or-set_other, get_or-set_same, length-set}
use Rattle.std.proofs.lemmas.Bool.{cases_eq}
use Rattle.sabr_model.proofs.ListLemmas.Members.{push_cases, push_new, push_old}
use Rattle.sabr_search.specs.questions.Task.{SearchTask, IsTask, Takes}
use Rattle.std.proofs.lemmas.Option.{slice_get_within}
use Rattle.sabr_search.specs.declared.backward.deadlines.Deadline.{Deadline}
use Rattle.sabr_search.specs.layers.Late.{InTimeFor, IsLateEntry, AreLate, IsLeftInTime}
use Rattle.sabr_search.proofs.ForwardLemmas.LayerEntries.{same_below}
use Rattle.sabr_search.proofs.WayLemmas.RoutesAndWays.{takes_timely, same_some}
use Rattle.sabr_search.proofs.BackwardLemmas.Relaxing.{late_rises}

-- One write in a list.

pub get_set_here : {X : Type 0} (xs : List X) (k : ℕ) (x : X) → k < length xs → slice_get (slice_set xs k x) k ≡ Some x
get_set_here [] k x less = absurd (omega arith)
get_set_here (y ∷ xs) zero x less = refl
get_set_here (y ∷ xs) (suc k) x less = get_set_here xs k x (omega arith)

pub get_set_other : {X : Type 0} (xs : List X) (k j : ℕ) (x : X) → (j ≡ k → ⊥) → slice_get (slice_set xs k x) j ≡ slice_get xs j
get_set_other [] k j x other = refl
get_set_other (y ∷ xs) zero zero x other = absurd (other refl)
get_set_other (y ∷ xs) zero (suc j) x other = refl
get_set_other (y ∷ xs) (suc k) zero x other = refl
get_set_other (y ∷ xs) (suc k) (suc j) x other = get_set_other xs k j x (λ same. other (ap suc same))

-- an element of a list with one changed is one of before or that one
pub set_cases : {X : Type 0} (xs : List X) (k : ℕ) (y : X) (p : ℕ) (e : X) → k < length xs → slice_get (slice_set xs k y) p ≡ Some e → ((p ≢ k) × (slice_get xs p ≡ Some e)) ⊎ ((p ≡ k) × (e ≡ y))
set_cases xs k y p e less at = elim (cases_eq p k) [
  | inl same ↦ inr (same, same_some (sym at ∙ ap (slice_get (slice_set xs k y)) same ∙ get_set_here xs k y less))
  | inr other ↦ inl (other, sym (get_set_other xs k p y other) ∙ at)
]

module _ (task : SearchTask) (first begin : ℕ) (deadline place : List ℕ) (entries : List Deadline) (was : AreLate task first begin deadline place entries)
    (u x : ℕ) (inside : u < length task.table) (permitted : slice_index_or task.forbidden u false ≡ false) (other : u ≢ task.goal) (later : slice_index deadline u < x)
    (sound : (t : ℕ) → t < x → (n : ℕ) × (w : ℕ) × (b : ℕ) × Takes task n u t w b × InTimeFor entries first begin w b) where
  abbrev f : Deadline
  f = record { node = u; before = x }

  now_late : slice_index (slice_set deadline u x) u ≡ x
  now_late = get_or-set_same deadline u x 0 (omega (arith, was.many))

  new_entry : (e : Deadline) → e ≡ record { node = u; before = x } → IsLateEntry task e
  new_entry e is = rw is (record { inside = inside; permitted = permitted; other = other; some = omega (arith, later) })

  -- an entry of before or the new one is too late no later than its node
  old_by : (p : ℕ) (e : Deadline) → slice_get entries p ≡ Some e → e.before ≤ slice_index (slice_set deadline u x) e.node
  old_by p e at = omega (arith, was.by p e at, late_rises deadline u x (omega (arith, was.many)) later e.node)

  new_by : (e : Deadline) → e ≡ record { node = u; before = x } → e.before ≤ slice_index (slice_set deadline u x) e.node
  new_by e is = rw is (omega (arith, now_late))

  -- u has the new entry at a place of the layer, and other entries stay
  module _ (place' : List ℕ) (entries' : List Deadline) (at : ℕ) (flags : length place' ≡ length task.table) (begins : begin ≤ length entries') (above : begin ≤ at)
      (here : slice_get entries' at ≡ Some f) (placed : slice_index place' u ≡ at) (others : (v : ℕ) → v ≢ u → slice_index place' v ≡ slice_index place v)
      (stays : (p : ℕ) (e : Deadline) → slice_get entries p ≡ Some e → (p < begin) ⊎ (e.node ≢ u) → slice_get entries' p ≡ Some e)
      (cases : (p : ℕ) (e : Deadline) → slice_get entries' p ≡ Some e → ((p ≢ at) × (slice_get entries p ≡ Some e)) ⊎ ((p ≡ at) × (e ≡ f)))
      (alone : (p : ℕ) (e : Deadline) → begin ≤ p → slice_get entries p ≡ Some e → e.node ≡ u → p ≡ at) where
    in_time : (w b : ℕ) → InTimeFor entries first begin w b → InTimeFor entries' first begin w b
    in_time w b t = (t.0, t.1, t.2, t.3, stays t.0 t.1 t.4 (inl t.3), t.5, t.6)

    noted_late : AreLate task first begin (slice_set deadline u x) place' entries'
    noted_late = record {
      flags = flags;
      many = length-set deadline u x ∙ was.many;
      later = was.later;
      begins = begins;
      top = λ v less some. elim (cases_eq v u) [
        | inl same ↦ rw (same, now_late, placed) here
        | inr differs ↦
            (let keeps : slice_index (slice_set deadline u x) v ≡ slice_index deadline v = get_or-set_other deadline u v x 0 differs in
            rw (keeps, others v differs) (stays (slice_index place v) _ (was.top v less (omega (arith, some, keeps))) (inr differs)))
      ];
      goal = λ e there. elim (cases 0 e there) [ inl old ↦ was.goal e old.1 | inr new ↦ absurd (omega (arith, new.0, above, was.later)) ];
      each = λ p e some there. elim (cases p e there) [ inl old ↦ was.each p e some old.1 | inr new ↦ new_entry e new.1 ];
      by = λ p e there. elim (cases p e there) [ inl old ↦ old_by p e old.1 | inr new ↦ new_by e new.1 ];
      rising = λ p q e g some less at_p at_q same. elim (cases p e at_p) [
        | inl old_p ↦ elim (cases q g at_q) [
          | inl old_q ↦ was.rising p q e g some less old_p.1 old_q.1 same
          | inr new ↦
              (let node : e.node ≡ u = same ∙ ap (λ (y : Deadline). y.node) new.1 in
              omega (arith, was.by p e old_p.1, ap (slice_index deadline) node, later, ap (λ (y : Deadline). y.before) new.1))
        ]
        | inr new ↦ elim (cases q g at_q) [
          | inl old_q ↦
              (let node : g.node ≡ u = sym same ∙ ap (λ (y : Deadline). y.node) new.1 in
              absurd (omega (arith, less, new.0, alone q g (omega (arith, less, new.0, above)) old_q.1 node)))
          | inr both ↦ absurd (omega (arith, less, new.0, both.0))
        ]
      ];
      once = λ p e from there. elim (cases p e there) [
        | inl old ↦ others e.node (λ same. old.0 (alone p e from old.1 same)) ∙ was.once p e from old.1
        | inr new ↦ ap (λ (y : Deadline). slice_index place' y.node) new.1 ∙ placed ∙ sym new.0
      ];
      sound = λ p e t from there less. elim (cases p e there) [
        | inl old ↦ (let s = was.sound p e t from old.1 less in (s.0, s.1, s.2, s.3, in_time s.1 s.2 s.4))
        | inr new ↦
            (let s = sound t (omega (arith, less, ap (λ (y : Deadline). y.before) new.1)) in
            rw new.1 (s.0, s.1, s.2, s.3, in_time s.1 s.2 s.4))
      ];
    }

  -- its entry in the layer is changed
  pub changed_late : 0 < slice_index deadline u → begin ≤ slice_index place u → AreLate task first begin (slice_set deadline u x) place (slice_set entries (slice_index place u) (record { node = u; before = x }))
  changed_late some above =
      let at : ℕ = slice_index place u in
      let there : slice_get entries at ≡ Some (record { node = u; before = slice_index deadline u }) = was.top u inside some in
      let within : at < length entries = slice_get_within entries at _ there in
      noted_late place (slice_set entries at f) at was.flags (omega (arith, was.begins, length-set entries at f)) above (get_set_here entries at f within) refl (λ v differs. refl)
      (λ p e old why.
      get_set_other entries at p f
      (λ same. elim why [
        | inl before ↦ omega (arith, same, before, above)
        | inr differs ↦ differs (ap (λ (y : Deadline). y.node) (same_some (sym old ∙ ap (slice_get entries) same ∙ there)))
      ])
      ∙ old)
      (λ p e new. set_cases entries at f p e within new) (λ p e from old node. sym (was.once p e from old) ∙ ap (slice_index place) node)

  -- or it has one more
  pub pushed_late : (0 < slice_index deadline u → slice_index place u < begin) → AreLate task first begin (slice_set deadline u x) (slice_set place u (length entries)) (entries ++ record { node = u; before = x } ∷ [])
  pushed_late below =
      noted_late (slice_set place u (length entries)) (entries ++ f ∷ []) (length entries) (length-set place u (length entries) ∙ was.flags) (omega (arith, was.begins, length-append entries (f ∷ []))) was.begins
      (push_new entries f) (get_or-set_same place u (length entries) 0 (omega (arith, was.flags))) (λ v differs. get_or-set_other place u v (length entries) 0 differs) (λ p e old why. push_old entries f p e old)
      (λ p e new. elim (push_cases entries f p e new) [ inl old ↦ inl ((λ same. omega (arith, same, slice_get_within entries p e old)), old) | inr last ↦ inr (last.0, sym last.1) ])
      (λ p e from old node.
      let entry = was.each p e (omega (arith, from, was.later)) old in
      absurd (omega (arith, was.once p e from old, ap (slice_index place) node, below (omega (arith, entry.some, was.by p e old, ap (slice_index deadline) node)))))

-- if a link can be left later than before, each second sooner than that has a step in time
pub sound_back : (task : SearchTask) → IsTask task → (u to latest last before first begin : ℕ) (entries : List Deadline) →
    ((t : ℕ) → latest ≤ t → t < last → (b : ℕ) × (b < before) × (slice_index_or task.forbidden to false ≡ false → (n : ℕ) × Takes task n u t to b)) → latest < last → slice_index_or task.forbidden to false ≡ false →
    ((b : ℕ) → b < before → InTimeFor entries first begin to b) → (t : ℕ) → t < last → (n : ℕ) × (w : ℕ) × (b : ℕ) × Takes task n u t w b × InTimeFor entries first begin w b
sound_back task is u to latest last before first begin entries leaves later permitted given t less =
    let s = leaves (last - 1) (omega arith) (omega arith) in
    let step = s.2 permitted in
    let sooner = (takes_timely task is.nodes).earlier step.0 u (last - 1) to s.0 t step.1 (omega arith) in
    (step.0, to, sooner.0, sooner.2, given sooner.0 (omega (arith, sooner.1, s.1)))

-- what came before the layer is still there
pub in_time_kept : (first begin : ℕ) (entries reached0 : List Deadline) → take begin entries ≡ take begin reached0 → (w b : ℕ) → InTimeFor reached0 first begin w b → InTimeFor entries first begin w b
in_time_kept first begin entries reached0 kept w b t = (t.0, t.1, t.2, t.3, same_below begin reached0 entries (sym kept) t.0 t.1 t.3 t.4, t.5, t.6)

-- what the layers say of a step stays true
pub left_rises : (task : SearchTask) (since deadline late1 : List ℕ) (u t : ℕ) → ((k : ℕ) → slice_index deadline k ≤ slice_index late1 k) → IsLeftInTime task since deadline u t → IsLeftInTime task since late1 u t
left_rises task since deadline late1 u t rises in_time = λ permitted other soon. omega (arith, in_time permitted other soon, rises u)
