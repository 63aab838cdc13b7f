-- The chains of layers made backward: the entries of a node from its last one down, the walks over them, and a node that
-- is noted.
use Rattle.std.proofs.Common.{◌≡◌, inl, inr, ℕ, ◌+◌, ◌-◌, ◌<◌, ◌≤◌, List, [], ◌∷◌, ◌++◌, length, Some, slice_get, slice_index, slice_set, ap, sym, ◌∙◌, arith, length-append, ◌≢◌, take, false, slice_index_or, refl}
use Rattle.std.proofs.lemmas.Bool.{cases_lt, cases_eq}
use Rattle.std.proofs.lemmas.Bool.Decides.{nat_tests}
use Rattle.std.proofs.lemmas.Option.{slice_get_within}
use Rattle.std.proofs.Math.Seq.{get_or-append_seam}
use Rattle.std.proofs.lemmas.List.{get_or_append_left, length-set, take-append-le, take-set-le}
use Rattle.sabr_search.specs.declared.backward.deadlines.Deadline.{Deadline}
use Rattle.sabr_search.specs.layers.Deadlines.{AreLinked, IsLastBelow, IsLatestWithin, IsOf, head_of}
use Rattle.sabr_search.proofs.BackwardLemmas.LateLists.{get_set_here, get_set_other, set_cases, changed_late, pushed_late}
use Rattle.sabr_model.proofs.ListLemmas.Members.{push_cases, push_old}
use Rattle.sabr_search.proofs.WayLemmas.RoutesAndWays.{same_some}
use Rattle.sabr_search.specs.declared.backward.deadlines.Deadlines.{Deadlines}
use Rattle.sabr_search.specs.declared.backward.from_goal.Aim.{Aim}
use Rattle.sabr_search.specs.questions.Task.{SearchTask, Takes}
use Rattle.sabr_search.specs.layers.Late.{AreGrowing, AreGrown, AreLate, InTimeFor, IsNotedDeadline}

pub is_of : (entries : List Deadline) (p v : ℕ) (e : Deadline) → slice_get entries p ≡ Some e → e.node ≡ v → IsOf entries p v
is_of entries p v e at same = (e.before, at ∙ ap (λ k. Some (record { node = k; before = e.before })) same)

-- what is last below stays so where the entries keep their nodes
below_kept : (entries entries' : List Deadline) (v end place : ℕ) → ((p : ℕ) → p < end → IsOf entries p v → IsOf entries' p v) → ((p : ℕ) → p < end → IsOf entries' p v → IsOf entries p v) → IsLastBelow entries v end place → IsLastBelow entries' v end place
below_kept entries entries' v end place to back was = record {
  within = was.within;
  entry = λ some. to (place - 1) (omega (arith, was.within)) (was.entry some);
  none = λ p low high here. was.none p low high (back p high here);
}

-- an entry is changed to another of its node
module _ (entries : List Deadline) (k u x y : ℕ) (there : slice_get entries k ≡ Some (record { node = u; before = y })) where
  set_of : (p v : ℕ) → IsOf entries p v → IsOf (slice_set entries k (record { node = u; before = x })) p v
  set_of p v here = elim (cases_eq p k) [
    | inl same ↦
        (let node : v ≡ u = ap (λ (e : Deadline). e.node) (same_some (sym here.1 ∙ ap (slice_get entries) same ∙ there)) in
        let is = get_set_here entries k (record { node = u; before = x }) (slice_get_within entries k _ there) in
        is_of (slice_set entries k (record { node = u; before = x })) p v (record { node = u; before = x }) (ap (slice_get (slice_set entries k (record { node = u; before = x }))) same ∙ is) (sym node))
    | inr other ↦ (here.0, get_set_other entries k p (record { node = u; before = x }) other ∙ here.1)
  ]

  of_set : (p v : ℕ) → IsOf (slice_set entries k (record { node = u; before = x })) p v → IsOf entries p v
  of_set p v here = elim (set_cases entries k (record { node = u; before = x }) p _ (slice_get_within entries k _ there) here.1) [
    | inl old ↦ (here.0, old.1)
    | inr new ↦ is_of entries p v (record { node = u; before = y }) (ap (slice_get entries) new.0 ∙ there) (sym (ap (λ (e : Deadline). e.node) new.1))
  ]

  pub linked_set : (fewer : List ℕ) → AreLinked entries fewer → AreLinked (slice_set entries k (record { node = u; before = x })) fewer
  linked_set fewer was = record {
    many = was.many ∙ sym (length-set entries k (record { node = u; before = x }));
    each = λ p v here. below_kept entries _ v p (slice_index fewer p) (λ q less. set_of q v) (λ q less. of_set q v) (was.each p v (of_set p v here));
  }

-- one more entry comes
module _ (entries : List Deadline) (f : Deadline) where
  push_kept : (v end place : ℕ) → end ≤ length entries → IsLastBelow entries v end place → IsLastBelow (entries ++ f ∷ []) v end place
  push_kept v end place all = below_kept entries (entries ++ f ∷ []) v end place (λ q less here. (here.0, push_old entries f q _ here.1))
      (λ q less here. elim (push_cases entries f q _ here.1) [ inl old ↦ (here.0, old) | inr new ↦ absurd (omega (arith, new.0, less, all)) ])

  pub linked_push : (fewer : List ℕ) (head : ℕ) → AreLinked entries fewer → IsLastBelow entries f.node (length entries) head → AreLinked (entries ++ f ∷ []) (fewer ++ head ∷ [])
  linked_push fewer head was last = record {
    many = omega (arith, length-append entries (f ∷ []), length-append fewer (head ∷ []), was.many);
    each = λ p v here. elim (push_cases entries f p _ here.1) [
      | inl old ↦ (let within = slice_get_within entries p _ old in rw (get_or_append_left fewer (head ∷ []) 0 p (omega (arith, was.many, within))) (push_kept v p (slice_index fewer p) (omega (arith, within)) (was.each p v (here.0, old))))
      | inr new ↦
          (let node : v ≡ f.node = ap (λ (e : Deadline). e.node) (sym new.1) in
          let seam : slice_index (fewer ++ head ∷ []) p ≡ head = ap (slice_index (fewer ++ head ∷ [])) (new.0 ∙ sym was.many) ∙ get_or-append_seam fewer head [] 0 in
          rw (node, seam, new.0) (push_kept f.node (length entries) head (omega arith) last))
    ];
  }

-- where a node has no entry, and where it has one
pub head_none : (deadline place : List ℕ) (v : ℕ) → slice_index deadline v ≡ 0 → head_of deadline place v ≡ 0
head_none deadline place v none = grind (arith, nat_tests, none)

pub head_some : (deadline place : List ℕ) (v : ℕ) → 0 < slice_index deadline v → head_of deadline place v ≡ slice_index place v + 1
head_some deadline place v some = grind (arith, nat_tests, some)

-- a walk down the entries of a node came to the one before `place`, and none is after that and before `end`
pub record IsLastTo (entries : List Deadline) (v end place : ℕ) : Type 0 where
  pub entry : 0 < place → IsOf entries (place - 1) v
  pub none : (p : ℕ) → place ≤ p → p < end → IsOf entries p v → ⊥

pub last_begins : (entries : List Deadline) (v end place : ℕ) → IsLastBelow entries v (length entries) place → IsLastTo entries v end place
last_begins entries v end place was = record { entry = was.entry; none = λ p low high here. was.none p low (slice_get_within entries p _ here.1) here }

pub last_goes : (entries : List Deadline) (fewer : List ℕ) (v end place : ℕ) → AreLinked entries fewer → end < place → IsLastTo entries v end place → IsLastTo entries v end (slice_index fewer (place - 1))
last_goes entries fewer v end place linked above was =
    let next = linked.each (place - 1) v (was.entry (omega arith)) in
    record { entry = next.entry; none = λ p low high here. next.none p low (omega arith) here }

-- each entry of a node is left later than those before it
abbrev pub AreLater : List Deadline → Type 0
AreLater entries = (p q : ℕ) (e f : Deadline) → p < q → slice_get entries p ≡ Some e → slice_get entries q ≡ Some f → e.node ≡ f.node → e.before < f.before

-- an entry up to another of its node is left no later
up_to : (entries : List Deadline) → AreLater entries → (v x at p : ℕ) (e : Deadline) → slice_get entries at ≡ Some (record { node = v; before = x }) → p ≤ at → slice_get entries p ≡ Some e → e.node ≡ v → e.before ≤ x
up_to entries later v x at p e there le here same = elim (cases_eq p at) [
  | inl is ↦ omega (arith, ap (λ (d : Deadline). d.before) (same_some (sym here ∙ ap (slice_get entries) is ∙ there)))
  | inr other ↦ omega (arith, later p at e (record { node = v; before = x }) (omega (arith, le, other)) here there same)
]

pub latest_none : (entries : List Deadline) (v end : ℕ) → IsLastTo entries v end 0 → IsLatestWithin entries v end 0
latest_none entries v end was = λ p e less at same. absurd (was.none p (omega arith) less (is_of entries p v e at same))

pub latest_here : (entries : List Deadline) → AreLater entries → (v end place x : ℕ) → 0 < place → slice_get entries (place - 1) ≡ Some (record { node = v; before = x }) → IsLastTo entries v end place → IsLatestWithin entries v end x
latest_here entries later v end place x some there was = λ p e less at same. elim (cases_lt p place) [
  | inl before ↦ up_to entries later v x (place - 1) p e there (omega arith) at same
  | inr behind ↦ absurd (was.none p behind less (is_of entries p v e at same))
]

-- A node that is noted to be too late later than before: the chains of the entries with it.

-- a node's last entry is where it says
pub last_of : (task : SearchTask) (first begin : ℕ) (deadline place : List ℕ) (entries : List Deadline) → AreLate task first begin deadline place entries → (v : ℕ) → v < length task.table → IsLastBelow entries v (length entries) (head_of deadline place v)
last_of task first begin deadline place entries was v inside = elim (cases_eq (slice_index deadline v) 0) [
  | inl none ↦ rw (head_none deadline place v none) (record {
    within = omega arith;
    entry = λ some. absurd (omega (arith, some));
    none = λ p low high here. elim (cases_eq p 0) [
      | inl first ↦ omega (arith, none, was.by p _ here.1, (was.goal _ (ap (slice_get entries) (sym first) ∙ here.1)).1)
      | inr later ↦ omega (arith, none, was.by p _ here.1, (was.each p _ (omega (arith, later)) here.1).some)
    ];
  })
  | inr other ↦
      (let some : 0 < slice_index deadline v = omega (arith, other) in
      let top = was.top v inside some in
      rw (head_some deadline place v some) (record {
        within = omega (arith, slice_get_within entries (slice_index place v) _ top);
        entry = λ here. (slice_index deadline v, ap (slice_get entries) (omega arith) ∙ top);
        none = λ p low high here. elim (cases_eq (slice_index place v) 0) [
          | inl first ↦ (was.each p _ (omega (arith, low)) here.1).other ((was.goal _ (ap (slice_get entries) (sym first) ∙ top)).0)
          | inr later ↦ omega (arith, was.by p _ here.1, was.rising (slice_index place v) p _ _ (omega (arith, later)) (omega (arith, low)) top here.1 refl)
        ];
      }))
]

-- each head is within the entries
pub head_within : (task : SearchTask) (first begin : ℕ) (deadline place : List ℕ) (entries : List Deadline) → AreLate task first begin deadline place entries → (v : ℕ) → v < length task.table → head_of deadline place v ≤ length entries
head_within task first begin deadline place entries was v inside = (last_of task first begin deadline place entries was v inside).within

-- layers that have grown no more, or once more
pub grown_none : {A : Type 0} (aim : Aim A) (left : ℕ) (s : Deadlines A) → AreGrowing aim left s → AreGrown aim left s s
grown_none aim left s growing = record { growing = growing; rises = λ k. omega arith; ends = refl; before = refl }

pub grown_more : {A : Type 0} (aim : Aim A) (left : ℕ) (s t u : Deadlines A) → AreGrown aim left s t → AreGrown aim left t u → AreGrown aim left s u
grown_more aim left s t u first second = record {
  growing = second.growing;
  rises = λ k. omega (arith, first.rises k, second.rises k);
  ends = second.ends ∙ first.ends;
  before = rw first.ends at second.before ∙ first.before;
}

-- the lists with one node noted, and what stood before the layer
pub record AreNoted {A : Type 0} (task : SearchTask) (first begin u x : ℕ) (s t : Deadlines A) : Type 0 where
  pub lists : AreLate task first begin (slice_set s.deadline.items u x) t.place.items t.entries.items
  pub linked : AreLinked t.entries.items t.fewer.items
  pub kept : take begin t.entries.items ≡ take begin s.entries.items

pub late_noted : {A : Type 0} (task : SearchTask) (first begin : ℕ) (s t : Deadlines A) → AreLate task first begin s.deadline.items s.place.items s.entries.items → AreLinked s.entries.items s.fewer.items →
    (u x : ℕ) → u < length task.table → slice_index_or task.forbidden u false ≡ false → u ≢ task.goal → slice_index s.deadline.items u < x →
    ((t : ℕ) → t < x → (n : ℕ) × (w : ℕ) × (b : ℕ) × Takes task n u t w b × InTimeFor s.entries.items first begin w b) →
    IsNotedDeadline (head_of s.deadline.items s.place.items u) begin u x s t → AreNoted task first begin u x s t
late_noted task first begin s t was linked u x inside permitted other later sound (inl here) = elim (cases_eq (slice_index s.deadline.items u) 0) [
  | inl none ↦ absurd (omega (arith, here.0, head_none s.deadline.items s.place.items u none))
  | inr yes' ↦
      (let some : 0 < slice_index s.deadline.items u = omega (arith, yes') in
      let head = head_some s.deadline.items s.place.items u some in
      let above : begin ≤ slice_index s.place.items u = omega (arith, here.0, head) in
      let place : head_of s.deadline.items s.place.items u - 1 ≡ slice_index s.place.items u = omega (arith, head) in
      let is : t.entries.items ≡ slice_set s.entries.items (slice_index s.place.items u) (record { node = u; before = x }) = here.2 ∙ ap (λ k. slice_set s.entries.items k (record { node = u; before = x })) place in
      record {
        lists = rw (here.1, is) (changed_late task first begin s.deadline.items s.place.items s.entries.items was u x inside permitted other later sound some above);
        linked = rw (is, here.3) (linked_set s.entries.items (slice_index s.place.items u) u x (slice_index s.deadline.items u) (was.top u inside some) s.fewer.items linked);
        kept = rw is (take-set-le begin s.entries.items (slice_index s.place.items u) (record { node = u; before = x }) above);
      })
]
late_noted task first begin s t was linked u x inside permitted other later sound (inr new) = record {
  lists = rw (new.1, new.2) (pushed_late task first begin s.deadline.items s.place.items s.entries.items was u x inside permitted other later sound (λ some. omega (arith, new.0, head_some s.deadline.items s.place.items u some)));
  linked = rw (new.2, new.3) (linked_push s.entries.items (record { node = u; before = x }) s.fewer.items _ linked (last_of task first begin s.deadline.items s.place.items s.entries.items was u inside));
  kept = rw new.2 (take-append-le begin s.entries.items ((record { node = u; before = x }) ∷ []) was.begins);
}
