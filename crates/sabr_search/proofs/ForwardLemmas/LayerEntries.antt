-- The entries between two places of a list, their nodes, and how many contacts these send.
use Rattle.std.proofs.Common.{◌≡◌, ℕ, zero, suc, ◌+◌, ◌-◌, ◌<◌, ◌≤◌, List, [], ◌∷◌, ◌++◌, length, map, take, drop, true, false, cond, ◌||◌, ◌==◌, eqb, Some, slice_get, slice_index, slice_index_or, refl, ap, sym, ◌∙◌, ⊎_elim, arith, length-take, length-drop, ◌⊎◌, inl, inr, add-one, length-append}
use Rattle.std.specs.List.{count_by}
use Rattle.std.proofs.lemmas.Bool.{eq-eqb, ne_eqb, cases_Bool, false_from_ne_true, cases_eq, cases_lt}
use Rattle.std.proofs.lemmas.List.{take_more, drop-append-le, get_or-drop, get_or-take, get_or_append_left, get_or_push, get_or_past, length-map, map-append}
use Rattle.std.proofs.lemmas.List.Folds.{list_any-append}
use Rattle.std.proofs.lemmas.List.Sums.{sum_by-cons, count_by-le-length}
use Rattle.std.proofs.lemmas.Option.{slice_get-get_or, slice_get_within, get_or_from_slice_get, slice_get_read}
use Rattle.std.proofs.lemmas.List.Elements.{at_read}
use Rattle.sabr_model.specs.declared.contact.Contact.{Contact}
use Rattle.sabr_model.specs.plan.Plan.{has}
use Rattle.sabr_model.proofs.ListLemmas.Members.{map_in, Contains-from_in}
use Rattle.sabr_model.proofs.RouteLemmas.Listed.{in_from_has}
use Rattle.sabr_search.specs.declared.visit.Visit.{Visit}
use Rattle.sabr_search.specs.declared.backward.deadlines.Deadline.{Deadline}
use Rattle.sabr_search.specs.questions.Task.{SearchTask}
use Rattle.sabr_search.specs.questions.Linked.{place_in, senders, degree, receivers, received}
use Rattle.sabr_search.specs.layers.Lists.{AreSources}
use Rattle.sabr_search.specs.layers.Deadlines.{IsApart, Entries}
use Rattle.sabr_search.proofs.LinkLemmas.PlanFacts.{senders_length}
use Rattle.sabr_search.specs.questions.FirstSteps.{StepRelation, Leads}
use Rattle.sabr_search.proofs.WayLemmas.Ways.{IsTimely, Leads-later}

-- the nodes of the entries from place `first` to before `place`
abbrev pub nodes_from : {X : Type 0} → (X → ℕ) → List X → ℕ → ℕ → List ℕ
nodes_from node entries first place = map node (drop first (take place entries))

abbrev pub nodes_between : List Visit → ℕ → ℕ → List ℕ
nodes_between reached first place = nodes_from (λ e. e.node) reached first place

-- the nodes of the entries from place `first` to before `place`
abbrev pub late_between : List Deadline → ℕ → ℕ → List ℕ
late_between entries first place = nodes_from (λ e. e.node) entries first place

-- the number of standing contacts that the nodes of a list send
abbrev pub sent_by_all : SearchTask → List ℕ → ℕ
sent_by_all task nodes = count_by (λ k. has k nodes) (senders task)

-- the number of standing contacts that the nodes of a list receive
abbrev pub received_by_all : SearchTask → List ℕ → ℕ
received_by_all task nodes = count_by (λ k. has k nodes) (receivers task)

-- lists that begin alike have the same elements there
pub same_below : {X : Type 0} (k : ℕ) (xs ys : List X) → take k xs ≡ take k ys → (p : ℕ) (x : X) → p < k → slice_get xs p ≡ Some x → slice_get ys p ≡ Some x
same_below zero xs ys e p x less at = absurd (omega arith)
same_below (suc k) [] ys e p x less at = absurd cc
same_below (suc k) (x' ∷ xs) [] e p x less at = absurd cc
same_below (suc k) (x' ∷ xs) (y ∷ ys) e zero x less at = let same : x' ≡ y = cc (e) in ap Some (sym same) ∙ at
same_below (suc k) (x' ∷ xs) (y ∷ ys) e (suc p) x less at = same_below k xs ys (let rest : take k xs ≡ take k ys = cc (e) in rest) p x (omega arith) at

-- an entry more
pub between_more : {X : Type 0} (node : X → ℕ) (entries : List X) (first place : ℕ) (e : X) → first ≤ place → slice_get entries place ≡ Some e → nodes_from node entries first (place + 1) ≡ nodes_from node entries first place ++ node e ∷ []
between_more node entries first place e le at =
    let inside : place < length entries = slice_get_within entries place e at in
    let more : take (place + 1) entries ≡ take place entries ++ e ∷ [] = take_more entries place e inside ∙ ap (λ x. take place entries ++ x ∷ []) (get_or_from_slice_get entries place e e at) in
    let front : drop first (take place entries ++ e ∷ []) ≡ drop first (take place entries) ++ e ∷ [] = drop-append-le first (take place entries) (e ∷ []) (omega (arith, length-take place entries)) in
    ap (λ xs. map node (drop first xs)) more ∙ ap (map node) front ∙ map-append node (drop first (take place entries)) (e ∷ [])

-- a node among them is that of an entry there
pub between_at : {X : Type 0} (node : X → ℕ) (entries : List X) (first place u : ℕ) → has u (nodes_from node entries first place) ≡ true → (p : ℕ) × (e : X) × (first ≤ p) × (p < place) × (slice_get entries p ≡ Some e) × (node e ≡ u)
between_at node entries first place u h =
    let m = map_in node u (drop first (take place entries)) (in_from_has u (nodes_from node entries first place) h) in
    let c = Contains-from_in (drop first (take place entries)) m.0 m.1 in
    let sizes : length (drop first (take place entries)) ≡ length (take place entries) - first = length-drop first (take place entries) in
    let below = length-take place entries in
    let near : first + c.0 < length entries = omega (arith, c.1, sizes, below) in
    let there : slice_index_or entries (first + c.0) m.0 ≡ m.0 =
    sym (get_or-take place entries (first + c.0) m.0 (omega (arith, c.1, sizes, below))) ∙ sym (get_or-drop first (take place entries) c.0 m.0) ∙ c.2 in
    (first + c.0, m.0, omega arith, omega (arith, c.1, sizes, below), slice_get-get_or entries (first + c.0) m.0 near ∙ ap Some there, sym m.2)

count_more : (nodes fs : List ℕ) (u : ℕ) → has u nodes ≡ false → count_by (λ k. has k (nodes ++ u ∷ [])) fs ≡ count_by (λ k. has k nodes) fs + count_by (λ k. eqb k u) fs
count_more nodes [] u fresh = refl
count_more nodes (f ∷ fs) u fresh =
    let more : has f (nodes ++ u ∷ []) ≡ (has f nodes || (eqb f u || false)) = list_any-append (eqb f) nodes (u ∷ []) in
    let one : cond (has f (nodes ++ u ∷ [])) 1 0 ≡ cond (has f nodes) 1 0 + cond (eqb f u) 1 0 =
    ⊎_elim
    (λ same.
    let out : has f nodes ≡ false = ap (λ w. has w nodes) same ∙ fresh in
    rw (more, out, eq-eqb f u same) refl)
    (λ other. rw (more, ne_eqb f u other) (⊎_elim (λ yes'. rw yes' refl) (λ no'. rw no' refl) (cases_Bool (has f nodes))))
    (cases_eq f u) in
    omega (arith, sum_by-cons (λ k. cond (has k (nodes ++ u ∷ [])) 1 0) f fs, sum_by-cons (λ k. cond (has k nodes) 1 0) f fs, sum_by-cons (λ k. cond (eqb k u) 1 0) f fs, one, count_more nodes fs u fresh)

-- the contacts of one more node come to those of the others
pub sent_more : (task : SearchTask) (nodes : List ℕ) (u : ℕ) → has u nodes ≡ false → sent_by_all task (nodes ++ u ∷ []) ≡ sent_by_all task nodes + degree task u
sent_more task nodes u fresh = count_more nodes (senders task) u fresh

pub sent_at_most : (task : SearchTask) (nodes : List ℕ) → sent_by_all task nodes ≤ length task.plan.contacts
sent_at_most task nodes = omega (arith, count_by-le-length (λ k. has k nodes) (senders task), senders_length task)

-- an entry that is read below what stays is the one of before
pub entry_read : {X : Type 0} (reached reached0 : List X) (begin place : ℕ) (e : X) → take begin reached ≡ take begin reached0 → place < begin → begin ≤ length reached → e ≡ slice_index_or reached place e → slice_get reached0 place ≡ Some e
entry_read reached reached0 begin place e before less within is =
    same_below begin reached reached0 before place e less (slice_get_read reached (length reached) place e refl (omega arith) is)

-- ---- layers that lie one after another among entries

-- each up to `top` has the entries from its bound to before the next, and the first has one
pub record AreBounds {X : Type 0} (top : ℕ) (bounds : List ℕ) (entries : List X) : Type 0 where
  pub many : length bounds ≡ top + 2
  pub first : slice_index bounds 0 ≡ 0
  pub second : slice_index bounds 1 ≡ 1
  pub rising : (j : ℕ) → j ≤ top → slice_index bounds j ≤ slice_index bounds (j + 1)
  pub last : slice_index bounds (top + 1) ≡ length entries

-- layer h has this entry
abbrev pub Stands : {X : Type 0} → List ℕ → List X → ℕ → X → Type 0
Stands bounds entries h x = (p : ℕ) × (slice_index bounds h ≤ p) × (p < slice_index bounds (h + 1)) × (slice_get entries p ≡ Some x)

-- layer h has each node once
abbrev pub AreApart : {X : Type 0} → (X → ℕ) → List ℕ → List X → ℕ → Type 0
AreApart {X} node bounds entries h =
    (p q : ℕ) (e f : X) → slice_index bounds h ≤ p → slice_index bounds h ≤ q → p < slice_index bounds (h + 1) → q < slice_index bounds (h + 1) → slice_get entries p ≡ Some e → slice_get entries q ≡ Some f → node e ≡ node f → p ≡ q

-- one layer more, whose entries come after the others
module _ {X : Type 0} (top : ℕ) (bounds : List ℕ) (entries : List X) (are : AreBounds top bounds entries) (bounds' : List ℕ) (entries' : List X)
    (kept : take (slice_index bounds (top + 1)) entries' ≡ take (slice_index bounds (top + 1)) entries) (within : slice_index bounds (top + 1) ≤ length entries') (bounds_is : bounds' ≡ bounds ++ length entries' ∷ []) where
  pub bound_before : (j : ℕ) → j ≤ top + 1 → slice_index bounds' j ≡ slice_index bounds j
  bound_before j le = ap (λ xs. slice_index xs j) bounds_is ∙ get_or_append_left bounds (length entries' ∷ []) 0 j (omega (arith, are.many))

  last' : slice_index bounds' (top + 1 + 1) ≡ length entries'
  last' = ap (λ xs. slice_index xs (top + 1 + 1)) bounds_is ∙ get_or_push bounds (length entries') 0 (top + 1 + 1) (omega (arith, are.many))

  pub bounds_next : AreBounds (top + 1) bounds' entries'
  bounds_next = record {
    many = omega (arith, ap length bounds_is, length-append bounds (length entries' ∷ []), are.many);
    first = bound_before 0 (omega arith) ∙ are.first;
    second = bound_before 1 (omega arith) ∙ are.second;
    rising = λ j le. elim (cases_eq j (top + 1)) [
      | inl here ↦ omega (arith, ap (slice_index bounds') here, ap (λ k. slice_index bounds' (k + 1)) here, bound_before (top + 1) (omega arith), last', within)
      | inr other ↦ omega (arith, bound_before j le, bound_before (j + 1) (omega arith), are.rising j (omega arith))
    ];
    last = last';
  }

  pub still : (p : ℕ) (x : X) → slice_get entries p ≡ Some x → slice_get entries' p ≡ Some x
  still p x at = same_below (slice_index bounds (top + 1)) entries entries' (sym kept) p x (omega (arith, are.last, slice_get_within entries p x at)) at

  rise : (h m : ℕ) → h + 1 ≤ m → m ≤ top + 1 → slice_index bounds (h + 1) ≤ slice_index bounds m
  rise h zero le most = absurd (omega arith)
  rise h (suc m) le most = elim (cases_eq h m) [
    | inl same ↦ rw (same, add-one) (omega arith)
    | inr other ↦ rw (← add-one m) (omega (arith, rise h m (omega arith) (omega arith), are.rising m (omega arith)))
  ]

  -- an old entry stays in its layer
  pub stands_still : (h : ℕ) (x : X) → Stands bounds entries h x → Stands bounds' entries' h x
  stands_still h x e = elim (cases_lt top h) [
    | inr early ↦ (e.0, omega (arith, bound_before h (omega arith), e.1), omega (arith, bound_before (h + 1) (omega arith), e.2), still e.0 x e.3)
    | inl late ↦ absurd (omega (arith, get_or_past bounds (h + 1) 0 (omega (arith, are.many)), e.2))
  ]

  -- an entry of an old layer was there
  pub stood : (h : ℕ) (x : X) → h ≤ top → Stands bounds' entries' h x → Stands bounds entries h x
  stood h x le e =
      let below : e.0 < slice_index bounds (h + 1) = omega (arith, bound_before (h + 1) (omega arith), e.2) in
      (e.0, omega (arith, bound_before h (omega arith), e.1), below, same_below (slice_index bounds (top + 1)) entries' entries kept e.0 x (omega (arith, below, rise h (top + 1) (omega arith) (omega arith))) e.3)

  -- each layer has each node once if the new one does
  pub apart_next : (node : X → ℕ) → ((h : ℕ) → h ≤ top → AreApart node bounds entries h) →
      ((p q : ℕ) (e f : X) → slice_index bounds (top + 1) ≤ p → slice_index bounds (top + 1) ≤ q → slice_get entries' p ≡ Some e → slice_get entries' q ≡ Some f → node e ≡ node f → p ≡ q) →
      (h : ℕ) → h ≤ top + 1 → AreApart node bounds' entries' h
  unfolding stood
  apart_next node apart once h le p q e f above_p above_q below_p below_q at_p at_q same = elim (cases_eq h (top + 1)) [
    | inl here ↦
        (let lower : slice_index bounds' h ≡ slice_index bounds (top + 1) = ap (slice_index bounds') here ∙ bound_before (top + 1) (omega arith) in
        once p q e f (omega (arith, lower)) (omega (arith, lower)) at_p at_q same)
    | inr other ↦
        (let one = stood h e (omega arith) (p, above_p, below_p, at_p) in
        let two = stood h f (omega arith) (q, above_q, below_q, at_q) in
        apart h (omega arith) p q e f one.1 two.1 one.2 two.2 one.3 two.3 same)
  ]

-- the node of the next entry is not among those of the entries before it
pub fresh_node : {X : Type 0} (node : X → ℕ) (entries : List X) (first begin place : ℕ) (e : X) →
    ((p q : ℕ) (f g : X) → first ≤ p → first ≤ q → p < begin → q < begin → slice_get entries p ≡ Some f → slice_get entries q ≡ Some g → node f ≡ node g → p ≡ q) →
    first ≤ place → place < begin → slice_get entries place ≡ Some e → has (node e) (nodes_from node entries first place) ≡ false
fresh_node node entries first begin place e apart le less at =
    false_from_ne_true (has (node e) (nodes_from node entries first place)) (λ h.
    (let m = between_at node entries first place (node e) h in
    let same = apart m.0 place m.1 e m.2 le (omega (arith, m.3)) less m.4 at m.5 in
    omega (arith, m.3)))

-- so their contacts together are no more than those of the plan
pub sent_next : (task : SearchTask) (reached : List Visit) (first begin place : ℕ) (e : Visit) → AreSources task reached first begin → first ≤ place → place < begin → slice_get reached place ≡ Some e →
    sent_by_all task (nodes_between reached first place) + degree task e.node ≡ sent_by_all task (nodes_between reached first (place + 1))
sent_next task reached first begin place e sources le less at =
    sym (ap (sent_by_all task) (between_more (λ (x : Visit). x.node) reached first place e le at) ∙ sent_more task (nodes_between reached first place) e.node (fresh_node (λ (x : Visit). x.node) reached first begin place e sources.apart le less at))

-- and the contacts that they receive
pub received_next : (task : SearchTask) (ends : List ℕ) (entries : List Deadline) (left place : ℕ) (e : Deadline) → IsApart ends entries left → slice_index ends left ≤ place → place < slice_index ends (left + 1) → slice_get entries place ≡ Some e →
    received_by_all task (late_between entries (slice_index ends left) place) + received task e.node ≡ received_by_all task (late_between entries (slice_index ends left) (place + 1))
received_next task ends entries left place e apart le less at =
    sym (ap (received_by_all task) (between_more (λ (x : Deadline). x.node) entries (slice_index ends left) place e le at)
    ∙ count_more (late_between entries (slice_index ends left) place) (receivers task) e.node (fresh_node (λ (x : Deadline). x.node) entries (slice_index ends left) (slice_index ends (left + 1)) place e apart le less at))

pub received_at_most : (task : SearchTask) (nodes : List ℕ) → received_by_all task nodes ≤ length task.plan.contacts
received_at_most task nodes = omega (arith, count_by-le-length (λ k. has k nodes) (receivers task), length-map task.plan.contacts (λ (c : Contact). place_in task.table c.to))

-- and so are those to one node
pub received_all : (task : SearchTask) (w : ℕ) → received task w ≤ length task.plan.contacts
received_all task w = omega (arith, count_by-le-length (λ k. k == w) (receivers task), length-map task.plan.contacts (λ (c : Contact). place_in task.table c.to))

-- so up to an entry they are no more than those of the plan
pub received_within : (task : SearchTask) (ends : List ℕ) (entries : List Deadline) (left place : ℕ) (e : Deadline) → IsApart ends entries left → slice_index ends left ≤ place → place < slice_index ends (left + 1) → slice_get entries place ≡ Some e →
    received_by_all task (late_between entries (slice_index ends left) place) + received task e.node ≤ length task.plan.contacts
received_within task ends entries left place e apart le less at =
    omega (arith, received_next task ends entries left place e apart le less at, received_at_most task (late_between entries (slice_index ends left) (place + 1)))

-- what a `Vec` has at an index, at the usual default
pub read_at : (xs : List ℕ) (i x : ℕ) → i < length xs → x ≡ slice_index_or xs i x → x ≡ slice_index xs i
read_at xs i x h e = at_read xs (λ y. x ≡ y) i x h e refl 0

-- Hop layers forward: what is reached along steps has an entry.

-- an entry for node v by second t after at most h hops
abbrev pub ReachedBy : Entries → ℕ → ℕ → ℕ → Type 0
ReachedBy E h v t = (j : ℕ) × (a : ℕ) × (j ≤ h) × (a ≤ t) × E j v a

-- every step from an entry of a layer below h was taken: it ends at or after `best`, or at an entry of the next layer
-- or an earlier one
abbrev pub IsTaken : StepRelation → Entries → ℕ → ℕ → Type 0
IsTaken T E h best = (j v a n w b : ℕ) → j < h → E j v a → T n v a w b → (best ≤ b) ⊎ ReachedBy E (j + 1) w b

module _ (T : StepRelation) (timely : IsTimely T) (E : Entries) where
  -- from an entry on, along any steps
  pub reached_on : (m best : ℕ) → IsTaken T E m best →
      (ns : List ℕ) (k v t w e : ℕ) → k + length ns ≤ m → ReachedBy E k v t → Leads T v t ns w e →
      (best ≤ e) ⊎ ReachedBy E (k + length ns) w e
  reached_on m best taken [] k v t w e le r h =
      inr (r.0, r.1, omega arith, omega (arith, r.3, h.1), rw (← h.0) r.4)
  reached_on m best taken (n ∷ ns) k v t w e le r h =
      let first = timely.earlier n v t h.0 h.1 r.1 h.2 r.3 in
      let after : h.1 ≤ e = Leads-later T timely ns h.0 h.1 w e h.3 in
      elim (taken r.0 v r.1 n h.0 first.0 (omega (arith, r.2)) r.4 first.2) [
        | inl late ↦ inl (omega (arith, late, first.1, after))
        | inr found ↦
            let at : ReachedBy E (k + 1) h.0 h.1 = (found.0, found.1, omega (arith, found.2, r.2), omega (arith, found.3, first.1), found.4) in
            elim (reached_on m best taken ns (k + 1) h.0 h.1 w e (omega arith) at h.3) [
              | inl late ↦ inl late
              | inr last ↦ inr (last.0, last.1, omega (arith, last.2), last.3, last.4)
            ]
      ]

module _ (T : StepRelation) (timely : IsTimely T) (E : Entries) (start at goal : ℕ) (begins : E 0 start at) (never : (h a : ℕ) → E h goal a → ⊥) where
  -- once all layers below m are taken, no way of at most m hops comes before `best`
  pub none_sooner : (m best : ℕ) → IsTaken T E m best → (ns : List ℕ) (e : ℕ) → length ns ≤ m → Leads T start at ns goal e → best ≤ e
  none_sooner m best taken ns e le way =
      let at' : ReachedBy E 0 start at = (0, at, omega arith, omega arith, begins) in
      elim (reached_on T timely E m best taken ns 0 start at goal e (omega (arith, le)) at' way) [
        | inl late ↦ late
        | inr found ↦ absurd (never found.0 found.1 found.4)
      ]
