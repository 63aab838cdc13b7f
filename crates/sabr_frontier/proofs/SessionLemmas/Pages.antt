-- Steps of a tree, one after another, and the trees before them.
use Rattle.sabr_frontier.proofs.Names.{◌≡◌, ℕ, zero, suc, ◌+◌, ◌-◌, ◌<◌, ◌≤◌, Bool, true, false, not, reverse, ◌⊎◌, inl, inr, List, [], ◌∷◌, ◌++◌, map, length, refl, sym, ap, subst, ◌∙◌, arith, Some, None, append_assoc, take, drop, Option, length-drop, ContactPlan, IsPlan, RouteRequest, RouteRecord, record_of, Bound, GivenRoute, NodeId, Node, State, PartState, Member, is_some, IsTrue, IsFalse, slice_get, reverse-append, length_push, one_step, next_route, given_first, searches_for, Shape, numbers_of, shown, part_at, CanUndoTimes, undone, undone_times, CanUndo, undone_by, Asked, best_for, best_of, fresh_nodes, divided_into, divided_with, wide_of, IsNextGiven, CarriesNone, CarriesSome, IsBestOf, IsNext, IsTree, IsSoundFor, IsSound, tree_before, former_of, option_map, is_route, least_in, key_total, route_facts, given}
use Rattle.std.proofs.Common.{length-take}
use Rattle.sabr_frontier.specs.listing.Listing.{steps, searches_in}
use Rattle.sabr_frontier.proofs.TreeLemmas.CarryingNodes.{IsKnown, searches_are, carried_at, inside, next_is, record_is, shown_divided}
use Rattle.sabr_frontier.proofs.ListingLemmas.ListMembers.{Member-map_cases}
use Rattle.sabr_frontier.proofs.ListingLemmas.NextPlace.{least_carried_none}
use Rattle.sabr_frontier.proofs.ListingLemmas.AllRoutes.{by_key_exact}
use Rattle.sabr_frontier.proofs.TreeLemmas.ListFronts.{length_fresh}
use Rattle.sabr_frontier.proofs.TreeLemmas.SlotWinners.{standing_at}
use Rattle.sabr_frontier.proofs.TreeLemmas.SoundSteps.{tree_divided, undone_divided, can_undo}

-- ---- what giving the least route that a node of a sound tree carries is

pub new_nodes : (A : Type 0) (best : List ℕ → List ℕ → Option RouteRecord) (leaf : ℕ) (s : List ℕ) (d : ℕ) → d < length s → length (fresh_nodes {A = A} best leaf (take (d + 1) s) (drop (d + 1) s)) + 1 ≡ length s - d
new_nodes A best leaf s d l = omega (arith, length_fresh A best leaf (take (d + 1) s) (drop (d + 1) s), length-drop (d + 1) s)

-- with the same question the searches answer the same routes
pub given_same : {A : Type 0} {a b : Asked} {t u : Shape A} {step : GivenRoute} (o : Option Bound) (needed : Option ℕ) → b ≡ a → IsNextGiven (best_for b o) needed t u step → IsNextGiven (best_for a o) needed t u step
given_same {t = t} {u = u} {step = step} o needed same w = subst (λ (z : Asked). IsNextGiven (best_for z o) needed t u step) same w

-- a step from one tree to another is the step of the state, and can be undone
pub record IsGiven {A : Type 0} (p : ContactPlan) (r : RouteRequest) (t u : Shape A) : Type 0 where
  pub route : RouteRecord
  pub next : next_route p r (shown t) ≡ Some route.contacts
  pub told : route ≡ record_of p r route.contacts
  pub leaves : u.leaves ≡ t.leaves ++ route ∷ []
  pub stepped : one_step p r (shown t) ≡ Some (route.contacts, shown u)
  pub sound : IsTree p r u
  pub entries : length u.journal ≡ length t.journal + 1
  pub few : searches_for (shown t) route.contacts ≤ r.max_hops
  pub back : undone u ≡ t
  pub can : CanUndo u

module _ {A : Type 0} (p : ContactPlan) (r : RouteRequest) (good : IsPlan p) (t : Shape A) (is : IsTree p r t) where
  module _ (node : NodeId) (n : Node A) (x : RouteRecord) (stands : slice_get t.nodes node.0 ≡ Some n) (carries : n.route ≡ Some x) (least : IsBestOf t.nodes x) where
    abbrev pub given_by : IsGiven p r t (divided_with (best_of p r) t node n x)
    given_by = record {
      route = x;
      next = next_is p r t is node n x stands carries least;
      told = record_is p r t is node n x stands carries;
      leaves = refl;
      stepped = ap (option_map (given (is_route p r) (least_in p r) (shown t))) (next_is p r t is node n x stands carries least)
          ∙ (λ i. Some (x.contacts, sym (shown_divided p r t is node n x stands carries) i));
      sound = tree_divided p r good t is node n x stands carries;
      entries = length_push t.journal _;
      few = omega (arith, searches_are p r t is node n x stands carries, (route_facts p r x.contacts (inside p r t is node n x stands carries).0).within);
      back = undone_divided p r good t is node n x stands carries;
      can = can_undo p r good t is node n x stands carries;
    }

  pub is_given : (u : Shape A) (step : GivenRoute) → IsNextGiven (best_of p r) None t u step → (g : IsGiven p r t u) × (step.searches ≡ searches_for (shown t) g.route.contacts)
  is_given u step w =
      let Q = λ (z : Shape A). (g : IsGiven p r t z) × (step.searches ≡ searches_for (shown t) g.route.contacts) in
      let s = w.route.contacts in
      let shape = w.shape ∙ ap (divided_into t step.node w.part w.route (best_of p r (take w.part.length s) (wide_of w.part s))) w.found.0 in
      subst Q (sym shape) (given_by step.node w.part w.route w.stands w.carries w.least, w.found.1 ∙ sym (searches_are p r t is step.node w.part w.route w.stands w.carries))

  -- where some node carries a route, a step can be made
  pub some_given : CarriesSome t.nodes → (u : Shape A) × IsGiven p r t u
  some_given (x, h) = let id = h.0 in let w = standing_at t.nodes id x h.1.carries in (divided_with (best_of p r) t id w.0 x, given_by id w.0 x w.1 w.2 h.1.least)

  pub next_carried : (x : RouteRecord) → IsNext t.nodes x → (next_route p r (shown t) ≡ Some x.contacts) × (x ≡ record_of p r x.contacts)
  next_carried x h = let id = h.0 in let w = standing_at t.nodes id x h.1.carries in (next_is p r t is id w.0 x w.1 w.2 h.1.least, record_is p r t is id w.0 x w.1 w.2)

  none_carried : CarriesNone t.nodes → (u : PartState) → Member u (shown t).parts → u.carried ≡ None
  none_carried none u m =
      let w = Member-map_cases (part_at t.leaves t.nodes) u t.index m in
      ap (λ (z : PartState). z.carried) w.1 ∙ carried_at t.leaves (slice_get t.nodes w.0.0) ∙ ap (option_map numbers_of) (none w.0)

  -- if no node carries a route, no part does
  pub nothing_carried : CarriesNone t.nodes → next_route p r (shown t) ≡ None
  nothing_carried none = least_carried_none (key_total p r) (by_key_exact p r) (shown t).parts (none_carried none)

  pub nothing_given : CarriesNone t.nodes → one_step p r (shown t) ≡ None
  nothing_given none = ap (option_map (given (is_route p r) (least_in p r) (shown t))) (nothing_carried none)

-- ---- one undo of several

abbrev pub entries : {A : Type 0} → Shape A → ℕ
entries t = length t.journal

pub entries_undone : {A : Type 0} (t : Shape A) → CanUndo t → 0 < entries t → entries (undone t) + 1 ≡ entries t
entries_undone t c l =
    let same : undone t ≡ undone_by t (Some c.entry) (Some c.route) = λ i. undone_by t (c.entry_is i) (c.route_is i) in
    omega (arith, ap entries same, length-take (length t.journal - 1) t.journal)

pub can_undo_first : {A : Type 0} (n : ℕ) (t : Shape A) → 0 < n → CanUndoTimes n t → CanUndo t × CanUndoTimes (n - 1) (undone t)
can_undo_first zero t l h = absurd (omega arith)
can_undo_first (suc n) t l h = let e : n ≡ suc n - 1 = omega arith in (h.0, subst (λ m. CanUndoTimes m (undone t)) e h.1)

pub undone_first : {A : Type 0} (n : ℕ) (t : Shape A) → 0 < n → undone_times n t ≡ undone_times (n - 1) (undone t)
undone_first zero t l = absurd (omega arith)
undone_first (suc n) t l = let e : n ≡ suc n - 1 = omega arith in ap (λ m. undone_times m (undone t)) e

pub steps_stop : (p : ContactPlan) (r : RouteRequest) (s : State) (k : ℕ) → one_step p r s ≡ None → steps p r k s ≡ ([], s)
unfolding steps
steps_stop p r s zero e = refl
steps_stop p r s (suc k) e = ap (λ o. elim o [ None ↦ ([], s) | Some w ↦ given_first w.0 (steps p r k w.1) ]) e

pub steps_go : (p : ContactPlan) (r : RouteRequest) (s t : State) (x : List ℕ) (k : ℕ) → one_step p r s ≡ Some (x, t) → steps p r (suc k) s ≡ given_first x (steps p r k t)
unfolding steps
steps_go p r s t x k e = ap (λ o. elim o [ None ↦ ([], s) | Some w ↦ given_first w.0 (steps p r k w.1) ]) e

pub steps_none : (p : ContactPlan) (r : RouteRequest) (s : State) → steps p r 0 s ≡ ([], s)
unfolding steps
steps_none p r s = refl

module _ {A : Type 0} (p : ContactPlan) (r : RouteRequest) where
  pub sound_tree : (n : ℕ) (t : Shape A) → IsSoundFor p r n t → IsTree p r t
  sound_tree zero t h = h
  sound_tree (suc n) t h = h.0

  pub sound_taken : (t u : Shape A) → IsGiven p r t u → IsSound p r t → IsSound p r u
  sound_taken t u g h =
      let next : suc (length t.journal) ≡ length u.journal = omega (arith, g.entries) in
      subst (λ n. IsSoundFor p r n u) next (g.sound, g.can, subst (IsSoundFor p r (length t.journal)) (sym g.back) h)

  pub before_taken : (t u : Shape A) (start : ℕ) → IsGiven p r t u → start ≤ length t.journal → tree_before start u ≡ tree_before start t
  before_taken t u start g l =
      let more : length u.journal - start ≡ suc (length t.journal - start) = omega (arith, g.entries) in
      ap (λ n. undone_times n u) more ∙ ap (undone_times (length t.journal - start)) g.back

  -- undos are possible, and lead to a sound tree
  pub sound_undos : (m n : ℕ) (t : Shape A) → m ≤ n → IsSoundFor p r n t → CanUndoTimes m t
  sound_undos zero n t l h = tt
  sound_undos (suc m) zero t l h = absurd (omega arith)
  sound_undos (suc m) (suc n) t l h = (h.1, sound_undos m n (undone t) (omega arith) h.2)

  pub sound_before : (m n : ℕ) (t : Shape A) → m ≤ n → IsSoundFor p r n t → IsSoundFor p r (n - m) (undone_times m t)
  sound_before zero n t l h = let e : n ≡ n - 0 = omega arith in subst (λ k. IsSoundFor p r k t) e h
  sound_before (suc m) zero t l h = absurd (omega arith)
  sound_before (suc m) (suc n) t l h = let e : n - m ≡ suc n - suc m = omega arith in subst (λ k. IsSoundFor p r k (undone_times m (undone t))) e (sound_before m n (undone t) (omega arith) h.2)

-- ---- the loop of a page

-- where the loop is: what is given, and what k further steps give, is what all steps give from the state s
pub record IsOnTheWay {A : Type 0} (p : ContactPlan) (r : RouteRequest) (s : State) (all : ℕ) (first : Shape A) (k : ℕ) (t : Shape A) : Type 0 where
  pub routes : t.leaves ++ map (record_of p r) (steps p r k (shown t)).0 ≡ first.leaves ++ map (record_of p r) (steps p r all s).0
  pub state : (steps p r k (shown t)).1 ≡ (steps p r all s).1
  pub sound : IsSound p r t
  pub longer : length first.journal ≤ length t.journal
  pub back : tree_before (length first.journal) t ≡ first
  pub entries : length t.journal + length (steps p r k (shown t)).0 ≡ length first.journal + length (steps p r all s).0

pub at_first : {A : Type 0} (p : ContactPlan) (r : RouteRequest) (all : ℕ) (t : Shape A) → IsSound p r t → IsOnTheWay p r (shown t) all t all t
at_first p r all t h =
    let none : length t.journal - length t.journal ≡ 0 = omega arith in
    record {
      routes = refl;
      state = refl;
      sound = h;
      longer = omega arith;
      back = ap (λ n. undone_times n t) none;
      entries = refl;
    }

pub one_on : {A : Type 0} (p : ContactPlan) (r : RouteRequest) (s : State) (all : ℕ) (first : Shape A) (k : ℕ) (t u : Shape A) (g : IsGiven p r t u) → IsOnTheWay p r s all first (suc k) t → IsOnTheWay p r s all first k u
one_on p r s all first k t u g h =
    let go = steps_go p r (shown t) (shown u) g.route.contacts k g.stepped in
    record {
      routes = ap (λ z. z ++ map (record_of p r) (steps p r k (shown u)).0) g.leaves
          ∙ append_assoc t.leaves (g.route ∷ []) (map (record_of p r) (steps p r k (shown u)).0)
          ∙ ap (λ (z : RouteRecord). t.leaves ++ z ∷ map (record_of p r) (steps p r k (shown u)).0) g.told
          ∙ ap (λ (z : List (List ℕ) × State). t.leaves ++ map (record_of p r) z.0) (sym go)
          ∙ h.routes;
      state = ap (λ (z : List (List ℕ) × State). z.1) (sym go) ∙ h.state;
      sound = sound_taken p r t u g h.sound;
      longer = (let a = h.longer in omega (arith, g.entries));
      back = before_taken p r t u (length first.journal) g h.longer ∙ h.back;
      entries = (let a = h.entries in let b = ap (λ (z : List (List ℕ) × State). length z.0) go in omega (arith, g.entries, a, b));
    }

-- ---- pages of a session

module _ {A : Type 0} (p : ContactPlan) (r : RouteRequest) (good : IsPlan p) (t : Shape A) (sound : IsSound p r t) where
  tree_is : IsTree p r t
  tree_is = sound_tree p r (length t.journal) t sound

  -- no step, or nothing carried: nothing is given
  pub idle : (k : ℕ) → (k ≡ 0) ⊎ CarriesNone t.nodes → steps p r k (shown t) ≡ ([], shown t)
  idle k (inl e) = ap (λ n. steps p r n (shown t)) e ∙ steps_none p r (shown t)
  idle k (inr e) = steps_stop p r (shown t) k (nothing_given p r good t tree_is e)

  -- a step, and something carried: a route is given
  pub busy : (k : ℕ) → 0 < k → CarriesSome t.nodes → (x : List ℕ) × (xs : List (List ℕ)) × ((steps p r k (shown t)).0 ≡ x ∷ xs)
  busy zero l m = absurd (omega arith)
  busy (suc k) l m =
      let w = some_given p r good t tree_is m in
      (w.1.route.contacts, (steps p r k (shown w.0)).0, ap (λ (z : List (List ℕ) × State). z.0) (steps_go p r (shown t) (shown w.0) w.1.route.contacts k w.1.stepped))

  pub carried_or_not : (k : ℕ) → 0 < k → CarriesSome t.nodes → (k ≡ 0) ⊎ (next_route p r (shown t) ≡ None) → ⊥
  carried_or_not k l m (inl e) = omega arith
  carried_or_not k l m (inr e) = let a = (next_carried p r good t tree_is m.0 m.1).0 in cc

  pub more_is : (b : Bool) → (IsTrue b → CarriesNone t.nodes) → (IsFalse b → CarriesSome t.nodes) → not b ≡ is_some (next_route p r (shown t))
  more_is true none some = sym (ap is_some (nothing_carried p r good t tree_is (none refl)))
  more_is false none some = let w = some refl in sym (ap is_some (next_carried p r good t tree_is w.0 w.1).0)

pub length-former : {A : Type 0} (ss : List ℕ) (t : Shape A) → length (former_of ss t) ≡ length ss
length-former [] t = refl
length-former (s ∷ ss) t = ap suc (length-former ss (tree_before s t))

-- how long the journal is after undos
pub entries_before : {A : Type 0} (p : ContactPlan) (r : RouteRequest) (m : ℕ) (t : Shape A) → m ≤ length t.journal → IsSoundFor p r (length t.journal) t → length (undone_times m t).journal + m ≡ length t.journal
entries_before p r zero t l h = omega arith
entries_before p r (suc m) t l h =
    let n : length t.journal ≡ suc (length t.journal - 1) = omega arith in
    let h' = subst (λ k. IsSoundFor p r k t) n h in
    let one = entries_undone t h'.1 (omega arith) in
    let less : length t.journal - 1 ≡ length (undone t).journal = omega (arith, one) in
    let rest = entries_before p r m (undone t) (omega (arith, one)) (subst (λ k. IsSoundFor p r k (undone t)) less h'.2) in
    omega (arith, one, rest)

pub last_first : (xs : List ℕ) (x : ℕ) → reverse (xs ++ x ∷ []) ≡ x ∷ reverse xs
last_first xs x = reverse-append xs (x ∷ [])

-- the tree before the last page is sound
pub sound_back : {A : Type 0} (p : ContactPlan) (r : RouteRequest) (t : Shape A) (start : ℕ) → start ≤ length t.journal → IsSound p r t → IsSound p r (tree_before start t) × (length (tree_before start t).journal ≡ start)
sound_back p r t start l h =
    let m : ℕ = length t.journal - start in
    let e = entries_before p r m t (omega arith) h in
    let left : length t.journal - m ≡ length (undone_times m t).journal = omega (arith, e) in
    (subst (λ k. IsSoundFor p r k (undone_times m t)) left (sound_before p r m (length t.journal) t (omega arith) h), omega (arith, e))

-- ---- how many searches steps take

pub counts_stop : (p : ContactPlan) (r : RouteRequest) (s : State) (k : ℕ) → one_step p r s ≡ None → searches_in p r k s ≡ 0
unfolding searches_in
counts_stop p r s zero e = refl
counts_stop p r s (suc k) e = ap (λ o. elim o [ None ↦ 0 | Some w ↦ searches_for s w.0 + searches_in p r k w.1 ]) e

pub counts_go : (p : ContactPlan) (r : RouteRequest) (s t : State) (x : List ℕ) (k : ℕ) → one_step p r s ≡ Some (x, t) → searches_in p r (suc k) s ≡ searches_for s x + searches_in p r k t
unfolding searches_in
counts_go p r s t x k e = ap (λ o. elim o [ None ↦ 0 | Some w ↦ searches_for s w.0 + searches_in p r k w.1 ]) e

pub counts_none : (p : ContactPlan) (r : RouteRequest) (s : State) (k : ℕ) → k ≡ 0 → searches_in p r k s ≡ 0
unfolding searches_in
counts_none p r s zero e = refl
counts_none p r s (suc k) e = absurd (omega arith)

pub counts_idle : {A : Type 0} (p : ContactPlan) (r : RouteRequest) (good : IsPlan p) (t : Shape A) → IsSound p r t → (k : ℕ) → (k ≡ 0) ⊎ CarriesNone t.nodes → searches_in p r k (shown t) ≡ 0
counts_idle p r good t sound k (inl e) = counts_none p r (shown t) k e
counts_idle p r good t sound k (inr e) = counts_stop p r (shown t) k (nothing_given p r good t (sound_tree p r (length t.journal) t sound) e)

pub counts_on : {A : Type 0} (p : ContactPlan) (r : RouteRequest) (t u : Shape A) (g : IsGiven p r t u) (k n m all : ℕ) → m ≡ searches_for (shown t) g.route.contacts → n + searches_in p r (suc k) (shown t) ≡ all → (n + m) + searches_in p r k (shown u) ≡ all
counts_on p r t u g k n m all c h =
    let go = counts_go p r (shown t) (shown u) g.route.contacts k g.stepped in
    omega (arith, go, c)

-- one step takes no more searches than several
pub counts_first : (p : ContactPlan) (r : RouteRequest) (s : State) (k : ℕ) → 0 < k → searches_in p r 1 s ≤ searches_in p r k s
unfolding searches_in
counts_first p r s zero l = absurd (omega arith)
counts_first p r s (suc k) l = elim (one_step p r s) as (λ o. elim o [ None ↦ 0 | Some w ↦ searches_for s w.0 + searches_in p r 0 w.1 ] ≤ elim o [ None ↦ 0 | Some w ↦ searches_for s w.0 + searches_in p r k w.1 ]) [
  | None ↦ omega arith
  | Some w ↦ omega arith
]

-- the step that gives what a node carries takes one search for each hop after the node's prefix
pub counts_one : {A : Type 0} (p : ContactPlan) (r : RouteRequest) (good : IsPlan p) (t : Shape A) (is : IsTree p r t) (id : NodeId) (n : Node A) (x : RouteRecord) → slice_get t.nodes id.0 ≡ Some n → n.route ≡ Some x → IsBestOf t.nodes x
    → searches_in p r 1 (shown t) ≡ length x.contacts - n.length
counts_one p r good t is id n x stands carries least =
    let u = divided_with (best_of p r) t id n x in
    let go = counts_go p r (shown t) (shown u) x.contacts 0 (given_by p r good t is id n x stands carries least).stepped in
    omega (arith, go, counts_none p r (shown u) 0 refl, searches_are p r t is id n x stands carries)

-- that many are enough for a known route
pub counts_known : {A : Type 0} {a : Asked} {t : Shape A} {id : NodeId} {copy : RouteRecord} → IsPlan a.plan.plan → IsTree a.plan.plan a.request t → (k : IsKnown a t id copy) → (calls now : ℕ) {s : List ℕ} → s ≡ copy.contacts → now + k.part.length ≤ calls + length s
    → now ≤ calls + searches_in a.plan.plan a.request 1 (shown t)
counts_known {a = a} {t = t} {id = id} good tree k calls now e l =
    omega (arith, l, counts_one a.plan.plan a.request good t tree id k.part k.route k.stands k.carries k.least, k.can.longer, ap (length {A = ℕ}) (e ∙ ap numbers_of k.copied))
