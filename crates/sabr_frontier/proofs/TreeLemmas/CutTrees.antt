-- A tree some of whose nodes don't carry what they might carries the same least route, as long as enough others are carried.
use Rattle.sabr_frontier.proofs.Names.{◌≡◌, ◌⊎◌, inl, inr, ℕ, zero, suc, ◌+◌, ◌≤◌, ◌<◌, Bool, true, false, cond, List, [], ◌∷◌, ◌++◌, length, refl, sym, ap, subst, zero-add, ◌∙◌, arith, Some, None, map, take, drop, Option, slice_get, option_and_then, option_map_or, nat_cmp_is, is_lt, nat_cmp, on, ordering_then, then_cmp, Ordering, Less, Equal, by_numbers, RouteRecord, by_record, by_record_total, record_key, summary_entry, summary_until, Node, NodeId, modify, CarriesNone, IsFirst, AreCutBy, AreFound, IsCutOf, carries_before, count_before, IsCutTree, ContactPlan, IsPlan, RouteRequest, is_route, is_path, is_prefix, Bound, is_up_to, has, Member, PartState, pair_of, leaves, IsState, leaves_in, InOrder, IsClosed, best_of, best_up_to, up_to, Shape, given_at, part_at, part_of, prefix_of, shown, stands_before, IsLent, IsTree, divided_into, divided_with, fresh_after, fresh_nodes, passing, wide_of, widened, with_block}
use Rattle.sabr_frontier.specs.tree.Winners.{route_at, route_of}
use Rattle.sabr_frontier.proofs.ListingLemmas.ListMembers.{less_from_test, not_below, turned, Member-map, Member-map_cases}
use Rattle.sabr_frontier.specs.tree.Shape.{ids_from}
use Rattle.sabr_frontier.proofs.TreeLemmas.ModifiedPlaces.{Member_get, get_Member}
use Rattle.sabr_frontier.proofs.TreeLemmas.SlotWinners.{standing_at}
use Rattle.sabr_frontier.proofs.TreeLemmas.SoundSteps.{tree_divided}

-- ---- how many carry a route before another

pub at_most_one : (b : Bool) (c : ℕ) → cond b (suc c) c ≤ suc c
at_most_one true c = omega arith
at_most_one false c = omega arith

no_fewer : (b : Bool) (c : ℕ) → c ≤ cond b (suc c) c
no_fewer true c = omega arith
no_fewer false c = omega arith

module _ {A : Type 0} (x : RouteRecord) where
  pub count-append : (ns ms : List (Node A)) → count_before x (ns ++ ms) ≡ count_before x ns + count_before x ms
  count-append [] ms = sym (zero-add (count_before x ms))
  count-append (n ∷ ns) ms =
      let rest = count-append ns ms in
      elim (carries_before x n) as (λ b. cond b (suc (count_before x (ns ++ ms))) (count_before x (ns ++ ms)) ≡ cond b (suc (count_before x ns)) (count_before x ns) + count_before x ms) [
        | true ↦ omega (arith, rest)
        | false ↦ rest
      ]

  -- a node that changes is one fewer at the most
  pub count-modify : (f : Node A → Node A) (ns : List (Node A)) (i : ℕ) → count_before x ns ≤ suc (count_before x (modify f ns i))
  count-modify f [] i = omega arith
  count-modify f (n ∷ ns) zero =
      let most = at_most_one (carries_before x n) (count_before x ns) in
      let least = no_fewer (carries_before x (f n)) (count_before x ns) in
      omega (arith, most, least)
  count-modify f (n ∷ ns) (suc i) =
      let rest = count-modify f ns i in
      elim (carries_before x n) as (λ b. cond b (suc (count_before x ns)) (count_before x ns) ≤ suc (cond b (suc (count_before x (modify f ns i))) (count_before x (modify f ns i)))) [
        | true ↦ omega (arith, rest)
        | false ↦ rest
      ]

  -- the node carries no route before x
  none_before : (n : Node A) (ns : List (Node A)) → carries_before x n ≡ false → count_before x (n ∷ ns) ≡ count_before x ns
  none_before n ns e = ap (λ b. cond b (suc (count_before x ns)) (count_before x ns)) e

  -- if some carry one, there is one
  pub some_before : (ns : List (Node A)) → 0 < count_before x ns → (i : ℕ) × (n : Node A) × (y : RouteRecord) × (slice_get ns i ≡ Some n) × (n.route ≡ Some y) × (is_lt (by_record y x) ≡ true)
  some_before [] l = absurd (omega arith)
  some_before (n ∷ ns) l =
      let later : carries_before x n ≡ false → (i : ℕ) × (m : Node A) × (y : RouteRecord) × (slice_get (n ∷ ns) i ≡ Some m) × (m.route ≡ Some y) × (is_lt (by_record y x) ≡ true) =
      λ e. (let same = none_before n ns e in let w = some_before ns (omega (arith, same, l)) in (suc w.0, w.1, w.2, w.3, w.4, w.5)) in
      elim n.route as (λ o. n.route ≡ o → (i : ℕ) × (m : Node A) × (y : RouteRecord) × (slice_get (n ∷ ns) i ≡ Some m) × (m.route ≡ Some y) × (is_lt (by_record y x) ≡ true)) [
        | None ↦ λ e. later (ap (λ o. option_map_or (λ y. is_lt (by_record y x)) o false) e)
        | Some y ↦ λ e. elim (is_lt (by_record y x)) as (λ b. is_lt (by_record y x) ≡ b → (i : ℕ) × (m : Node A) × (z : RouteRecord) × (slice_get (n ∷ ns) i ≡ Some m) × (m.route ≡ Some z) × (is_lt (by_record z x) ≡ true)) [
          | true ↦ λ less. (0, n, y, refl, e, less)
          | false ↦ λ not. later (ap (λ o. option_map_or (λ z. is_lt (by_record z x)) o false) e ∙ not)
        ] refl
      ] refl

-- ---- lists of nodes, some of which don't carry what they might

module _ {A : Type 0} where
  -- fewer have to be carried, of other nodes
  pub cut_weaken : (k j : ℕ) (all then us ts : List (Node A)) → ((x : RouteRecord) → k ≤ count_before x all → j ≤ count_before x then) → AreCutBy k all us ts → AreCutBy j then us ts
  cut_weaken k j all then [] [] f h = tt
  cut_weaken k j all then [] (t ∷ ts) f h = absurd h
  cut_weaken k j all then (u ∷ us) [] f h = absurd h
  cut_weaken k j all then (u ∷ us) (t ∷ ts) f h = (elim h.0 [ inl e ↦ inl e | inr w ↦ inr (w.0, w.1, w.2, f w.0 w.3) ], cut_weaken k j all then us ts f h.1)

  pub cut_append : (k : ℕ) (all us ts vs ws : List (Node A)) → AreCutBy k all us ts → AreCutBy k all vs ws → AreCutBy k all (us ++ vs) (ts ++ ws)
  cut_append k all [] [] vs ws h g = g
  cut_append k all [] (t ∷ ts) vs ws h g = absurd h
  cut_append k all (u ∷ us) [] vs ws h g = absurd h
  cut_append k all (u ∷ us) (t ∷ ts) vs ws h g = (h.0, cut_append k all us ts vs ws h.1 g)

  -- both nodes at one place change
  pub cut_modify : (k : ℕ) (all us ts : List (Node A)) (f g : Node A → Node A) (i : ℕ) → AreCutBy k all us ts
      → ((u t : Node A) → slice_get us i ≡ Some u → slice_get ts i ≡ Some t → IsCutOf k all (f u) (g t)) → AreCutBy k all (modify f us i) (modify g ts i)
  cut_modify k all [] [] f g i h here = tt
  cut_modify k all [] (t ∷ ts) f g i h here = absurd h
  cut_modify k all (u ∷ us) [] f g i h here = absurd h
  cut_modify k all (u ∷ us) (t ∷ ts) f g zero h here = (here u t refl refl, h.1)
  cut_modify k all (u ∷ us) (t ∷ ts) f g (suc i) h here = (h.0, cut_modify k all us ts f g i h.1 here)

  -- they have the same places
  pub cut_get : (k : ℕ) (all us ts : List (Node A)) (i : ℕ) (t : Node A) → AreCutBy k all us ts → slice_get ts i ≡ Some t → (u : Node A) × (slice_get us i ≡ Some u) × IsCutOf k all u t
  cut_get k all [] [] i t h e = absurd cc
  cut_get k all [] (v ∷ ts) i t h e = absurd h
  cut_get k all (u ∷ us) [] i t h e = absurd h
  cut_get k all (u ∷ us) (v ∷ ts) zero t h e = let same : v ≡ t = cc in (u, refl, subst (IsCutOf k all u) same h.0)
  cut_get k all (u ∷ us) (v ∷ ts) (suc i) t h e = cut_get k all us ts i t h.1 e

  pub cut_back : (k : ℕ) (all us ts : List (Node A)) (i : ℕ) (u : Node A) → AreCutBy k all us ts → slice_get us i ≡ Some u → (t : Node A) × (slice_get ts i ≡ Some t) × IsCutOf k all u t
  cut_back k all [] [] i u h e = absurd cc
  cut_back k all [] (v ∷ ts) i u h e = absurd h
  cut_back k all (w ∷ us) [] i u h e = absurd h
  cut_back k all (w ∷ us) (t ∷ ts) zero u h e = let same : w ≡ u = cc in (t, refl, subst (λ z. IsCutOf k all z t) same h.0)
  cut_back k all (w ∷ us) (t ∷ ts) (suc i) u h e = cut_back k all us ts i u h.1 e

  -- what is carried is what might be
  pub cut_carries : (k : ℕ) (all : List (Node A)) (u t : Node A) (x : RouteRecord) → IsCutOf k all u t → t.route ≡ Some x → t ≡ u
  cut_carries k all u t x (inl same) e = same
  cut_carries k all u t x (inr w) e = (let none : t.route ≡ None = ap (λ (n : Node A). n.route) w.2 in absurd cc)

-- the node that carries a route is the same in both
pub stands_in : {A : Type 0} (k : ℕ) (all us ts : List (Node A)) → AreCutBy k all us ts → (node : NodeId) (n : Node A) (x : RouteRecord) → slice_get ts node.0 ≡ Some n → n.route ≡ Some x → slice_get us node.0 ≡ Some n
stands_in k all us ts h node n x stands carries = let w = cut_get k all us ts node.0 n h stands in w.1 ∙ ap Some (sym (cut_carries k all w.0 n x w.2 carries))

-- ---- the best of the carried routes

module _ {A : Type 0} (k : ℕ) (us ts : List (Node A)) (h : AreCutBy (suc k) ts us ts) where
  -- what a node might carry is carried, or comes after what one carries
  pub carried_or_after : (id : NodeId) (y : RouteRecord) → route_at us id ≡ Some y → (route_at ts id ≡ Some y) ⊎ ((j : NodeId) × (z : RouteRecord) × (route_at ts j ≡ Some z) × (is_lt (by_record z y) ≡ true))
  carried_or_after id y e =
      let at = standing_at us id y e in
      let w = cut_back (suc k) ts us ts id.0 at.0 h at.1 in
      elim w.2 [
        | inl same ↦ inl (ap (option_and_then route_of) w.1 ∙ ap (λ (n : Node A). n.route) same ∙ at.2)
        | inr v ↦
            let is : v.0 ≡ y = (let there = v.1 in let c = at.2 in cc) in
            let many = v.3 in
            let before = some_before v.0 ts (omega (arith, many)) in
            let j : NodeId = record { 0 = before.0 } in
            inr (j, before.2, ap (option_and_then route_of) before.3 ∙ before.4, ap (λ x. is_lt (by_record before.2 x)) (sym is) ∙ before.5)
      ]

  -- what is carried might be
  pub carried_there : (id : NodeId) (x : RouteRecord) → route_at ts id ≡ Some x → route_at us id ≡ Some x
  carried_there id x e = let at = standing_at ts id x e in ap (option_and_then route_of) (stands_in (suc k) ts us ts h id at.0 x at.1 at.2) ∙ at.2

  pub least_same : (id : NodeId) (x : RouteRecord) → IsFirst ts id x → IsFirst us id x
  least_same id x first = record {
    carries = carried_there id x first.carries;
    least = λ j y e. elim (carried_or_after j y e) [
      | inl there ↦ first.least j y there
      | inr w ↦ not_below by_record_total y w.1 x (ap is_lt (turned by_record_total w.1 y Less (less_from_test (by_record w.1 y) w.3))) (first.least w.0 w.1 w.2)
    ];
  }

  pub none_same : CarriesNone ts → CarriesNone us
  none_same none id = elim (route_at us id) as (λ o. route_at us id ≡ o → o ≡ None) [
    | None ↦ λ _. refl
    | Some y ↦ λ e. elim (carried_or_after id y e) [
      | inl there ↦ sym there ∙ none id
      | inr w ↦ absurd (let c = none w.0 in let d = w.2 in cc)
    ]
  ] refl

-- ---- what is above a bound comes after what is up to it

ordering_less : (o p : Ordering) → o ≡ Less → ordering_then o p ≡ Less
ordering_less o p e = ap (λ z. ordering_then z p) e

less_number : (x y : ℕ) → x < y → nat_cmp x y ≡ Less
less_number x y l = sym (nat_cmp_is x y Less l)

-- lists of numbers by their first two
first_less : (d e : ℕ) (xs ys : List ℕ) → d < e → by_numbers (d ∷ xs) (e ∷ ys) ≡ Less
first_less d e xs ys l = ordering_less (nat_cmp d e) (by_numbers xs ys) (less_number d e l)

pub second_less : (d h l : ℕ) (xs ys : List ℕ) → h < l → by_numbers (d ∷ h ∷ xs) (d ∷ l ∷ ys) ≡ Less
second_less d h l xs ys less =
    let tie : nat_cmp d d ≡ Equal = sym (nat_cmp_is d d Equal refl) in
    ap (λ z. ordering_then z (by_numbers (h ∷ xs) (l ∷ ys))) tie ∙ first_less h l xs ys less

-- y delivers by d, then with at most h hops, and x doesn't
pub bound_parts : (d h : ℕ) (x y : RouteRecord) → (y.delivery < d) ⊎ ((y.delivery ≡ d) × (length y.contacts ≤ h)) → (d < x.delivery) ⊎ ((x.delivery ≡ d) × (h < length x.contacts)) → is_lt (by_record y x) ≡ true
bound_parts d h x y (inl l) (inl g) = ap is_lt (ordering_less (by_numbers (record_key y) (record_key x)) (then_cmp (on summary_until nat_cmp) (on summary_entry nat_cmp) y x) (first_less y.delivery x.delivery (length y.contacts ∷ y.contacts) (length x.contacts ∷ x.contacts) (omega (arith, l, g))))
bound_parts d h x y (inl l) (inr g) = (let same = g.0 in ap is_lt (ordering_less (by_numbers (record_key y) (record_key x)) (then_cmp (on summary_until nat_cmp) (on summary_entry nat_cmp) y x) (first_less y.delivery x.delivery (length y.contacts ∷ y.contacts) (length x.contacts ∷ x.contacts) (omega (arith, l, same)))))
bound_parts d h x y (inr l) (inl g) = (let same = l.0 in ap is_lt (ordering_less (by_numbers (record_key y) (record_key x)) (then_cmp (on summary_until nat_cmp) (on summary_entry nat_cmp) y x) (first_less y.delivery x.delivery (length y.contacts ∷ y.contacts) (length x.contacts ∷ x.contacts) (omega (arith, same, g)))))
bound_parts d h x y (inr l) (inr g) =
    let same : y.delivery ≡ x.delivery = l.0 ∙ sym g.0 in
    let few = l.1 in
    let many = g.1 in
    ap is_lt (ordering_less (by_numbers (record_key y) (record_key x)) (then_cmp (on summary_until nat_cmp) (on summary_entry nat_cmp) y x) (ap (λ z. by_numbers (z ∷ length y.contacts ∷ y.contacts) (record_key x)) same ∙ second_less x.delivery (length y.contacts) (length x.contacts) y.contacts x.contacts (omega (arith, few, many))))

-- ---- a tree some of whose nodes don't carry what they might is sound, and one that is divided is another such tree

module _ {A : Type 0} (k : ℕ) (all : List (Node A)) where
  -- ---- what stays of nodes that don't carry what they might

  pub cut_self : (us : List (Node A)) → AreCutBy k all us us
  cut_self [] = tt
  cut_self (u ∷ us) = (inl refl, cut_self us)

  -- a node is the same but for its route
  but_route : (u t : Node A) → IsCutOf k all u t → t ≡ record u { route = t.route }
  but_route u t (inl same) = subst (λ (z : Node A). t ≡ record z { route = t.route }) same refl
  but_route u t (inr w) = w.2 ∙ (λ i. record u { route = sym (ap (λ (n : Node A). n.route) w.2) i })

  cut_length : (us ts : List (Node A)) → AreCutBy k all us ts → length ts ≡ length us
  cut_length [] [] h = refl
  cut_length [] (t ∷ ts) h = absurd h
  cut_length (u ∷ us) [] h = absurd h
  cut_length (u ∷ us) (t ∷ ts) h = ap suc (cut_length us ts h.1)

  cut_member : (us ts : List (Node A)) → AreCutBy k all us ts → (t : Node A) → Member t ts → (u : Node A) × Member u us × IsCutOf k all u t
  cut_member us ts h t m = let g = Member_get t ts m in let w = cut_get k all us ts g.0 t h g.1 in (w.0, get_Member us g.0 w.0 w.1, w.2)

  module _ (lent : List RouteRecord) where
    cut_pair : (us ts : List (Node A)) → AreCutBy k all us ts → (i : ℕ) → pair_of (part_of lent (slice_get ts i)) ≡ pair_of (part_of lent (slice_get us i))
    cut_pair [] [] h i = refl
    cut_pair [] (t ∷ ts) h i = absurd h
    cut_pair (u ∷ us) [] h i = absurd h
    cut_pair (u ∷ us) (t ∷ ts) h zero = ap (λ (n : Node A). (prefix_of lent n, n.excluded)) (but_route u t h.0)
    cut_pair (u ∷ us) (t ∷ ts) h (suc i) = cut_pair us ts h.1 i

    -- a part is the same, or carries none
    cut_part : (us ts : List (Node A)) → AreCutBy k all us ts → (i : ℕ) → (part_of lent (slice_get ts i) ≡ part_of lent (slice_get us i)) ⊎ ((part_of lent (slice_get ts i)).carried ≡ None)
    cut_part [] [] h i = inl refl
    cut_part [] (t ∷ ts) h i = absurd h
    cut_part (u ∷ us) [] h i = absurd h
    cut_part (u ∷ us) (t ∷ ts) h zero = elim h.0 [
      | inl same ↦ inl (ap (λ n. part_of lent (Some n)) same)
      | inr w ↦ inr (ap (λ n. (part_of lent (Some n)).carried) w.2)
    ]
    cut_part (u ∷ us) (t ∷ ts) h (suc i) = cut_part us ts h.1 i

    cut_pairs : (us ts : List (Node A)) → AreCutBy k all us ts → (ids : List NodeId) → map pair_of (map (part_at lent ts) ids) ≡ map pair_of (map (part_at lent us) ids)
    cut_pairs us ts h [] = refl
    cut_pairs us ts h (id ∷ ids) = λ i. cut_pair us ts h id.0 i ∷ cut_pairs us ts h ids i

-- ---- such a tree is sound

module _ {A : Type 0} (p : ContactPlan) (r : RouteRequest) (k : ℕ) (all : List (Node A)) (u : Shape A) (is : IsTree p r u) (ts : List (Node A)) (h : AreCutBy k all u.nodes ts) where
  abbrev t : Shape A
  t = record u { nodes = ts }

  pairs : map pair_of (shown t).parts ≡ map pair_of (shown u).parts
  pairs = cut_pairs k all u.leaves u.nodes ts h u.index

  leaves_same : leaves_in p r (shown t) ≡ leaves_in p r (shown u)
  leaves_same = ap (leaves (is_route p r)) pairs

  abbrev last : List ℕ
  last = given_at u.leaves u.last

  formed_cut : IsState p r (shown t)
  formed_cut = record {
    order = subst InOrder (sym pairs) is.formed.order;
    closed = subst (IsClosed (is_route p r) (is_path p r) (is_prefix p r)) (sym pairs) is.formed.closed;
    count = is.formed.count ∙ sym (ap (length {A = List ℕ}) leaves_same);
    right = subst (λ T. ((last ≡ []) × (leaves (is_route p r) T ≡ [])) ⊎ (has by_numbers last (leaves (is_route p r) T) ≡ true)) (sym pairs) is.formed.right;
    carried = λ v s m e.
        let w = Member-map_cases (part_at u.leaves ts) v u.index m in
        let id = w.0 in
        elim (cut_part k all u.leaves u.nodes ts h id.0) [
          | inl same ↦
              let here : v ≡ part_at u.leaves u.nodes id = w.1 ∙ same in
              is.formed.carried v s (subst (λ z. Member z (shown u).parts) (sym here) (Member-map (part_at u.leaves u.nodes) id u.index w.2)) e
          | inr none ↦ absurd (let here = ap (λ (z : PartState). z.carried) w.1 in cc)
        ];
  }

  long : length ts ≡ length u.nodes
  long = cut_length k all u.nodes ts h

  pub tree_cut : IsTree p r t
  tree_cut = record {
    formed = formed_cut;
    known = λ id m. (let l = is.known id m in omega (arith, long));
    listed = λ id l. is.listed id (omega (arith, long));
    lent = λ n m. (let w = cut_member k all u.nodes ts h n m in subst (IsLent u.leaves) (sym (but_route k all w.0 n w.2)) (is.lent w.0 w.1));
    records = λ n x m e. (let w = cut_member k all u.nodes ts h n m in let same = cut_carries k all w.0 n x w.2 e in is.records w.0 x w.1 (ap (λ (z : Node A). z.route) (sym same) ∙ e));
    given = record {
      counted = λ x m. (let w = is.given.counted x m in (w.0, subst (Member x.contacts) (sym leaves_same) w.1));
      recorded = λ s m. is.given.recorded s (subst (Member s) leaves_same m);
    };
    least = λ yes n x m e.
        let w = cut_member k all u.nodes ts h n m in
        let same = cut_carries k all w.0 n x w.2 e in
        subst (λ (z : Node A). best_of p r (prefix_of u.leaves z) z.excluded ≡ Some x) (sym same) (is.least yes w.0 x w.1 (ap (λ (z : Node A). z.route) (sym same) ∙ e));
  }

pub cut_sound : {A : Type 0} (p : ContactPlan) (r : RouteRequest) (k : ℕ) (u t : Shape A) → IsCutTree p r k u t → IsTree p r t
cut_sound p r k u t h = subst (IsTree p r) (sym h.same) (tree_cut p r k t.nodes u h.sound t.nodes h.nodes)

-- ---- such a tree divided

-- an answer is the other one, or none in place of one before which at least k of these nodes carry a route
abbrev pub IsCutAnswer : {A : Type 0} → ℕ → List (Node A) → Option RouteRecord → Option RouteRecord → Type 0
IsCutAnswer k all found cut = (cut ≡ found) ⊎ ((x : RouteRecord) × (found ≡ Some x) × (cut ≡ None) × (k ≤ count_before x all))

-- what is above the bound, if there is one, comes after at least k that these nodes carry
abbrev pub IsBoundFor : {A : Type 0} → Option Bound → ℕ → List (Node A) → Type 0
IsBoundFor o k nodes = (b : Bound) (x : RouteRecord) → o ≡ Some b → is_up_to b x.delivery (length x.contacts) ≡ false → k ≤ count_before x nodes

-- so is the least route of a part up to a bound
pub answer_cut : {A : Type 0} (k : ℕ) (all : List (Node A)) (p : ContactPlan) (r : RouteRequest) (o : Option Bound) (q X : List ℕ) → IsBoundFor o k all → IsCutAnswer k all (best_of p r q X) (best_up_to p r o q X)
answer_cut k all p r None q X above = inl refl
answer_cut k all p r (Some b) q X above = elim (best_of p r q X) as (λ f. IsCutAnswer k all f (up_to b f)) [
  | None ↦ inl refl
  | Some x ↦ elim (is_up_to b x.delivery (length x.contacts)) as (λ c. is_up_to b x.delivery (length x.contacts) ≡ c → IsCutAnswer k all (Some x) (cond c (Some x) None)) [
    | true ↦ λ _. inl refl
    | false ↦ λ e. inr (x, refl, refl, above b x refl e)
  ] refl
]

module _ {A : Type 0} (k : ℕ) (all : List (Node A)) (best cut : List ℕ → List ℕ → Option RouteRecord) (answers : (q X : List ℕ) → IsCutAnswer k all (best q X) (cut q X)) where
  fresh_cut : (leaf : ℕ) (q rest : List ℕ) → AreCutBy k all (fresh_nodes best leaf q rest) (fresh_nodes cut leaf q rest)
  fresh_cut leaf q [] = tt
  fresh_cut leaf q (y ∷ rest) = (
    elim (answers q (y ∷ [])) [
      | inl same ↦ inl (λ i. record { leaf = leaf; length = length q; excluded = y ∷ []; route = same i })
      | inr w ↦ inr (w.0, w.1, (λ i. record { leaf = leaf; length = length q; excluded = y ∷ []; route = w.2 i }), w.3)
    ],
    fresh_cut leaf (q ++ y ∷ []) rest,
  )

module _ {A : Type 0} (k : ℕ) (all : List (Node A)) where
  widened_cut : (found cut : Option RouteRecord) (wide : List ℕ) (n : Node A) → IsCutAnswer k all found cut → IsCutOf k all (widened wide found n) (widened wide cut n)
  widened_cut found cut wide n (inl same) = inl (λ i. widened wide (same i) n)
  widened_cut found cut wide n (inr w) = inr (w.0, w.1, (λ i. widened wide (w.2 i) n), w.3)

  -- what is cut of what is cut
  cut_twice : (us vs ts : List (Node A)) → AreCutBy k all us vs → AreCutBy k all vs ts → AreCutBy k all us ts
  cut_twice [] [] ts h g = g
  cut_twice [] (v ∷ vs) ts h g = absurd h
  cut_twice (u ∷ us) [] ts h g = absurd h
  cut_twice (u ∷ us) (v ∷ vs) [] h g = absurd g
  cut_twice (u ∷ us) (v ∷ vs) (t ∷ ts) h g = (
    elim h.0 [
      | inl same ↦ subst (λ z. IsCutOf k all z t) same g.0
      | inr w ↦ inr (w.0, w.1, elim g.0 [ inl same ↦ same ∙ w.2 | inr z ↦ absurd (let none : v.route ≡ None = ap (λ (n : Node A). n.route) w.2 in let some = z.1 in cc) ], w.3)
    ],
    cut_twice us vs ts h.1 g.1,
  )

  -- what was found where not all is needed, among nodes that carry as much
  cut_found : (needed : Option ℕ) (us ts : List (Node A)) (many searches : ℕ) → AreFound needed many us ts searches → ((m : ℕ) (x : RouteRecord) → needed ≡ Some m → m ≤ count_before x ts → k ≤ count_before x all) → AreCutBy k all us ts
  cut_found None us ts many searches h f = subst (AreCutBy k all us) (sym h.0) (cut_self k all us)
  cut_found (Some m) us ts many searches (inl h) f = subst (AreCutBy k all us) (sym h.0) (cut_self k all us)
  cut_found (Some m) us ts many searches (inr h) f = cut_weaken m k ts all us ts (λ x. f m x refl) h.0.cut

pub found_length : {A : Type 0} (needed : Option ℕ) (many : ℕ) (us ts : List (Node A)) (searches : ℕ) → AreFound needed many us ts searches → length ts ≡ length us
found_length needed many us ts searches h = cut_length 0 ts us ts (cut_found 0 ts needed us ts many searches h (λ _ _ _ _. omega arith))

module _ {A : Type 0} (t : Shape A) (node : NodeId) (n : Node A) (x y : RouteRecord) (found : Option RouteRecord) (new : List (Node A)) where
  abbrev f : Node A → Node A
  f = widened (wide_of n x.contacts) found

  -- a route that many nodes come before has one fewer before it at the most
  pub still_before : (k : ℕ) → suc k ≤ count_before y t.nodes → k ≤ count_before y (divided_into t node n x found new).nodes
  still_before k l = omega (arith, l, count-modify y f t.nodes node.0, count-append y (modify f t.nodes node.0) new)

  -- one that many new nodes come before
  new_before : (k : ℕ) → k ≤ count_before y new → k ≤ count_before y (divided_into t node n x found new).nodes
  new_before k l = omega (arith, l, count-append y (modify f t.nodes node.0) new)

module _ {A : Type 0} (p : ContactPlan) (r : RouteRequest) (good : IsPlan p) (k : ℕ) (u : Shape A) (is : IsTree p r u) (ts : List (Node A)) (h : AreCutBy (suc k) ts u.nodes ts)
    (node : NodeId) (n : Node A) (x : RouteRecord) (stands : slice_get ts node.0 ≡ Some n) (carries : n.route ≡ Some x) (found : Option RouteRecord) (new : List (Node A)) where
  abbrev bare : Shape A
  bare = record u { nodes = ts }

  abbrev D : Shape A
  D = divided_with (best_of p r) u node n x

  abbrev C : Shape A
  C = divided_into bare node n x found new

  abbrev s : List ℕ
  s = x.contacts

  abbrev q : List ℕ
  q = take (n.length + 1) s

  abbrev wide : List ℕ
  wide = wide_of n s

  abbrev whole : List (Node A)
  whole = fresh_after (best_of p r) (length u.leaves) n s

  stands_whole : slice_get u.nodes node.0 ≡ Some n
  stands_whole = stands_in (suc k) ts u.nodes ts h node n x stands carries

  long_then : length ts ≡ length u.nodes
  long_then = cut_length (suc k) ts u.nodes ts h

  place_same : passing (stands_before u.leaves ts q) u.index ≡ passing (stands_before u.leaves u.nodes q) u.index
  place_same = λ i. passing (λ (id : NodeId). is_lt (by_numbers (cut_pair (suc k) ts u.leaves u.nodes ts h id.0 i).0 q)) u.index

  module _ (here : IsCutAnswer k C.nodes (best_of p r (take n.length s) wide) found) (rest : AreCutBy k C.nodes whole new) where
    but_nodes : C ≡ record D { nodes = C.nodes }
    but_nodes = λ i. record {
      nodes = C.nodes;
      index = with_block (place_same i) (ids_from (long_then i) (cut_length k C.nodes whole new rest i)) u.index;
      leaves = u.leaves ++ x ∷ [];
      last = Some (length u.leaves);
      journal = u.journal ++ record { node = node; nodes = long_then i; last = u.last } ∷ [];
      is_searched = u.is_searched;
    }

    here_cut : (v w : Node A) → slice_get u.nodes node.0 ≡ Some v → slice_get ts node.0 ≡ Some w → IsCutOf k C.nodes (widened wide (best_of p r (take n.length s) wide) v) (widened wide found w)
    here_cut v w a b =
        let first : n ≡ v = (let there = stands_whole in cc) in
        let second : n ≡ w = (let there = stands in cc) in
        let both = widened_cut k C.nodes (best_of p r (take n.length s) wide) found wide n here in
        subst (λ z. IsCutOf k C.nodes (widened wide (best_of p r (take n.length s) wide) v) (widened wide found z)) second
        (subst (λ z. IsCutOf k C.nodes (widened wide (best_of p r (take n.length s) wide) z) (widened wide found n)) first both)

    nodes_cut : AreCutBy k C.nodes D.nodes C.nodes
    nodes_cut =
        let f = widened wide (best_of p r (take n.length s) wide) in
        let g = widened wide found in
        cut_append k C.nodes (modify f u.nodes node.0) (modify g ts node.0) whole new
        (cut_modify k C.nodes u.nodes ts f g node.0 (cut_weaken (suc k) k ts C.nodes u.nodes ts (λ y. still_before bare node n x y found new k) h) here_cut)
        rest

    cut_then : IsCutTree p r k D C
    cut_then = record {
      sound = tree_divided p r good u is node n x stands_whole carries;
      nodes = nodes_cut;
      same = but_nodes;
    }

module _ {A : Type 0} (p : ContactPlan) (r : RouteRequest) (good : IsPlan p) (k : ℕ) (u t : Shape A) (h : IsCutTree p r (suc k) u t) (node : NodeId) (n : Node A) (x : RouteRecord) (stands : slice_get t.nodes node.0 ≡ Some n) (carries : n.route ≡ Some x) where
  -- a tree whose routes that aren't carried come after k + 1 others, is then one whose such routes come after k
  divided_cut : (found : Option RouteRecord) (new : List (Node A)) → IsCutAnswer k (divided_into t node n x found new).nodes (best_of p r (take n.length x.contacts) (wide_of n x.contacts)) found
      → AreCutBy k (divided_into t node n x found new).nodes (fresh_after (best_of p r) (length t.leaves) n x.contacts) new → IsCutTree p r k (divided_with (best_of p r) u node n x) (divided_into t node n x found new)
  divided_cut found new =
      subst (λ (z : Shape A). IsCutAnswer k (divided_into z node n x found new).nodes (best_of p r (take n.length x.contacts) (wide_of n x.contacts)) found
      → AreCutBy k (divided_into z node n x found new).nodes (fresh_after (best_of p r) (length z.leaves) n x.contacts) new → IsCutTree p r k (divided_with (best_of p r) u node n x) (divided_into z node n x found new)) (sym h.same)
      (cut_then p r good k u h.sound t.nodes h.nodes node n x stands carries found new)

  -- so it is with answers up to a bound, where only some are needed
  module _ (b : Option Bound) (needed : Option ℕ) (new : List (Node A)) (many searches : ℕ) (are : AreFound needed many (fresh_after (best_up_to p r b) (length t.leaves) n x.contacts) new searches) where
    abbrev V : Shape A
    V = divided_into t node n x (best_up_to p r b (take n.length x.contacts) (wide_of n x.contacts)) new

    pub given_cut : IsBoundFor b k V.nodes → ((m : ℕ) → needed ≡ Some m → k ≤ m) → IsCutTree p r k (divided_with (best_of p r) u node n x) V
    given_cut above enough =
        let s = x.contacts in
        let found = best_up_to p r b (take n.length s) (wide_of n s) in
        let answers = λ (q : List ℕ) (X : List ℕ). answer_cut k V.nodes p r b q X above in
        divided_cut found new (answers (take n.length s) (wide_of n s))
        (cut_twice k V.nodes (fresh_after (best_of p r) (length t.leaves) n s) (fresh_after (best_up_to p r b) (length t.leaves) n s) new
        (fresh_cut k V.nodes (best_of p r) (best_up_to p r b) answers (length t.leaves) (take (n.length + 1) s) (drop (n.length + 1) s))
        (cut_found k V.nodes needed (fresh_after (best_up_to p r b) (length t.leaves) n s) new many searches are (λ m y e l. (let few = enough m e in new_before t node n x y found new k (omega (arith, few, l))))))

-- a sound tree that is divided in this way is sound
pub tree_given : {A : Type 0} (p : ContactPlan) (r : RouteRequest) (good : IsPlan p) (b : Option Bound) (needed : Option ℕ) (t : Shape A) (is : IsTree p r t) (node : NodeId) (n : Node A) (x : RouteRecord)
    → slice_get t.nodes node.0 ≡ Some n → n.route ≡ Some x → (new : List (Node A)) (many searches : ℕ) → AreFound needed many (fresh_after (best_up_to p r b) (length t.leaves) n x.contacts) new searches
    → IsTree p r (divided_into t node n x (best_up_to p r b (take n.length x.contacts) (wide_of n x.contacts)) new)
tree_given p r good b needed t is node n x stands carries new many searches are =
    let C = divided_into t node n x (best_up_to p r b (take n.length x.contacts) (wide_of n x.contacts)) new in
    cut_sound p r 0 (divided_with (best_of p r) t node n x) C
    (given_cut p r good 0 t t (record { sound = is; nodes = cut_self 1 t.nodes t.nodes; same = refl }) node n x stands carries b needed new many searches are (λ _ _ _ _. omega arith) (λ _ _. omega arith))
