-- Nodes of a leaf whose routes are found from the last to the first, until there are enough that tie with the leaf.
use Rattle.sabr_frontier.proofs.Names.{◌≡◌, ℕ, zero, suc, ◌+◌, ◌<◌, ◌≤◌, ◌⊎◌, inl, inr, Bool, true, false, true≢false, cond, not, List, [], ◌∷◌, ◌++◌, length, length-append, take, drop, get_or, refl, sym, ap, subst, ◌∙◌, arith, Some, None, Option, slice_get, option_map, option_map_or, is_lt, nat_cmp, ordering_reverse, ordering_then, Less, Equal, Greater, and_from, nat_tests, by_numbers, ContactPlan, IsPlan, RouteRequest, goes_on, least_in, RouteRecord, by_record, record_of, by_key, delivery_of, is_route, key_of, least_some, record_order, key_tells, key_total, Bound, is_up_to, goes_on_parts, Node, best_up_to, up_to, fresh_nodes, AreCutBy, AreFound, IsBestWhere, IsCutOf, carries_before, carrying, count_before, numbers_of, carried_keys, keys_of, modify}
use Rattle.sabr_model.specs.plan.Plan.{has}
use Rattle.sabr_frontier.specs.tree.Best.{best_of}
use Rattle.sabr_frontier.proofs.TreeLemmas.CarryingNodes.{best_numbers, told_back}
use Rattle.sabr_frontier.proofs.TreeLemmas.CutTrees.{cut_self}
use Rattle.sabr_frontier.proofs.TreeLemmas.Floors.{of_longer, one_goes_on}
use Rattle.sabr_frontier.proofs.TreeLemmas.ListFronts.{fresh_next, number_after-take}
use Rattle.sabr_frontier.proofs.TreeLemmas.ModifiedPlaces.{modify_behind}

-- ---- nodes without some of their routes

-- the first i carry none
abbrev pub unsearched : {A : Type 0} → ℕ → List (Node A) → List (Node A)
unsearched zero us = us
unsearched (suc i) [] = []
unsearched (suc i) (u ∷ us) = record u { route = None } ∷ unsearched i us

-- 1 for what passes
abbrev one_if : Bool → ℕ
one_if t = cond t 1 0

module _ {A : Type 0} where
  pub none_found : (best : List ℕ → List ℕ → Option RouteRecord) (leaf : ℕ) (q rest : List ℕ) → fresh_nodes {A = A} (λ _ _. None) leaf q rest ≡ unsearched (length rest) (fresh_nodes best leaf q rest)
  none_found best leaf q [] = refl
  none_found best leaf q (y ∷ rest) = ap (λ z. record { leaf = leaf; length = length q; excluded = y ∷ []; route = None } ∷ z) (none_found best leaf (q ++ y ∷ []) rest)

  -- which node stands at a place
  pub fresh_at : (best : List ℕ → List ℕ → Option RouteRecord) (leaf : ℕ) (s : List ℕ) (n i : ℕ) → n + i < length s
      → slice_get (fresh_nodes {A = A} best leaf (take n s) (drop n s)) i ≡ Some (record { leaf = leaf; length = n + i; excluded = get_or s (n + i) 0 ∷ []; route = best (take (n + i) s) (get_or s (n + i) 0 ∷ []) })
  fresh_at best leaf s n zero l =
      let same : n + 0 ≡ n = omega arith in
      ap (λ z. slice_get z 0) (fresh_next best leaf s n (omega (arith, l))) ∙ (λ i. Some (record { leaf = leaf; length = sym same i; excluded = get_or s (sym same i) 0 ∷ []; route = best (take (sym same i) s) (get_or s (sym same i) 0 ∷ []) }))
  fresh_at best leaf s n (suc i) l =
      let same : suc n + i ≡ n + suc i = omega arith in
      ap (λ z. slice_get z (suc i)) (fresh_next best leaf s n (omega (arith, l))) ∙ fresh_at best leaf s (suc n) i (omega (arith, l))
      ∙ (λ j. Some (record { leaf = leaf; length = same j; excluded = get_or s (same j) 0 ∷ []; route = best (take (same j) s) (get_or s (same j) 0 ∷ []) }))

  -- one more is found
  module _ (u : Node A) where
    found_one : (us : List (Node A)) (i : ℕ) → slice_get us i ≡ Some u → modify (carrying u.route) (unsearched (suc i) us) i ≡ unsearched i us
    found_one [] i e = absurd cc
    found_one (v ∷ us) zero e = let same : v ≡ u = cc in ap (λ (z : Node A). record v { route = z.route } ∷ us) (sym same)
    found_one (v ∷ us) (suc i) e = ap (λ z. record v { route = None } ∷ z) (found_one us i e)

    count_one : (x : RouteRecord) (us : List (Node A)) (i : ℕ) → slice_get us i ≡ Some u → count_before x (unsearched i us) ≡ one_if (carries_before x u) + count_before x (unsearched (suc i) us)
    count_one x [] i e = absurd cc
    count_one x (v ∷ us) zero e =
        let same : v ≡ u = cc in
        elim (carries_before x v) as (λ b. cond b (suc (count_before x us)) (count_before x us) ≡ one_if b + count_before x us) [ true ↦ omega arith | false ↦ omega arith ]
        ∙ ap (λ (z : Node A). one_if (carries_before x z) + count_before x us) same
    count_one x (v ∷ us) (suc i) e = count_one x us i e

    carried_one : (us : List (Node A)) (i : ℕ) → slice_get us i ≡ Some u → length (carried_keys (unsearched i us)) ≡ length (keys_of u.route) + length (carried_keys (unsearched (suc i) us))
    carried_one [] i e = absurd cc
    carried_one (v ∷ us) zero e = let same : v ≡ u = cc in length-append (keys_of v.route) (carried_keys us) ∙ ap (λ (z : Node A). length (keys_of z.route) + length (carried_keys us)) same
    carried_one (v ∷ us) (suc i) e = carried_one us i e

  -- what isn't found comes after enough
  cut_unsearched : (k : ℕ) (all : List (Node A)) (i : ℕ) (us : List (Node A)) → ((j : ℕ) (u : Node A) (x : RouteRecord) → j < i → slice_get us j ≡ Some u → u.route ≡ Some x → k ≤ count_before x all) → AreCutBy k all us (unsearched i us)
  cut_unsearched k all zero us h = cut_self k all us
  cut_unsearched k all (suc i) [] h = tt
  cut_unsearched k all (suc i) (u ∷ us) h = (
    elim u.route as (λ o. u.route ≡ o → IsCutOf k all u (record u { route = None })) [
      | None ↦ λ e. inl (ap (λ (o : Option RouteRecord). record u { route = o }) (sym e))
      | Some x ↦ λ e. inr (x, e, refl, h 0 u x (omega arith) refl e)
    ] refl,
    cut_unsearched k all i us (λ j v x l. h (suc j) v x (omega (arith, l))),
  )

-- ---- what ties with the least route of a part comes before what goes on otherwise, earlier

-- a list with more of the numbers of s compares as s does
first_differ : (m c : ℕ) (s vs ws : List ℕ) (a : ℕ) → m < c → c ≤ length s → (nat_cmp (get_or s m 0) a ≡ Equal → ⊥) → by_numbers (take c s ++ vs) (take m s ++ a ∷ ws) ≡ by_numbers s (take m s ++ a ∷ ws)
first_differ m zero s vs ws a l w ne = absurd (omega arith)
first_differ m (suc c) [] vs ws a l w ne = absurd (omega arith)
first_differ zero (suc c) (z ∷ s) vs ws a l w ne = elim (nat_cmp z a) as (λ o. nat_cmp z a ≡ o → ordering_then o (by_numbers (take c s ++ vs) ws) ≡ ordering_then o (by_numbers s ws)) [
  | Less ↦ λ _. refl
  | Equal ↦ λ e. absurd (ne e)
  | Greater ↦ λ _. refl
] refl
first_differ (suc m) (suc c) (z ∷ s) vs ws a l w ne = ap (ordering_then (nat_cmp z z)) (first_differ m c s vs ws a (omega (arith, l)) (omega (arith, w)) ne)

itself : (n : ℕ) → not (has n (n ∷ [])) ≡ false
itself n = grind (arith, nat_tests)

-- what is found up to a bound is the part's least route
pub unbounded : (p : ContactPlan) (r : RouteRequest) (o : Option Bound) (q X : List ℕ) (x : RouteRecord) → best_up_to p r o q X ≡ Some x → best_of p r q X ≡ Some x
unbounded p r None q X x e = e
unbounded p r (Some b) q X x e = elim (best_of p r q X) as (λ f. up_to b f ≡ Some x → f ≡ Some x) [
  | None ↦ λ g. g
  | Some y ↦ elim (is_up_to b y.delivery (length y.contacts)) as (λ t. cond t (Some y) None ≡ Some x → Some y ≡ Some x) [ true ↦ λ g. g | false ↦ λ g. absurd cc ]
] e

module _ (p : ContactPlan) (r : RouteRequest) (good : IsPlan p) where
  -- the least of a part: a route that goes on
  least_parts : (q X : List ℕ) (x : RouteRecord) → best_of p r q X ≡ Some x → (x ≡ record_of p r x.contacts) × (is_route p r x.contacts ≡ true) × (goes_on q X x.contacts ≡ true)
  unfolding best_of
  least_parts q X x e =
      let w = least_some p r good q X x.contacts (sym (best_numbers p r q X) ∙ ap (option_map numbers_of) e) in
      (told_back p r (least_in p r q X) x e, w.0, w.1)

  module _ (s : List ℕ) (first d k : ℕ) (best : IsBestWhere (Some k) p r (take first s) [] s d) where
    pub tie_before : (m c : ℕ) (x y : RouteRecord) → first ≤ m → m < c → c < length s → best_of p r (take m s) (get_or s m 0 ∷ []) ≡ Some x → best_of p r (take c s) (get_or s c 0 ∷ []) ≡ Some y
        → y.delivery ≡ d → length y.contacts ≡ length s → is_lt (by_record y x) ≡ true
    tie_before m c x y from less to found later tied hops =
        let wx = least_parts (take m s) (get_or s m 0 ∷ []) x found in
        let wy = least_parts (take c s) (get_or s c 0 ∷ []) y later in
        let px = goes_on_parts (take m s) (get_or s m 0 ∷ []) x.contacts wx.2 in
        let py = goes_on_parts (take c s) (get_or s c 0 ∷ []) y.contacts wy.2 in
        let within = one_goes_on (take m s) (get_or s m 0) x.contacts wx.2 in
        let after : is_lt (by_key p r x.contacts s) ≡ false = of_longer p r (λ t. is_lt (by_key p r t s) ≡ false) s first m from (omega (arith, less, to)) best.1 x.contacts (and_from (is_route p r x.contacts) (goes_on (take m s) [] x.contacts) wx.1 within) in
        let other : nat_cmp (get_or s m 0) px.0 ≡ Equal → ⊥ = λ e. differs (get_or s m 0) px.0 e px.3 in
        let numbers : by_numbers y.contacts x.contacts ≡ by_numbers s x.contacts = (λ i. by_numbers (py.2 i) (px.2 i)) ∙ first_differ m c s (py.0 ∷ py.1) px.1 px.0 less (omega (arith, to)) other ∙ ap (by_numbers s) (sym px.2) in
        let delivered : delivery_of p r y.contacts ≡ delivery_of p r s = sym (ap (λ (z : RouteRecord). z.delivery) wy.0) ∙ tied ∙ sym best.0 in
        let keys : by_key p r y.contacts x.contacts ≡ by_key p r s x.contacts =
        (λ i. by_numbers (delivered i ∷ hops i ∷ y.contacts) (key_of p r x.contacts))
        ∙ ap (λ o. ordering_then (nat_cmp (delivery_of p r s) (delivery_of p r x.contacts)) (ordering_then (nat_cmp (length s) (length x.contacts)) o)) numbers in
        let unlike : by_key p r s x.contacts ≡ Equal → ⊥ = λ e. goes_otherwise m (omega (arith, less, to)) (subst (λ z. goes_on (take m s) (get_or s m 0 ∷ []) z ≡ true) (sym (key_tells p r s x.contacts e)) wx.2) in
        ap is_lt ((λ i. by_record (wy.0 i) (wx.0 i)) ∙ record_order p r y.contacts x.contacts ∙ keys ∙ comes_after x.contacts after unlike)
      where
        differs : (n a : ℕ) → nat_cmp n a ≡ Equal → has a (n ∷ []) ≡ false → ⊥
        differs n a e h = grind (arith, nat_tests)

        goes_otherwise : (m : ℕ) → m < length s → goes_on (take m s) (get_or s m 0 ∷ []) s ≡ true → ⊥
        goes_otherwise m l on =
            let x = get_or s m 0 in
            true≢false (sym on ∙ ap (λ o. option_map_or (λ n. not (has n (x ∷ []))) o false) (number_after-take s m l) ∙ itself x)

        comes_after : (t : List ℕ) → is_lt (by_key p r t s) ≡ false → (by_key p r s t ≡ Equal → ⊥) → by_key p r s t ≡ Less
        comes_after t later unlike = elim (by_key p r s t) as (λ o. by_key p r s t ≡ o → o ≡ Less) [
          | Less ↦ λ _. refl
          | Equal ↦ λ e. absurd (unlike e)
          | Greater ↦ λ e. absurd (true≢false (sym (ap is_lt ((key_total p r).antisymm t s ∙ ap ordering_reverse e)) ∙ later))
        ] refl

-- ---- how far the search for the routes is

-- the first i have no route yet, and each that is found then comes after `ties` others where only some are needed
pub record IsSearchedFrom {A : Type 0} (needed : Option ℕ) (us : List (Node A)) (i ties : ℕ) : Type 0 where
  pub before : (k : ℕ) → needed ≡ Some k → (j : ℕ) (u : Node A) (x : RouteRecord) → j < i → slice_get us j ≡ Some u → u.route ≡ Some x → ties ≤ count_before x (unsearched i us)
  pub many : ties ≤ length (carried_keys (unsearched i us))

pub found_enough : {A : Type 0} (needed : Option ℕ) (us : List (Node A)) (i ties all searches : ℕ) → IsSearchedFrom needed us i ties → searches + i ≡ all → (i ≡ 0) ⊎ ((k : ℕ) × (needed ≡ Some k) × (k ≤ ties)) → AreFound needed all us (unsearched i us) searches
found_enough None us i ties all searches h sum (inl e) = (ap (λ n. unsearched n us) e, omega (arith, sum, e))
found_enough None us i ties all searches h sum (inr w) = absurd (let none = w.1 in cc)
found_enough (Some k) us i ties all searches h sum (inl e) = inl (ap (λ n. unsearched n us) e, omega (arith, sum, e))
found_enough (Some k) us i ties all searches h sum (inr w) =
    let same : k ≡ w.0 = (let some = w.1 in cc) in
    let few : k ≤ ties = omega (arith, same, w.2) in
    inr (
      record {
        cut = cut_unsearched k (unsearched i us) i us (λ j u x l e f. (let b = h.before k refl j u x l e f in omega (arith, b, few)));
        many = omega (arith, few, h.many);
      },
      omega (arith, sum),
    )

at_least : (t n : ℕ) → t ≤ 1 → (t ≡ 1 → 1 ≤ n) → t ≤ n
at_least zero n l f = omega arith
at_least (suc zero) n l f = f refl
at_least (suc (suc t)) n l f = absurd (omega arith)

-- one more is searched
module _ {A : Type 0} (p : ContactPlan) (r : RouteRequest) (good : IsPlan p) (o : Option Bound) (leaf : ℕ) (s : List ℕ) (first d : ℕ) (needed : Option ℕ) (best : IsBestWhere needed p r (take first s) [] s d) (i : ℕ) (within : first + i < length s)
    (found : Option RouteRecord) (is : found ≡ best_up_to p r o (take (first + i) s) (get_or s (first + i) 0 ∷ [])) where
  abbrev us : List (Node A)
  us = fresh_nodes (best_up_to p r o) leaf (take first s) (drop first s)

  abbrev at : ℕ → Node A
  at j = record { leaf = leaf; length = first + j; excluded = get_or s (first + j) 0 ∷ []; route = best_up_to p r o (take (first + j) s) (get_or s (first + j) 0 ∷ []) }

  there : (j : ℕ) → j ≤ i → slice_get us j ≡ Some (at j)
  there j l = fresh_at (best_up_to p r o) leaf s first j (omega (arith, l, within))

  pub nodes_on : (old now : List (Node A)) (place : ℕ) → now ≡ old ++ unsearched (suc i) us → place ≡ length old + i → modify (carrying found) now place ≡ old ++ unsearched i us
  nodes_on old now place e l =
      (λ j. modify (carrying (is j)) (e j) (l j)) ∙ modify_behind (carrying (at i).route) old (unsearched (suc i) us) i
      ∙ ap (λ z. old ++ z) (found_one (at i) us i (there i (omega arith)))

  pub search_on : (ties tie : ℕ) → tie ≤ 1 → (tie ≡ 1 → (y : RouteRecord) × (found ≡ Some y) × (y.delivery ≡ d) × (length y.contacts ≡ length s)) → IsSearchedFrom needed us (suc i) ties → IsSearchedFrom needed us i (ties + tie)
  search_on ties tie one tied h = record {
    before = λ k e j u x l stands carries.
        let former = h.before k e j u x (omega (arith, l)) stands carries in
        let more = at_least tie (one_if (carries_before x (at i))) one (λ t.
        let w = tied t in
        let known = subst (λ m. IsBestWhere m p r (take first s) [] s d) e best in
        let same : at j ≡ u = (let a = there j (omega (arith, l)) in cc) in
        let route = unbounded p r o (take (first + j) s) (get_or s (first + j) 0 ∷ []) x (ap (λ (z : Node A). z.route) same ∙ carries) in
        let own = unbounded p r o (take (first + i) s) (get_or s (first + i) 0 ∷ []) w.0 (sym is ∙ w.1) in
        let less = tie_before p r good s first d k known (first + j) (first + i) x w.0 (omega arith) (omega (arith, l)) within route own w.2 w.3 in
        let counted : one_if (carries_before x (at i)) ≡ 1 = ap (λ z. one_if (option_map_or (λ (y : RouteRecord). is_lt (by_record y x)) z false)) (sym is ∙ w.1) ∙ ap one_if less in
        omega (arith, counted)) in
        omega (arith, former, more, count_one (at i) x us i (there i (omega arith)));
    many =
        let more = at_least tie (length (keys_of (at i).route)) one (λ t. (let w = tied t in let counted = ap (λ z. length (keys_of z)) (sym is ∙ w.1) in omega (arith, counted))) in
        omega (arith, h.many, more, carried_one (at i) us i (there i (omega arith)));
  }
