-- Seconds before which no route of a part is delivered, and trees and answers that were searched up to a bound.
use Rattle.sabr_frontier.proofs.Names.{◌≡◌, Bool, inl, inr, ℕ, zero, suc, ◌+◌, ◌-◌, ◌<◌, ◌≤◌, ◌++◌, List, [], ◌∷◌, Some, length, take, slice_index, true, false, true≢false, refl, ap, sym, subst, ◌∙◌, arith, append_assoc, Option, drop, None, cond, ◌&&◌, and_parts, and_from, or_parts, cases_lt, nat_tests, option_map, IsTrue, IsFalse, slice_get, unwrap_or, nat_cmp, is_eq, is_lt, by_numbers, put_in, ContactPlan, IsPlan, RouteRequest, goes_on, in_part, least_in, RouteRecord, record_of, delivery_of, is_route, least_some, IsFloor, IsSought, IsDecided, no_bound, goes_on-append, goes_on_parts, has, Asked, best_up_to, found_by, up_to, numbers_of, Shape, front_of, prefix_of, take-append-drop, take-append_seam, Node, NodeId, Member, IsTree, CarriesOnlyLeast, fresh_nodes, wide_of, widened, divided_with, IsBestWhere, modify, Bound}
use Rattle.std.proofs.lemmas.Grind.{common_steps}
use Rattle.std.specs.Cmp.{nat_cmp_total}
use Rattle.sabr_frontier.specs.tree.Best.{best_of}
use Rattle.sabr_frontier.proofs.ListingLemmas.AllRoutes.{has_number}
use Rattle.sabr_frontier.proofs.ListingLemmas.ListMembers.{has-put_in, Member-append_cases}
use Rattle.sabr_frontier.proofs.TreeLemmas.CarryingNodes.{best_numbers, told_back, IsKnown, cut, prefix_stable}
use Rattle.sabr_frontier.proofs.TreeLemmas.ModifiedPlaces.{get_at_end, get_Member, modify_cases}
use Rattle.sabr_search.specs.declared.bound.Sought.{Sought}
use Rattle.sabr_search.specs.declared.bound.Sought.TheVariants.{Route, None as NoRoute, Beyond}

-- ---- which routes go on

-- with a number more excluded no more do
fewer_go_on : (q X : List ℕ) (x : ℕ) (t : List ℕ) → goes_on q (put_in nat_cmp x X) t ≡ true → goes_on q X t ≡ true
fewer_go_on q X x t on =
    let w = goes_on_parts q (put_in nat_cmp x X) t on in
    let absent : has nat_cmp w.0 X ≡ false = (or_parts (is_eq (nat_cmp w.0 x)) (has nat_cmp w.0 X) (sym (has-put_in nat_cmp_total w.0 x X) ∙ sym (has_number w.0 (put_in nat_cmp x X)) ∙ w.3)).1 in
    subst (λ (z : List ℕ). goes_on q X z ≡ true) (sym w.2) (goes_on-append q X w.0 w.1 (has_number w.0 X ∙ absent))

-- nor with one excluded where none was
pub one_goes_on : (q : List ℕ) (x : ℕ) (t : List ℕ) → goes_on q (x ∷ []) t ≡ true → goes_on q [] t ≡ true
one_goes_on q x t on =
    let w = goes_on_parts q (x ∷ []) t on in
    subst (λ (z : List ℕ). goes_on q [] z ≡ true) (sym w.2) (goes_on-append q [] w.0 w.1 refl)

-- what goes on after a number more that isn't excluded goes on before it
longer_goes_on : (s : List ℕ) (n : ℕ) (X Y t : List ℕ) → n < length s → has nat_cmp (slice_index s n) X ≡ false → goes_on (take (n + 1) s) Y t ≡ true → goes_on (take n s) X t ≡ true
longer_goes_on s n X Y t within absent on =
    let w = goes_on_parts (take (n + 1) s) Y t on in
    let q = take n s in
    let x = slice_index s n in
    let parts : t ≡ q ++ x ∷ w.0 ∷ w.1 = w.2 ∙ ap (λ (z : List ℕ). z ++ w.0 ∷ w.1) (next_front s n within) ∙ append_assoc q (x ∷ []) (w.0 ∷ w.1) in
    subst (λ (z : List ℕ). goes_on q X z ≡ true) (sym parts) (goes_on-append q X x (w.0 ∷ w.1) (has_number x X ∙ absent))
  where
    next_front : (xs : List ℕ) (i : ℕ) → i < length xs → take (i + 1) xs ≡ take i xs ++ slice_index xs i ∷ []
    next_front xs i inside = grind (arith, common_steps)

-- ---- what holds of each route of a part holds of each of those

module _ (p : ContactPlan) (r : RouteRequest) (P : List ℕ → Type 0) where
  abbrev pub OfPart : List ℕ → List ℕ → Type 0
  OfPart q X = (t : List ℕ) → IsTrue (in_part p r q X t) → P t

  of_part : (q X z Y : List ℕ) → ((t : List ℕ) → goes_on z Y t ≡ true → goes_on q X t ≡ true) → OfPart q X → OfPart z Y
  of_part q X z Y within holds t inside =
      let both = and_parts (is_route p r t) (goes_on z Y t) inside in
      holds t (and_from (is_route p r t) (goes_on q X t) both.0 (within t both.1))

  pub of_after : (s : List ℕ) (n : ℕ) (X : List ℕ) → n < length s → has nat_cmp (slice_index s n) X ≡ false → OfPart (take n s) X → OfPart (take (n + 1) s) []
  of_after s n X within absent = of_part (take n s) X (take (n + 1) s) [] (λ t. longer_goes_on s n X [] t within absent)

  -- and after more numbers of the route
  of_later : (s : List ℕ) (n k : ℕ) → n + k ≤ length s → OfPart (take n s) [] → OfPart (take (n + k) s) []
  of_later s n zero within holds = subst (λ m. OfPart (take m s) []) (omega arith) holds
  of_later s n (suc k) within holds = subst (λ m. OfPart (take m s) []) (omega arith) (of_after s (n + k) [] (omega (arith, within)) refl (of_later s n k (omega (arith, within)) holds))

  pub of_longer : (s : List ℕ) (n m : ℕ) → n ≤ m → m ≤ length s → OfPart (take n s) [] → OfPart (take m s) []
  of_longer s n m from to holds = subst (λ k. OfPart (take k s) []) (omega (arith, from)) (of_later s n (m - n) (omega (arith, from, to)) holds)

-- ---- so no route of theirs delivers sooner

module _ (p : ContactPlan) (r : RouteRequest) (d : ℕ) where
  abbrev pub late : List ℕ → Type 0
  late t = d ≤ delivery_of p r t

  pub floor_wide : (q X : List ℕ) (x : ℕ) → IsFloor p r q X d → IsFloor p r q (put_in nat_cmp x X) d
  floor_wide q X x = of_part p r late q X q (put_in nat_cmp x X) (fewer_go_on q X x)

  pub floor_one : (s : List ℕ) (n x : ℕ) → IsFloor p r (take n s) [] d → IsFloor p r (take n s) (x ∷ []) d
  floor_one s n x = of_part p r late (take n s) [] (take n s) (x ∷ []) (one_goes_on (take n s) x)

pub floor_on : {a b : Asked} → b ≡ a → (s : List ℕ) (n m d : ℕ) → n ≤ m → m ≤ length s → IsFloor a.plan.plan a.request (take n s) [] d → IsFloor b.plan.plan b.request (take m s) [] d
floor_on {a = a} same s n m d from to floor = subst (λ (z : Asked). IsFloor z.plan.plan z.request (take m s) [] d) (sym same) (of_longer a.plan.plan a.request (late a.plan.plan a.request d) s n m from to floor)

-- ---- no route of a part delivers before its least

first_less : (a b : ℕ) (xs ys : List ℕ) → a < b → is_lt (by_numbers (a ∷ xs) (b ∷ ys)) ≡ true
first_less a b xs ys less = grind (arith, nat_tests, less)

-- a part's best route is its least one
best_of_least : (p : ContactPlan) (r : RouteRequest) (q X : List ℕ) (x : RouteRecord) → best_of p r q X ≡ Some x → (least_in p r q X ≡ Some x.contacts) × (x ≡ record_of p r x.contacts)
unfolding best_of
best_of_least p r q X x best = (sym (best_numbers p r q X) ∙ ap (option_map numbers_of) best, told_back p r (least_in p r q X) x best)

pub floor_least : (p : ContactPlan) (r : RouteRequest) → IsPlan p → (q X : List ℕ) (x : RouteRecord) → best_of p r q X ≡ Some x → IsFloor p r q X x.delivery
floor_least p r good q X x best t inside =
    let s = x.contacts in
    let is = best_of_least p r q X x best in
    let both = and_parts (is_route p r t) (goes_on q X t) inside in
    let late = (least_some p r good q X s is.0).2 t both.0 both.1 in
    let told : x.delivery ≡ delivery_of p r s = ap (λ (z : RouteRecord). z.delivery) is.1 in
    elim (cases_lt (delivery_of p r t) (delivery_of p r s)) [
      | inl sooner ↦ absurd (true≢false (sym (first_less (delivery_of p r t) (delivery_of p r s) (length t ∷ t) (length s ∷ s) sooner) ∙ late))
      | inr by ↦ omega (arith, told, by)
    ]

-- so its delivery is such a second if that is known to be the least, and 0 is in any case
pub floor_when : (p : ContactPlan) (r : RouteRequest) → IsPlan p → (q X : List ℕ) (x : RouteRecord) (searched : Bool) (d : ℕ) → (IsTrue searched → d ≡ x.delivery) → (IsFalse searched → d ≡ 0) → (IsTrue searched → best_of p r q X ≡ Some x) → IsFloor p r q X d
floor_when p r good q X x true d told other best t inside = omega (arith, told refl, floor_least p r good q X x (best refl) t inside)
floor_when p r good q X x false d told other best t inside = omega (arith, other refl)

-- and it is the best where only some routes are needed, if that is known
best_when : (p : ContactPlan) (r : RouteRequest) → IsPlan p → (q X : List ℕ) (x : RouteRecord) (searched : Bool) (needed : Option ℕ) (d : ℕ) → (IsTrue searched → d ≡ x.delivery) → (IsFalse searched → needed ≡ None) → (IsTrue searched → best_of p r q X ≡ Some x)
    → IsBestWhere needed p r q X x.contacts d
best_when p r good q X x searched None d told other best = tt
best_when p r good q X x false (Some k) d told other best = absurd (let none = other refl in cc)
best_when p r good q X x true (Some k) d told other best =
    let is = best_of_least p r q X x (best refl) in
    (sym (ap (λ (z : RouteRecord). z.delivery) is.1) ∙ sym (told refl), λ t inside. (let both = and_parts (is_route p r t) (goes_on q X t) inside in (least_some p r good q X x.contacts is.0).2 t both.0 both.1))

-- ---- trees that searches made: each carried route is the least of its part

module _ {A : Type 0} (p : ContactPlan) (r : RouteRequest) where
  -- the new nodes
  fresh_least : (leaves : List RouteRecord) (leaf : ℕ) (x : RouteRecord) → slice_get leaves leaf ≡ Some x → (q rest : List ℕ) → x.contacts ≡ q ++ rest → (m : Node A) (y : RouteRecord) → Member m (fresh_nodes (best_of p r) leaf q rest) → m.route ≡ Some y
      → best_of p r (prefix_of leaves m) m.excluded ≡ Some y
  fresh_least leaves leaf x is q [] e m y none carries = absurd none
  fresh_least leaves leaf x is q (z ∷ rest) e m y (inl same) carries =
      let new : Node A = record { leaf = leaf; length = length q; excluded = z ∷ []; route = best_of p r q (z ∷ []) } in
      let prefix : prefix_of leaves new ≡ q = ap (λ o. front_of o (length q)) is ∙ ap (take (length q)) e ∙ take-append_seam q (z ∷ rest) in
      subst (λ (k : Node A). k.route ≡ Some y → best_of p r (prefix_of leaves k) k.excluded ≡ Some y) (sym same) (λ c. ap (λ w. best_of p r w (z ∷ [])) prefix ∙ c) carries
  fresh_least leaves leaf x is q (z ∷ rest) e m y (inr more) carries = fresh_least leaves leaf x is (q ++ z ∷ []) rest (e ∙ sym (append_assoc q (z ∷ []) rest)) m y more carries

  -- a tree whose route is given
  module _ (t : Shape A) (tree : IsTree p r t) (node : NodeId) (n : Node A) (x : RouteRecord) (stands : slice_get t.nodes node.0 ≡ Some n) (carries : n.route ≡ Some x) where
    abbrev s : List ℕ
    s = x.contacts

    abbrev wide : List ℕ
    wide = wide_of n s

    abbrev found : Option RouteRecord
    found = best_of p r (take n.length s) wide

    stays : (m : Node A) → Member m t.nodes → prefix_of (t.leaves ++ x ∷ []) m ≡ prefix_of t.leaves m
    stays m inside = prefix_stable t.leaves (x ∷ []) m (tree.lent m inside)

    changed : (k : Node A) → k ≡ n → (y : RouteRecord) → found ≡ Some y → best_of p r (prefix_of (t.leaves ++ x ∷ []) (widened wide found k)) wide ≡ Some y
    changed k same y c =
        let front : take n.length s ≡ prefix_of t.leaves n = (cut p r t tree node n x stands carries).2.front in
        let prefix = ap (λ (z : Node A). prefix_of (t.leaves ++ x ∷ []) z) same ∙ stays n (get_Member t.nodes node.0 n stands) ∙ sym front in
        ap (λ w. best_of p r w wide) prefix ∙ c

    pub divided_least : CarriesOnlyLeast p r t → CarriesOnlyLeast p r (divided_with (best_of p r) t node n x)
    divided_least least m y inside carried = elim (Member-append_cases m (modify (widened wide found) t.nodes node.0) (fresh_nodes (best_of p r) (length t.leaves) (take (n.length + 1) s) (drop (n.length + 1) s)) inside) [
      | inr new ↦ fresh_least (t.leaves ++ x ∷ []) (length t.leaves) x (get_at_end t.leaves [] x) (take (n.length + 1) s) (drop (n.length + 1) s) (sym (take-append-drop (n.length + 1) s)) m y new carried
      | inl former ↦ elim (modify_cases (widened wide found) t.nodes node.0 m former) [
        | inl kept ↦ ap (λ w. best_of p r w m.excluded) (stays m kept) ∙ least m y kept carried
        | inr w ↦
            let same : w.0 ≡ n = (let e : Some w.0 ≡ Some n = sym w.1 ∙ stands in cc (e)) in
            subst (λ (k : Node A). k.route ≡ Some y → best_of p r (prefix_of (t.leaves ++ x ∷ []) k) k.excluded ≡ Some y) (sym w.2) (changed w.0 same y) carried
      ]
    ]

-- no route of the part of the node that is known delivers before the tree's second for the route that it carries, which is
-- the best where only some are needed
module _ {A : Type 0} (a : Asked) (t : Shape A) (id : NodeId) (w : RouteRecord) (k : IsKnown a t id w) (good : IsPlan a.plan.plan) (tree : IsTree a.plan.plan a.request t) (copy : List ℕ) (e : copy ≡ w.contacts) (d : ℕ) (told : IsTrue t.is_searched → d ≡ w.delivery) where
  abbrev Q : Node A → List ℕ
  Q n = prefix_of t.leaves n

  told_part : IsTrue t.is_searched → d ≡ k.route.delivery
  told_part s = told s ∙ ap (λ (z : RouteRecord). z.delivery) k.copied

  least_part : IsTrue t.is_searched → best_of a.plan.plan a.request (Q k.part) k.part.excluded ≡ Some k.route
  least_part s = tree.least s k.part k.route (get_Member t.nodes id.0 k.part k.stands) k.carries

  -- what holds of the part holds of the node that stands there
  of_known : (P : List ℕ → List ℕ → List ℕ → Type 0) → P (Q k.part) k.part.excluded k.route.contacts → (n : Node A) → slice_get t.nodes id.0 ≡ Some n → P (take n.length copy) n.excluded copy
  of_known P h m stands =
      let same : m ≡ k.part = (let both : Some m ≡ Some k.part = sym stands ∙ k.stands in cc (both)) in
      let contacts : copy ≡ k.route.contacts = e ∙ ap numbers_of k.copied in
      let front : take k.part.length k.route.contacts ≡ Q k.part = (cut a.plan.plan a.request t tree id k.part k.route k.stands k.carries).2.front in
      subst (λ (n : Node A). P (take n.length copy) n.excluded copy) (sym same) (subst (λ z. P (take k.part.length z) k.part.excluded z) (sym contacts) (subst (λ q. P q k.part.excluded k.route.contacts) (sym front) h))

  pub floor_known : (IsFalse t.is_searched → d ≡ 0) → (n : Node A) → slice_get t.nodes id.0 ≡ Some n → IsFloor a.plan.plan a.request (take n.length copy) n.excluded d
  floor_known other = of_known (λ q X s. IsFloor a.plan.plan a.request q X d) (floor_when a.plan.plan a.request good (Q k.part) k.part.excluded k.route t.is_searched d told_part other least_part)

  pub best_known : (needed : Option ℕ) → (IsFalse t.is_searched → needed ≡ None) → (n : Node A) → slice_get t.nodes id.0 ≡ Some n → IsBestWhere needed a.plan.plan a.request (take n.length copy) n.excluded copy d
  best_known needed other = of_known (λ q X s. IsBestWhere needed a.plan.plan a.request q X s d) (best_when a.plan.plan a.request good (Q k.part) k.part.excluded k.route t.is_searched needed d told_part other least_part)

-- ---- what of an answer is up to a bound is the part's least route if that is

found_best : {A : Type 0} (p : ContactPlan) (r : RouteRequest) → IsPlan p → (b : Bound) (q X : List ℕ) (sought : Sought A) → IsSought p r q X b sought → found_by sought (Some b) ≡ best_up_to p r (Some b) q X
unfolding best_of
found_best p r good b q X (Route x) h = ap (up_to b) h
found_best p r good b q X NoRoute h = ap (up_to b) h
found_best p r good b q X Beyond h = elim (least_in p r q X) as (λ o. least_in p r q X ≡ o → None ≡ up_to b (option_map (record_of p r) o)) [
  | None ↦ λ _. refl
  | Some s ↦ λ e.
      let w = least_some p r good q X s e in
      sym (ap (λ c. cond c (Some (record_of p r s)) None) (h s (λ i. w.0 i && w.1 i)))
] refl

-- so it is without a bound
pub found_by_best : {A : Type 0} (p : ContactPlan) (r : RouteRequest) → IsPlan p → (o : Option Bound) (q X : List ℕ) (sought : Sought A) → IsSought p r q X (unwrap_or o no_bound) sought → IsDecided (unwrap_or o no_bound) sought → found_by sought o ≡ best_up_to p r o q X
unfolding best_of
found_by_best p r good (Some b) q X sought h whole = found_best p r good b q X sought h
found_by_best p r good None q X (Route x) h whole = h
found_by_best p r good None q X NoRoute h whole = h
found_by_best p r good None q X Beyond h whole = absurd (true≢false whole)
