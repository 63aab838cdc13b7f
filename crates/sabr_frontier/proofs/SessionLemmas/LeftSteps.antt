-- Whether a route is left once the least one that a node carries is given.
use Rattle.sabr_frontier.proofs.Names.{◌≡◌, ℕ, List, [], ◌∷◌, ◌++◌, ◌||◌, arith, ap, sym, refl, ◌∙◌, zero, suc, ◌+◌, true, false, length, map, take, drop, Option, Some, None, true≢false, ◌<◌, inl, inr, subst, ◌≤◌, ltb, length-append, append_assoc, append-nil, slice_get_within, is_some, slice_get, IsPlan, ContactPlan, RouteRecord, record_of, Node, next_route, given_first, steps, State, InPairs, Member, PartState, others_carry, part_goes_on, longer_go_on, some_carry, CarriesNoOther, Shape, numbers_of, shown, part_at, part_of, route_of, IsBefore, prefix_of, IsTree, CanExclude, CarriesNone, IsBestOf, option_map, option_and_then, RouteRequest, key_total, NodeId, fresh_nodes, widened, wide_of, divided_with, modify, or_cases, or_left, or_right, false_from_ne_true, ltb-true, ltb-false, tied_itself, nat_list_cmp_total, Less, Equal, by_numbers, put_in, drop-append-le, take-append-le, take-append-drop, take-append_seam, get_or-append_seam, nat_cmp, least_in, number_after, is_route, Within, has, GoesOtherwise, IsOtherWay}
use Rattle.std.specs.Prelude.{slice_index}
use Rattle.sabr_frontier.proofs.SessionLemmas.Pages.{steps_go, steps_none, nothing_carried, IsGiven, given_by}
use Rattle.std.proofs.lemmas.List.Folds.{list_any-append}
use Rattle.std.proofs.Math.Bool.{or_assoc, or_comm}
use Rattle.sabr_frontier.specs.tree.Best.{best_of}
use Rattle.sabr_frontier.proofs.ListingLemmas.AllRoutes.{by_key_exact, has_number, least_none}
use Rattle.sabr_frontier.proofs.ListingLemmas.ListMembers.{Member-map, any_has, none_has, put_in_cases}
use Rattle.sabr_frontier.proofs.ListingLemmas.NextPlace.{least_carried_below}
use Rattle.sabr_frontier.proofs.TreeLemmas.ModifiedPlaces.{Member_get, get_Member}
use Rattle.sabr_frontier.proofs.TreeLemmas.CarryingNodes.{index_order, part_is, same_prefix}
use Rattle.std.specs.Cmp.{nat_cmp_total}
use Rattle.sabr_frontier.proofs.ListingLemmas.NumbersAfter.{number_after-snoc, numbers_exact}

-- a list of nodes of which one was changed
carry_changed : {A : Type 0} (f : Node A → Node A) (nodes : List (Node A)) (i : ℕ) (n : Node A) → slice_get nodes i ≡ Some n
    → some_carry (modify f nodes i) ≡ (some_carry (take i nodes) || some_carry (drop (suc i) nodes) || is_some (f n).route)
carry_changed f [] i n e = absurd cc
carry_changed {A} f (m ∷ nodes) zero n e =
    let same : m ≡ n = cc in
    ap (λ (k : Node A). is_some (f k).route || some_carry nodes) same ∙ or_comm (is_some (f n).route) (some_carry nodes)
carry_changed f (m ∷ nodes) (suc i) n e =
    ap (λ b. is_some m.route || b) (carry_changed f nodes i n e)
    ∙ sym (or_assoc (is_some m.route) (some_carry (take i nodes) || some_carry (drop (suc i) nodes)) (is_some (f n).route))
    ∙ ap (λ b. b || is_some (f n).route) (sym (or_assoc (is_some m.route) (some_carry (take i nodes)) (some_carry (drop (suc i) nodes))))

-- new nodes
carry_fresh : (A : Type 0) (best : List ℕ → List ℕ → Option RouteRecord) (leaf : ℕ) (q rest : List ℕ) → some_carry (fresh_nodes {A = A} best leaf q rest) ≡ longer_go_on best q rest
carry_fresh A best leaf q [] = refl
carry_fresh A best leaf q (y ∷ rest) = ap (λ b. is_some (best q (y ∷ [])) || b) (carry_fresh A best leaf (q ++ y ∷ []) rest)

no_route : (o : Option RouteRecord) → is_some o ≡ false → o ≡ None
no_route None e = refl
no_route (Some x) e = absurd (true≢false e)

pub some_route : (o : Option RouteRecord) → is_some o ≡ true → (x : RouteRecord) × (o ≡ Some x)
some_route None e = absurd (true≢false (sym e))
some_route (Some x) e = (x, refl)

module _ {A : Type 0} (p : ContactPlan) (r : RouteRequest) (good : IsPlan p) (t : Shape A) (is : IsTree p r t) where
  pub none_carries : some_carry t.nodes ≡ false → CarriesNone t.nodes
  none_carries none id = elim (slice_get t.nodes id.0) as (λ o. slice_get t.nodes id.0 ≡ o → option_and_then route_of o ≡ None) [
    | None ↦ λ _. refl
    | Some n ↦ λ e. no_route n.route (none_has (λ (k : Node A). is_some k.route) t.nodes none n (get_Member t.nodes id.0 n e))
  ] refl

  pub one_carries : some_carry t.nodes ≡ true → is_some (next_route p r (shown t)) ≡ true
  one_carries some =
      let w = any_has (λ (k : Node A). is_some k.route) t.nodes some in
      let x = some_route w.0.route w.2 in
      let at = Member_get w.0 t.nodes w.1 in
      let id : NodeId = record { 0 = at.0 } in
      let there = Member-map (part_at t.leaves t.nodes) id t.index (is.listed id (slice_get_within t.nodes at.0 w.0 at.1)) in
      let carried : (part_at t.leaves t.nodes id).carried ≡ Some x.0.contacts = ap (λ o. (part_of t.leaves o).carried) at.1 ∙ ap (option_map numbers_of) x.1 in
      let least = least_carried_below (key_total p r) (by_key_exact p r) (shown t).parts (part_at t.leaves t.nodes id) x.0.contacts there carried in
      ap is_some least.1

  -- a route is left if some node carries one
  pub carried_is_left : is_some (next_route p r (shown t)) ≡ some_carry t.nodes
  carried_is_left = elim (some_carry t.nodes) as (λ b. some_carry t.nodes ≡ b → is_some (next_route p r (shown t)) ≡ b) [
    | true ↦ one_carries
    | false ↦ λ e. ap is_some (nothing_carried p r good t is (none_carries e))
  ] refl

module _ {A : Type 0} (p : ContactPlan) (r : RouteRequest) (good : IsPlan p) (t : Shape A) (is : IsTree p r t) (id : NodeId) (n : Node A) (x : RouteRecord)
    (stands : slice_get t.nodes id.0 ≡ Some n) (carries : n.route ≡ Some x) (least : IsBestOf t.nodes x) where
  abbrev then : Shape A
  then = divided_with (best_of p r) t id n x

  abbrev given : IsGiven p r t then
  given = given_by p r good t is id n x stands carries least

  pub one_step_is : steps p r 1 (shown t) ≡ (x.contacts ∷ [], shown then)
  one_step_is = steps_go p r (shown t) (shown then) x.contacts 0 given.stepped ∙ ap (given_first x.contacts) (steps_none p r (shown then))

  -- the record of the route that one step gives
  pub one_route : map (record_of p r) (steps p r 1 (shown t)).0 ≡ x ∷ []
  one_route = ap (λ (z : List (List ℕ) × State). map (record_of p r) z.0) one_step_is ∙ ap (λ (z : RouteRecord). z ∷ []) (sym given.told)

  -- whether one is left after it
  pub left_after : is_some (next_route p r (steps p r 1 (shown t)).1) ≡ (others_carry t.nodes id || part_goes_on (best_of p r) n x.contacts)
  left_after =
      let s = x.contacts in
      let wide = wide_of n s in
      let found = best_of p r (take n.length s) wide in
      let q = take (n.length + 1) s in
      let rest = drop (n.length + 1) s in
      let new : List (Node A) = fresh_nodes (best_of p r) (length t.leaves) q rest in
      let after : suc id.0 ≡ id.0 + 1 = omega arith in
      ap (λ (z : List (List ℕ) × State). is_some (next_route p r z.1)) one_step_is
      ∙ carried_is_left p r good then given.sound
      ∙ list_any-append (λ (k : Node A). is_some k.route) (modify (widened wide found) t.nodes id.0) new
      ∙ (λ i. carry_changed (widened wide found) t.nodes id.0 n stands i || carry_fresh A (best_of p r) (length t.leaves) q rest i)
      ∙ ap (λ k. some_carry (take id.0 t.nodes) || some_carry (drop k t.nodes) || is_some found || longer_go_on (best_of p r) q rest) after
      ∙ or_assoc (others_carry t.nodes id) (is_some found) (longer_go_on (best_of p r) q rest)

-- ---- a node whose route is the only one that the parts of a state carry

-- ---- places in the front of a list, and behind it

get_taken : {X : Type 0} (i j : ℕ) (xs : List X) (x : X) → slice_get (take i xs) j ≡ Some x → (slice_get xs j ≡ Some x) × (j < i)
get_taken zero j xs x e = absurd cc
get_taken (suc i) j [] x e = absurd cc
get_taken (suc i) zero (y ∷ xs) x e = (e, omega arith)
get_taken (suc i) (suc j) (y ∷ xs) x e = let w = get_taken i j xs x e in (w.0, (let l = w.1 in omega (arith, l)))

get_behind : {X : Type 0} (i j k : ℕ) (xs : List X) (x : X) → k ≡ i + j → slice_get (drop i xs) j ≡ Some x → slice_get xs k ≡ Some x
get_behind zero j k xs x at e = (let same : k ≡ j = omega (arith, at) in ap (slice_get xs) same) ∙ e
get_behind (suc i) j k [] x at e = absurd cc
get_behind (suc i) j zero (y ∷ xs) x at e = absurd (omega (arith, at))
get_behind (suc i) j (suc k) (y ∷ xs) x at e = get_behind i j k xs x (omega (arith, at)) e

-- two members of a list in pairs, neither of which stands so to the other, are one
one_member : {X : Type 0} (Q : X → X → Type 0) (xs : List X) (a b : X) → InPairs Q xs → Member a xs → Member b xs → (Q a b → ⊥) → (Q b a → ⊥) → a ≡ b
one_member Q [] a b h m k f g = absurd m
one_member Q (x ∷ xs) a b h (inl e) (inl d) f g = e ∙ sym d
one_member Q (x ∷ xs) a b h (inl e) (inr k) f g = absurd (f (subst (λ z. Q z b) (sym e) (h.0 b k)))
one_member Q (x ∷ xs) a b h (inr m) (inl d) f g = absurd (g (subst (λ z. Q z a) (sym d) (h.0 a m)))
one_member Q (x ∷ xs) a b h (inr m) (inr k) f g = one_member Q xs a b h.1 m k f g

-- ---- a node of a sound tree that carries a route

module _ {A : Type 0} (p : ContactPlan) (r : RouteRequest) (t : Shape A) (is : IsTree p r t) (id : NodeId) (n : Node A) (x : RouteRecord) (stands : slice_get t.nodes id.0 ≡ Some n) (carries : n.route ≡ Some x) where
  -- two parts of one prefix: neither is before the other
  tied : (a b : NodeId) → (part_at t.leaves t.nodes a).prefix ≡ prefix_of t.leaves n → (part_at t.leaves t.nodes b).prefix ≡ prefix_of t.leaves n → IsBefore t.leaves t.nodes a b → ⊥
  tied a b first second before =
      let q = prefix_of t.leaves n in
      let less : by_numbers q q ≡ Less = sym (λ i. by_numbers (first i) (second i)) ∙ before in
      let both : Equal ≡ Less = sym (tied_itself nat_list_cmp_total q) ∙ less in
      cc

  -- no other node carries its contacts
  same_place : (j : ℕ) (m : Node A) (y : RouteRecord) → slice_get t.nodes j ≡ Some m → m.route ≡ Some y → y.contacts ≡ x.contacts → j ≡ id.0
  same_place j m y at e same =
      let other : NodeId = record { 0 = j } in
      let listed = is.listed other (slice_get_within t.nodes j m at) in
      let there = Member-map (part_at t.leaves t.nodes) other t.index listed in
      let carried : (part_at t.leaves t.nodes other).carried ≡ Some x.contacts = ap (λ o. (part_of t.leaves o).carried) at ∙ ap (option_map numbers_of) e ∙ ap Some same in
      let prefix = same_prefix p r t is id n x stands carries (part_at t.leaves t.nodes other) there carried in
      let own = ap (λ (u : PartState). u.prefix) (part_is p r t is id n x stands carries) in
      let here = is.listed id (slice_get_within t.nodes id.0 n stands) in
      ap (λ (z : NodeId). z.0) (one_member (IsBefore t.leaves t.nodes) t.index other id (index_order p r t is) listed here (tied other id prefix own) (tied id other own prefix))

  module _ (only : CarriesNoOther (shown t) x.contacts) where
    no_place : (j : ℕ) (m : Node A) → slice_get t.nodes j ≡ Some m → is_some m.route ≡ true → j ≡ id.0
    no_place j m at some =
        let y = some_route m.route some in
        let other : NodeId = record { 0 = j } in
        let there = Member-map (part_at t.leaves t.nodes) other t.index (is.listed other (slice_get_within t.nodes j m at)) in
        let carried : (part_at t.leaves t.nodes other).carried ≡ Some y.0.contacts = ap (λ o. (part_of t.leaves o).carried) at ∙ ap (option_map numbers_of) y.1 in
        same_place j m y.0 at y.1 (only (part_at t.leaves t.nodes other) y.0.contacts there carried)

    pub no_others : others_carry t.nodes id ≡ false
    no_others = elim (others_carry t.nodes id) as (λ b. others_carry t.nodes id ≡ b → b ≡ false) [
      | false ↦ λ _. refl
      | true ↦ λ e. absurd (elim (or_cases (some_carry (take id.0 t.nodes)) (some_carry (drop (id.0 + 1) t.nodes)) e) [
        | inl before ↦
            let w = any_has (λ (k : Node A). is_some k.route) (take id.0 t.nodes) before in
            let at = Member_get w.0 (take id.0 t.nodes) w.1 in
            let there = get_taken id.0 at.0 t.nodes w.0 at.1 in
            let less = there.1 in
            let same = no_place at.0 w.0 there.0 w.2 in
            omega (arith, less, same)
        | inr behind ↦
            let w = any_has (λ (k : Node A). is_some k.route) (drop (id.0 + 1) t.nodes) behind in
            let at = Member_get w.0 (drop (id.0 + 1) t.nodes) w.1 in
            let same = no_place (id.0 + 1 + at.0) w.0 (get_behind (id.0 + 1) at.0 (id.0 + 1 + at.0) t.nodes w.0 refl at.1) w.2 in
            omega (arith, same)
      ])
    ] refl

-- ---- a route that may go on otherwise than by its last number isn't the only one that is left

-- the last beginning of a list goes on
longer_at_end : (best : List ℕ → List ℕ → Option RouteRecord) (q zs : List ℕ) (y : ℕ) → is_some (best (q ++ zs) (y ∷ [])) ≡ true → longer_go_on best q (zs ++ y ∷ []) ≡ true
longer_at_end best q [] y e = or_left (is_some (best q (y ∷ []))) false (subst (λ l. is_some (best l (y ∷ [])) ≡ true) (append-nil q) e)
longer_at_end best q (z ∷ zs) y e =
    or_right (is_some (best q (z ∷ []))) (longer_go_on best (q ++ z ∷ []) (zs ++ y ∷ []))
    (longer_at_end best (q ++ z ∷ []) zs y (subst (λ l. is_some (best l (y ∷ [])) ≡ true) (sym (append_assoc q (z ∷ []) zs)) e))

-- a number that is neither of these is none of the numbers with one more
absent_with : (m x : ℕ) (xs : List ℕ) → (m ≡ x → ⊥) → has nat_cmp m xs ≡ false → has nat_cmp m (put_in nat_cmp x xs) ≡ false
absent_with m x xs other free =
    false_from_ne_true (has nat_cmp m (put_in nat_cmp x xs)) (λ h. elim (put_in_cases nat_cmp_total numbers_exact m x xs h) [ inl same ↦ other same | inr there ↦ true≢false (sym there ∙ free) ])

module _ (p : ContactPlan) (r : RouteRequest) (good : IsPlan p) where
  -- a part that has a route has a least one
  some_best : (q X t : List ℕ) → is_route p r t ≡ true → Within q X t → is_some (best_of p r q X) ≡ true
  unfolding best_of
  some_best q X t is w = elim (least_in p r q X) as (λ o. least_in p r q X ≡ o → is_some (option_map (record_of p r) o) ≡ true) [
    | None ↦ λ e. absurd (least_none p r good q X e t is w)
    | Some s ↦ λ e. refl
  ] refl

  module _ {A : Type 0} (n : Node A) (front : List ℕ) (last : ℕ) (way : IsOtherWay p r front last n.excluded) where
    free : has nat_cmp way.n n.excluded ≡ false
    free = sym (has_number way.n n.excluded) ∙ way.free

    -- the part itself has a route that goes on otherwise
    here : n.length ≡ length front → is_some (best_of p r (take n.length (front ++ last ∷ [])) (wide_of n (front ++ last ∷ []))) ≡ true
    here e =
        let prefix : take n.length (front ++ last ∷ []) ≡ front = ap (λ k. take k (front ++ last ∷ [])) e ∙ take-append_seam front (last ∷ []) in
        let next : slice_index (front ++ last ∷ []) n.length ≡ last = ap (slice_index (front ++ last ∷ [])) e ∙ get_or-append_seam front last [] 0 in
        let absent : has nat_cmp way.n (wide_of n (front ++ last ∷ [])) ≡ false = ap (λ x. has nat_cmp way.n (put_in nat_cmp x n.excluded)) next ∙ absent_with way.n last n.excluded way.other free in
        some_best (take n.length (front ++ last ∷ [])) (wide_of n (front ++ last ∷ [])) (front ++ way.n ∷ way.rest) way.route
        (way.n, subst (λ q. number_after q (front ++ way.n ∷ way.rest) ≡ Some way.n) (sym prefix) (number_after-snoc front way.rest way.n), absent)

    -- the numbers before the last one have such a route
    further : n.length < length front → longer_go_on (best_of p r) (take (n.length + 1) (front ++ last ∷ [])) (drop (n.length + 1) (front ++ last ∷ [])) ≡ true
    further less =
        let k = n.length + 1 in
        let within : k ≤ length front = omega (arith, less) in
        let ends : is_some (best_of p r (take k front ++ drop k front) (last ∷ [])) ≡ true =
        subst (λ q. is_some (best_of p r q (last ∷ [])) ≡ true) (sym (take-append-drop k front))
        (some_best front (last ∷ []) (front ++ way.n ∷ way.rest) way.route (way.n, number_after-snoc front way.rest way.n, absent_with way.n last [] way.other refl)) in
        rw (take-append-le k front (last ∷ []) within, drop-append-le k front (last ∷ []) within) (longer_at_end (best_of p r) (take k front) (drop k front) last ends)

    ended : n.length < length (front ++ last ∷ []) → part_goes_on (best_of p r) n (front ++ last ∷ []) ≡ true
    ended less =
        let a = is_some (best_of p r (take n.length (front ++ last ∷ [])) (wide_of n (front ++ last ∷ []))) in
        let b = longer_go_on (best_of p r) (take (n.length + 1) (front ++ last ∷ [])) (drop (n.length + 1) (front ++ last ∷ [])) in
        let many = length-append front (last ∷ []) in
        elim (ltb n.length (length front)) as (λ t. ltb n.length (length front) ≡ t → (a || b) ≡ true) [
          | true ↦ λ e. or_right a b (further (ltb-true n.length (length front) e))
          | false ↦ λ e. let most = ltb-false n.length (length front) e in or_left a b (here (omega (arith, many, most, less)))
        ] refl

  pub goes_on_otherwise : {A : Type 0} (n : Node A) (s : List ℕ) → CanExclude n s → GoesOtherwise p r s n.excluded → part_goes_on (best_of p r) n s ≡ true
  goes_on_otherwise n s next e =
      subst (λ z. part_goes_on (best_of p r) n z ≡ true) (sym e.numbers_are)
      (ended n e.front e.last e.way (subst (λ z. n.length < length z) e.numbers_are next.longer))
