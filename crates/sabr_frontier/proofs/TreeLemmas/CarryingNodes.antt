-- A node of a sound tree that carries a route, before that is given, and the tree's state after that.
use Rattle.sabr_frontier.proofs.Names.{◌≡◌, ℕ, ◌-◌, ◌<◌, true, false, List, [], ◌∷◌, ◌++◌, map, length, refl, sym, ap, subst, ◌∙◌, arith, true≢false, Option, Some, None, suc, ◌+◌, take, drop, get_or, inl, inr, length-append, length-take-le, Bool, append_assoc, ◌⊎◌, slice_get_within, slice_get, option_map, option_and_then, option_map_or, find, tied_itself, nat_list_cmp_total, nat_cmp, is_lt, is_eq, by_numbers, same_numbers, put_in, ContactPlan, RouteRequest, is_route, is_path, is_prefix, by_key, RouteRecord, record_of, by_record, record_order, key_total, NodeId, Node, has, Rises, numbers_after, tree, PartState, pair_of, Member, leaves, InPairs, Within, next_route, carries_it, Shape, shown, part_at, part_of, prefix_of, numbers_of, route_at, route_of, front_of, IsBefore, contacts_in, modify, IsFirst, IsBestOf, widened, passing, wide_of, fresh_nodes, ids_from, with_block, divided_with, IsTree, CanExclude, IsLent, Asked, number_after_some, Less, Equal, Greater, take-append-drop, map-append, number_after, least_in, carry, parts_after, given, take-append_seam}
use Rattle.sabr_frontier.specs.listing.Listing.{searches_for}
use Rattle.sabr_frontier.specs.tree.Giving.{stands_before}
use Rattle.sabr_frontier.proofs.TreeLemmas.ListFronts.{found_is, none_found, pairs_from_rises, front_passes, back_fails}
use Rattle.sabr_frontier.proofs.ListingLemmas.ListMembers.{is_equal, map_map, Member-map, Member-map_cases, turned, earlier_prefix, less_from_test, Member-append_left, Member-append_right, Less-apart}
use Rattle.sabr_frontier.proofs.ListingLemmas.NumbersAfter.{lists_exact, number_after-snoc}
use Rattle.sabr_frontier.proofs.ListingLemmas.ClosedTrees.{tree_has, leaves_has, Listed, closed_tree}
use Rattle.sabr_frontier.proofs.ListingLemmas.Division.{in_one_part, begins_less, earlier_excludes, divided_set, fresh}
use Rattle.sabr_frontier.proofs.ListingLemmas.AllRoutes.{routes_apart, by_key_exact}
use Rattle.sabr_frontier.proofs.ListingLemmas.NextPlace.{least_carried_is}
use Rattle.sabr_frontier.proofs.TreeLemmas.ModifiedPlaces.{length-modify, get_Member, get_front, get_other, get_at_end, get_same, Member_split, member_cut, member_dropped, pair_across, pairs_back, same_node}
use Rattle.sabr_frontier.proofs.TreeLemmas.SlotWinners.{standing_at}
use Rattle.sabr_frontier.specs.tree.Best.{best_of}

-- ---- a route cut after a prefix

-- what a list is around the number after its front
pub record IsCut (s q : List ℕ) (y : ℕ) (rest : List ℕ) (d : ℕ) : Type 0 where
  pub front : take d s ≡ q
  pub number : get_or s d 0 ≡ y
  pub more : take (d + 1) s ≡ q ++ y ∷ []
  pub after : drop (d + 1) s ≡ rest
  pub inside : d < length s

cut_whole : (q : List ℕ) (y : ℕ) (rest : List ℕ) → (take (length q) (q ++ y ∷ rest) ≡ q) × (get_or (q ++ y ∷ rest) (length q) 0 ≡ y) × (take (suc (length q)) (q ++ y ∷ rest) ≡ q ++ y ∷ []) × (drop (suc (length q)) (q ++ y ∷ rest) ≡ rest)
cut_whole [] y rest = (refl, refl, refl, refl)
cut_whole (x ∷ q) y rest = let w = cut_whole q y rest in (ap (λ z. x ∷ z) w.0, w.1, ap (λ z. x ∷ z) w.2, w.3)

pub cut_at : (s q : List ℕ) (y : ℕ) (rest : List ℕ) (d : ℕ) → s ≡ q ++ y ∷ rest → length q ≡ d → IsCut s q y rest d
cut_at s q y rest d e l =
    let w = cut_whole q y rest in
    let next : suc (length q) ≡ d + 1 = omega arith in
    record {
      front = (λ i. take (sym l i) (e i)) ∙ w.0;
      number = (λ i. get_or (e i) (sym l i) 0) ∙ w.1;
      more = (λ i. take (sym next i) (e i)) ∙ w.2;
      after = (λ i. drop (sym next i) (e i)) ∙ w.3;
      inside = omega (arith, ap length e, length-append q (y ∷ rest));
    }

-- ---- prefixes that are lent

pub front_none : (o : Option RouteRecord) (n : ℕ) → n ≡ 0 → front_of o n ≡ []
front_none None n e = refl
front_none (Some x) n e = ap (λ m. take m x.contacts) e

pub prefix_length : {A : Type 0} (leaves : List RouteRecord) (n : Node A) → IsLent leaves n → length (prefix_of leaves n) ≡ n.length
prefix_length leaves n (inl e) = ap (length {A = ℕ}) (front_none (slice_get leaves n.leaf) n.length e) ∙ sym e
prefix_length leaves n (inr w) = ap (λ o. length (front_of o n.length)) w.1 ∙ length-take-le n.length w.0.contacts w.2

pub prefix_stable : {A : Type 0} (leaves more : List RouteRecord) (n : Node A) → IsLent leaves n → prefix_of (leaves ++ more) n ≡ prefix_of leaves n
prefix_stable leaves more n (inl e) = front_none (slice_get (leaves ++ more) n.leaf) n.length e ∙ sym (front_none (slice_get leaves n.leaf) n.length e)
prefix_stable leaves more n (inr w) = ap (λ o. front_of o n.length) (get_front leaves more n.leaf (slice_get_within leaves n.leaf w.0 w.1))

pub lent_stable : {A : Type 0} (leaves more : List RouteRecord) (n : Node A) → IsLent leaves n → IsLent (leaves ++ more) n
lent_stable leaves more n (inl e) = inl e
lent_stable leaves more n (inr w) = inr (w.0, get_front leaves more n.leaf (slice_get_within leaves n.leaf w.0 w.1) ∙ w.1, w.2)

pub route_there : {A : Type 0} (nodes : List (Node A)) (id : NodeId) (n : Node A) (x : RouteRecord) → slice_get nodes id.0 ≡ Some n → n.route ≡ Some x → route_at nodes id ≡ Some x
route_there nodes id n x e f = ap (option_and_then route_of) e ∙ f

pub carried_at : {A : Type 0} (leaves : List RouteRecord) (o : Option (Node A)) → (part_of leaves o).carried ≡ option_map numbers_of (option_and_then route_of o)
carried_at leaves None = refl
carried_at leaves (Some n) = refl

pub mapped : (o : Option RouteRecord) (s : List ℕ) → option_map numbers_of o ≡ Some s → (y : RouteRecord) × (o ≡ Some y) × (y.contacts ≡ s)
mapped None s e = absurd cc
mapped (Some y) s e = (y, refl, (let same : y.contacts ≡ s = cc in same))

-- ---- the index

module _ {A : Type 0} (p : ContactPlan) (r : RouteRequest) (t : Shape A) (is : IsTree p r t) where
  pub index_order : InPairs (IsBefore t.leaves t.nodes) t.index
  index_order = pairs_from_rises nat_list_cmp_total (λ (id : NodeId). (part_at t.leaves t.nodes id).prefix) t.index (subst (Rises by_numbers) (map_map pair_of (λ (e : List ℕ × List ℕ). e.0) (map (part_at t.leaves t.nodes) t.index) ∙ map_map (part_at t.leaves t.nodes) (λ (u : PartState). u.prefix) t.index) is.formed.order.by_prefix)

  -- ---- other nodes stay as they are

  module _ (node : NodeId) (wide : List ℕ) (found : Option RouteRecord) (fresh : List (Node A)) where
    pub kept : (id : NodeId) → id.0 < length t.nodes → (id.0 ≡ node.0 → ⊥) → slice_get (modify (widened wide found) t.nodes node.0 ++ fresh) id.0 ≡ slice_get t.nodes id.0
    kept id l ne = get_front (modify (widened wide found) t.nodes node.0) fresh id.0 (omega (arith, length-modify (widened wide found) t.nodes node.0)) ∙ get_other (widened wide found) t.nodes node.0 id.0 ne

  -- ---- the part that carries the route

  module _ (node : NodeId) (n : Node A) (x : RouteRecord) (stands : slice_get t.nodes node.0 ≡ Some n) (carries : n.route ≡ Some x) where
    pub node_within : node.0 < length t.nodes
    node_within = slice_get_within t.nodes node.0 n stands

    abbrev pub parts : List PartState
    parts = map (part_at t.leaves t.nodes) t.index

    abbrev pub here : PartState
    here = record { prefix = prefix_of t.leaves n; excluded = n.excluded; carried = Some x.contacts }

    pub part_is : part_at t.leaves t.nodes node ≡ here
    part_is = ap (part_of t.leaves) stands ∙ (λ i. record { prefix = prefix_of t.leaves n; excluded = n.excluded; carried = option_map numbers_of (carries i) })

    pub here_in : Member here parts
    here_in = subst (λ z. Member z parts) part_is (Member-map (part_at t.leaves t.nodes) node t.index (is.listed node node_within))

    pub inside : (is_route p r x.contacts ≡ true) × Within (prefix_of t.leaves n) n.excluded x.contacts
    inside = is.formed.carried here x.contacts here_in refl

    abbrev pub number : ℕ
    number = inside.1.0

    pub cut : (rest : List ℕ) × (x.contacts ≡ prefix_of t.leaves n ++ number ∷ rest) × IsCut x.contacts (prefix_of t.leaves n) number rest n.length
    cut =
        let w = number_after_some (prefix_of t.leaves n) x.contacts number inside.1.1 in
        (w.0, w.1, cut_at x.contacts (prefix_of t.leaves n) number w.0 n.length w.1 (prefix_length t.leaves n (is.lent n (get_Member t.nodes node.0 n stands))))

    pub can_exclude : CanExclude n x.contacts
    can_exclude = record {
      longer = cut.2.inside;
      rises = is.formed.order.numbers (prefix_of t.leaves n) n.excluded (Member-map pair_of here parts here_in);
      absent = ap (λ z. has nat_cmp z n.excluded) cut.2.number ∙ inside.1.2;
    }

    pub record_is : x ≡ record_of p r x.contacts
    record_is = is.records n x (get_Member t.nodes node.0 n stands) carries

    -- no part carries a lesser route
    least_here : IsBestOf t.nodes x → (u : PartState) (s : List ℕ) → Member u parts → u.carried ≡ Some s → is_lt (by_key p r s x.contacts) ≡ false
    least_here least u s m e =
        let w = Member-map_cases (part_at t.leaves t.nodes) u t.index m in
        let id = w.0 in
        let v = mapped (route_at t.nodes id) s (sym (carried_at t.leaves (slice_get t.nodes id.0)) ∙ ap (λ (z : PartState). z.carried) (sym w.1) ∙ e) in
        let k = standing_at t.nodes id v.0 v.1 in
        let told : v.0 ≡ record_of p r s = is.records k.0 v.0 (get_Member t.nodes id.0 k.0 k.1) k.2 ∙ ap (record_of p r) v.2 in
        sym (ap is_lt (record_order p r s x.contacts)) ∙ sym (λ i. is_lt (by_record (told i) (record_is i))) ∙ least id v.0 v.1

    -- the tree's least route is the least that a part carries
    pub next_is : IsBestOf t.nodes x → next_route p r (shown t) ≡ Some x.contacts
    next_is least = least_carried_is (key_total p r) (by_key_exact p r) parts here x.contacts here_in refl (least_here least)

    -- a part that carries the same route has the same prefix
    leaf_route : (l : List ℕ) → has by_numbers l (leaves (is_route p r) (map pair_of parts)) ≡ true → is_route p r l ≡ true
    leaf_route l h = (leaves_has (is_route p r) l (map pair_of parts) h).6

    listed_within : (u : PartState) → Member u parts → (is_route p r x.contacts ≡ true) × Within u.prefix u.excluded x.contacts → Listed (leaves (is_route p r) (map pair_of parts)) u.prefix × Within u.prefix (numbers_after u.prefix (leaves (is_route p r) (map pair_of parts))) x.contacts
    listed_within u m w =
        let S : List (List ℕ) = leaves (is_route p r) (map pair_of parts) in
        let h = tree_has u.prefix u.excluded S (subst (Member (pair_of u)) (closed_tree (is_route p r) (is_path p r) (is_prefix p r) (map pair_of parts) is.formed.order is.formed.closed) (Member-map pair_of u parts m)) in
        (h.0, subst (λ Z. Within u.prefix Z x.contacts) h.1 w.1)

    pub same_prefix : (u : PartState) → Member u parts → u.carried ≡ Some x.contacts → u.prefix ≡ prefix_of t.leaves n
    same_prefix u m e =
        let a = listed_within u m (is.formed.carried u x.contacts m e) in
        let b = listed_within here here_in inside in
        in_one_part (is_route p r) (routes_apart p r) (leaves (is_route p r) (map pair_of parts)) leaf_route x.contacts inside.0 u.prefix (prefix_of t.leaves n) a.0 b.0 a.1 b.1

    carried_is : (u : PartState) → carries_it x.contacts u ≡ true → u.carried ≡ Some x.contacts
    carried_is u h = elim u.carried as (λ o. option_map_or (same_numbers x.contacts) o false ≡ true → o ≡ Some x.contacts) [
      | None ↦ λ k. absurd (true≢false (sym k))
      | Some s ↦ λ k. ap Some (sym (lists_exact x.contacts s (is_equal (by_numbers x.contacts s) k)))
    ] h

    pub searches_are : searches_for (shown t) x.contacts ≡ length x.contacts - n.length
    unfolding searches_for
    searches_are = elim (find (carries_it x.contacts) parts) as (λ o. find (carries_it x.contacts) parts ≡ o → option_map_or (λ (u : PartState). length x.contacts - length u.prefix) o 0 ≡ length x.contacts - n.length) [
      | None ↦ λ e. absurd (none_found (carries_it x.contacts) parts e here here_in (ap is_eq (tied_itself nat_list_cmp_total x.contacts)))
      | Some u ↦ λ e.
          let w = found_is (carries_it x.contacts) parts u e in
          let same = same_prefix u w.0 (carried_is u w.1) in
          ap (λ q. length x.contacts - length q) same ∙ ap (λ d. length x.contacts - d) (prefix_length t.leaves n (is.lent n (get_Member t.nodes node.0 n stands)))
    ] refl

-- the node that carries the least route, and a copy of that
pub record IsKnown {A : Type 0} (a : Asked) (t : Shape A) (id : NodeId) (copy : RouteRecord) : Type 0 where
  pub part : Node A
  pub route : RouteRecord
  pub stands : slice_get t.nodes id.0 ≡ Some part
  pub carries : part.route ≡ Some route
  pub least : IsBestOf t.nodes route
  pub copied : copy ≡ route
  pub can : CanExclude part route.contacts

pub known : {A : Type 0} (a : Asked) {t : Shape A} → IsTree a.plan.plan a.request t → {id : NodeId} {copy : RouteRecord} → ((x : RouteRecord) × IsFirst t.nodes id x) → route_at t.nodes id ≡ Some copy → IsKnown a t id copy
known a {t} tree {id} first is =
    let w = standing_at t.nodes id first.0 first.1.carries in
    record { part = w.0; route = first.0; stands = w.1; carries = w.2; least = first.1.least; copied = (let same : Some _ ≡ Some first.0 = sym is ∙ first.1.carries in cc); can = can_exclude a.plan.plan a.request t tree id w.0 first.0 w.1 w.2 }

-- ---- the state of the tree after its least route is given is the one that the step names

-- what the searches' records say of the routes
pub numbers_back : (p : ContactPlan) (r : RouteRequest) (o : Option (List ℕ)) → option_map numbers_of (option_map (record_of p r) o) ≡ o
numbers_back p r None = refl
numbers_back p r (Some s) = refl

pub told_back : (p : ContactPlan) (r : RouteRequest) (o : Option (List ℕ)) (x : RouteRecord) → option_map (record_of p r) o ≡ Some x → x ≡ record_of p r x.contacts
told_back p r None x e = absurd cc
told_back p r (Some s) x e = let same : record_of p r s ≡ x = cc in sym same ∙ ap (λ (z : RouteRecord). record_of p r z.contacts) same

pub best_numbers : (p : ContactPlan) (r : RouteRequest) (q X : List ℕ) → option_map numbers_of (best_of p r q X) ≡ least_in p r q X
unfolding best_of
best_numbers p r q X = numbers_back p r (least_in p r q X)

-- the parts of the new nodes
fresh_parts : {A : Type 0} (p : ContactPlan) (r : RouteRequest) (leaves : List RouteRecord) (leaf : ℕ) (x : RouteRecord) (is : slice_get leaves leaf ≡ Some x) (base : List (Node A)) (q rest : List ℕ) (count : ℕ)
    → x.contacts ≡ q ++ rest → count ≡ length (fresh_nodes {A = A} (best_of p r) leaf q rest)
    → map (part_at leaves (base ++ fresh_nodes (best_of p r) leaf q rest)) (ids_from (length base) count) ≡ fresh (least_in p r) q rest
fresh_parts p r leaves leaf x is base q [] count e c = ap (λ n. map (part_at leaves (base ++ [])) (ids_from (length base) n)) c
fresh_parts {A} p r leaves leaf x is base q (y ∷ rest) count e c =
    let new : Node A = record { leaf = leaf; length = length q; excluded = y ∷ []; route = best_of p r q (y ∷ []) } in
    let more : List (Node A) = fresh_nodes (best_of p r) leaf (q ++ y ∷ []) rest in
    let prefix : prefix_of leaves new ≡ q = ap (λ o. front_of o (length q)) is ∙ ap (take (length q)) e ∙ take-append_seam q (y ∷ rest) in
    let first : part_at leaves (base ++ new ∷ more) (record { 0 = length base }) ≡ record { prefix = q; excluded = y ∷ []; carried = least_in p r q (y ∷ []) } =
    ap (part_of leaves) (get_at_end base more new) ∙ (λ i. record { prefix = prefix i; excluded = y ∷ []; carried = best_numbers p r q (y ∷ []) i }) in
    let long : length (base ++ new ∷ []) ≡ suc (length base) = omega (arith, length-append base (new ∷ [])) in
    let rest_is = fresh_parts p r leaves leaf x is (base ++ new ∷ []) (q ++ y ∷ []) rest (length more) (e ∙ sym (append_assoc q (y ∷ []) rest)) refl in
    let assoc : base ++ new ∷ more ≡ (base ++ new ∷ []) ++ more = sym (append_assoc base (new ∷ []) more) in
    let tail : map (part_at leaves (base ++ new ∷ more)) (ids_from (suc (length base)) (length more)) ≡ fresh (least_in p r) (q ++ y ∷ []) rest =
    (λ i. map (part_at leaves (assoc i)) (ids_from (sym long i) (length more))) ∙ rest_is in
    ap (λ n. map (part_at leaves (base ++ new ∷ more)) (ids_from (length base) n)) c ∙ (λ i. first i ∷ tail i)

part_stable : {A : Type 0} (leaves : List RouteRecord) (x : RouteRecord) (nodes : List (Node A)) (o : Option (Node A)) (i : ℕ) → ((n : Node A) → Member n nodes → IsLent leaves n) → slice_get nodes i ≡ o → part_of (leaves ++ x ∷ []) o ≡ part_of leaves o
part_stable leaves x nodes None i f e = refl
part_stable leaves x nodes (Some n) i f e = λ j. record { prefix = prefix_stable leaves (x ∷ []) n (f n (get_Member nodes i n e)) j; excluded = n.excluded; carried = option_map numbers_of n.route }

module _ {A : Type 0} (p : ContactPlan) (r : RouteRequest) (t : Shape A) (is : IsTree p r t) (node : NodeId) (n : Node A) (x : RouteRecord) (stands : slice_get t.nodes node.0 ≡ Some n) (carries : n.route ≡ Some x) where
  abbrev s : List ℕ
  s = x.contacts

  abbrev pre : List ℕ
  pre = prefix_of t.leaves n

  abbrev y : ℕ
  y = (inside p r t is node n x stands carries).1.0

  abbrev rest : List ℕ
  rest = (cut p r t is node n x stands carries).0

  whole : s ≡ pre ++ y ∷ rest
  whole = (cut p r t is node n x stands carries).1

  abbrev q0 : List ℕ
  q0 = take (n.length + 1) s

  q_is : q0 ≡ pre ++ y ∷ []
  q_is = (cut p r t is node n x stands carries).2.more

  abbrev test : NodeId → Bool
  test = stands_before t.leaves t.nodes q0

  abbrev k : ℕ
  k = passing test t.index

  abbrev part : NodeId → PartState
  part = part_at t.leaves t.nodes

  abbrev old : List PartState
  old = map part t.index

  abbrev hole : PartState
  hole = here p r t is node n x stands carries

  falls : (a b : NodeId) → IsBefore t.leaves t.nodes a b → test b ≡ true → test a ≡ true
  falls a b = earlier_prefix q0 (part a).prefix (part b).prefix

  order : InPairs (IsBefore t.leaves t.nodes) t.index
  order = index_order p r t is

  -- ---- where the node stands in the index

  node_passes : test node ≡ true
  node_passes = (λ i. is_lt (by_numbers (part_is p r t is node n x stands carries i).prefix (q_is i))) ∙ ap is_lt (begins_less pre y [])

  node_front : Member node (take k t.index)
  node_front = elim (member_cut k node t.index (is.listed node (node_within p r t is node n x stands carries))) [
    | inl m ↦ m
    | inr m ↦ absurd (true≢false (sym node_passes ∙ back_fails test (IsBefore t.leaves t.nodes) falls node t.index order m))
  ]

  parted : (F : List NodeId) × (M : List NodeId) × (take k t.index ≡ F ++ node ∷ M)
  parted = Member_split node (take k t.index) node_front

  abbrev F : List NodeId
  F = parted.0

  abbrev M : List NodeId
  M = parted.1

  abbrev B : List NodeId
  B = drop k t.index

  index_is : t.index ≡ (F ++ node ∷ M) ++ B
  index_is = sym (take-append-drop k t.index) ∙ ap (λ z. z ++ B) parted.2

  front_in : (id : NodeId) → Member id (F ++ node ∷ M) → Member id (take k t.index)
  front_in id m = subst (Member id) (sym parted.2) m

  -- ---- the parts around it

  spread : {X : Type 0} (f : NodeId → X) → map f ((F ++ node ∷ M) ++ B) ≡ (map f F ++ f node ∷ map f M) ++ map f B
  spread f = map-append f (F ++ node ∷ M) B ∙ ap (λ z. z ++ map f B) (map-append f F (node ∷ M))

  old_is : old ≡ (map part F ++ hole ∷ map part M) ++ map part B
  old_is = ap (map part) index_is ∙ spread part ∙ ap (λ z. (map part F ++ z ∷ map part M) ++ map part B) (part_is p r t is node n x stands carries)

  abbrev S : List (List ℕ)
  S = leaves (is_route p r) (map pair_of old)

  is_tree : map pair_of old ≡ tree S
  is_tree = closed_tree (is_route p r) (is_path p r) (is_prefix p r) (map pair_of old) is.formed.order is.formed.closed

  pair_in : (u : PartState) → Member u old → Member (pair_of u) (tree S)
  pair_in u m = subst (Member (pair_of u)) is_tree (Member-map pair_of u old m)

  unused : has nat_cmp y n.excluded ≡ false
  unused = (inside p r t is node n x stands carries).1.2

  low : (u : PartState) → Member u (map part M) → by_numbers u.prefix (pre ++ y ∷ []) ≡ Less
  low u m =
      let w = Member-map_cases part u M m in
      let t0 = front_passes test w.0 t.index (front_in w.0 (Member-append_right w.0 F (node ∷ M) (inr w.2))) in
      (λ i. by_numbers (w.1 i).prefix (sym q_is i)) ∙ less_from_test (by_numbers (part w.0).prefix q0) t0

  high : (u : PartState) → Member u (map part B) → by_numbers (pre ++ y ∷ []) u.prefix ≡ Less
  high u m =
      let w = Member-map_cases part u B m in
      let fails = back_fails test (IsBefore t.leaves t.nodes) falls w.0 t.index order w.2 in
      let fails' : is_lt (by_numbers u.prefix (pre ++ y ∷ [])) ≡ false = (λ i. is_lt (by_numbers (w.1 i).prefix (sym q_is i))) ∙ fails in
      let u_in : Member u old = subst (λ z. Member z old) (sym w.1) (Member-map part w.0 t.index (member_dropped k w.0 t.index w.2)) in
      let listed = (tree_has u.prefix u.excluded S (pair_in u u_in)).0 in
      let X_is = (tree_has pre n.excluded S (pair_in hole (here_in p r t is node n x stands carries))).1 in
      elim (by_numbers u.prefix (pre ++ y ∷ [])) as (λ o. by_numbers u.prefix (pre ++ y ∷ []) ≡ o → is_lt o ≡ false → by_numbers (pre ++ y ∷ []) u.prefix ≡ Less) [
        | Less ↦ λ _ h. absurd (true≢false h)
        | Equal ↦ λ e _.
            let same : u.prefix ≡ pre ++ y ∷ [] = lists_exact u.prefix (pre ++ y ∷ []) e in
            absurd (true≢false (sym (earlier_excludes S pre u.prefix y listed (ap (number_after pre) same ∙ number_after-snoc pre [] y)) ∙ ap (has nat_cmp y) (sym X_is) ∙ unused))
        | Greater ↦ λ e _. turned nat_list_cmp_total u.prefix (pre ++ y ∷ []) Greater e
      ] refl fails'

  -- ---- the parts then

  abbrev wide : List ℕ
  wide = wide_of n s

  abbrev found : Option RouteRecord
  found = best_of p r (take n.length s) wide

  abbrev new : List (Node A)
  new = fresh_nodes (best_of p r) (length t.leaves) q0 (drop (n.length + 1) s)

  abbrev nodes' : List (Node A)
  nodes' = modify (widened wide found) t.nodes node.0 ++ new

  abbrev leaves' : List RouteRecord
  leaves' = t.leaves ++ x ∷ []

  abbrev part' : NodeId → PartState
  part' = part_at leaves' nodes'

  other_part : (id : NodeId) → id.0 < length t.nodes → (id.0 ≡ node.0 → ⊥) → part' id ≡ part id
  other_part id l ne = ap (part_of leaves') (kept p r t is node wide found new id l ne) ∙ part_stable t.leaves x t.nodes (slice_get t.nodes id.0) id.0 is.lent refl

  wide_is : wide ≡ put_in nat_cmp y n.excluded
  wide_is = ap (λ z. put_in nat_cmp z n.excluded) (cut p r t is node n x stands carries).2.number

  front_is : take n.length s ≡ pre
  front_is = (cut p r t is node n x stands carries).2.front

  abbrev wide_part : PartState
  wide_part = record { prefix = pre; excluded = put_in nat_cmp y n.excluded; carried = least_in p r pre (put_in nat_cmp y n.excluded) }

  this_part : part' node ≡ wide_part
  this_part =
      ap (part_of leaves') (get_front (modify (widened wide found) t.nodes node.0) new node.0 (let l = node_within p r t is node n x stands carries in omega (arith, length-modify (widened wide found) t.nodes node.0)) ∙ get_same (widened wide found) t.nodes node.0 n stands)
      ∙ (λ i. record { prefix = prefix_stable t.leaves (x ∷ []) n (is.lent n (get_Member t.nodes node.0 n stands)) i; excluded = wide_is i; carried = (best_numbers p r (take n.length s) wide ∙ (λ j. least_in p r (front_is j) (wide_is j))) i })

  same_parts : (ids : List NodeId) → ((id : NodeId) → Member id ids → Member id t.index × (id.0 ≡ node.0 → ⊥)) → map part' ids ≡ map part ids
  same_parts [] f = refl
  same_parts (id ∷ ids) f = λ i. other_part id (is.known id (f id (inl refl)).0) (f id (inl refl)).1 i ∷ same_parts ids (λ w m. f w (inr m)) i

  -- other places of the index name other nodes
  order_is : InPairs (IsBefore t.leaves t.nodes) (F ++ node ∷ (M ++ B))
  order_is = subst (InPairs (IsBefore t.leaves t.nodes)) (index_is ∙ append_assoc F (node ∷ M) B) order

  never : IsBefore t.leaves t.nodes node node → ⊥
  never = Less-apart nat_list_cmp_total (part node).prefix

  other : (id : NodeId) → Member id F ⊎ Member id (M ++ B) → Member id t.index × (id.0 ≡ node.0 → ⊥)
  other id m = (
    subst (Member id) (sym (index_is ∙ append_assoc F (node ∷ M) B)) (elim m [ inl a ↦ Member-append_left id F (node ∷ (M ++ B)) a | inr b ↦ Member-append_right id F (node ∷ (M ++ B)) (inr b) ]),
    (λ e. elim m [
      | inl a ↦ never (subst (λ z. IsBefore t.leaves t.nodes z node) (same_node id node e) (pair_across (IsBefore t.leaves t.nodes) F (node ∷ (M ++ B)) id node order_is a (inl refl)))
      | inr b ↦ never (subst (IsBefore t.leaves t.nodes node) (same_node id node e) ((pairs_back (IsBefore t.leaves t.nodes) F (node ∷ (M ++ B)) order_is).0 id b))
    ]),
  )

  abbrev ids : List NodeId
  ids = ids_from (length t.nodes) (length new)

  new_parts : map part' ids ≡ fresh (least_in p r) (pre ++ y ∷ []) rest
  new_parts =
      let base : List (Node A) = modify (widened wide found) t.nodes node.0 in
      let long : length t.nodes ≡ length base = sym (length-modify (widened wide found) t.nodes node.0) in
      let after : drop (n.length + 1) s ≡ rest = (cut p r t is node n x stands carries).2.after in
      let all : x.contacts ≡ q0 ++ drop (n.length + 1) s = sym (take-append-drop (n.length + 1) s) in
      ap (λ m. map part' (ids_from m (length new))) long
      ∙ fresh_parts p r leaves' (length t.leaves) x (get_at_end t.leaves [] x) base q0 (drop (n.length + 1) s) (length new) all refl
      ∙ (λ i. fresh (least_in p r) (q_is i) (after i))

  parts_then : map part' (with_block k ids t.index) ≡ (map part F ++ wide_part ∷ map part M) ++ (fresh (least_in p r) (pre ++ y ∷ []) rest ++ map part B)
  parts_then =
      map-append part' (take k t.index ++ ids) B
      ∙ ap (λ z. z ++ map part' B) (map-append part' (take k t.index) ids ∙ ap (λ z. map part' z ++ map part' ids) parted.2 ∙ ap (λ z. z ++ map part' ids) (map-append part' F (node ∷ M)))
      ∙ (λ i. ((same_parts F (λ id m. other id (inl m)) i ++ this_part i ∷ same_parts M (λ id m. other id (inr (Member-append_left id M B m))) i) ++ new_parts i) ++ same_parts B (λ id m. other id (inr (Member-append_right id M B m))) i)
      ∙ append_assoc (map part F ++ wide_part ∷ map part M) (fresh (least_in p r) (pre ++ y ∷ []) rest) (map part B)

  parts_stepped : map part' (with_block k ids t.index) ≡ parts_after (is_route p r) (least_in p r) old s
  parts_stepped =
      parts_then
      ∙ divided_set (is_route p r) (least_in p r) S (map part F) (map part M) (map part B) pre n.excluded (Some s) y rest (ap (map pair_of) (sym old_is) ∙ is_tree) unused low high
      ∙ (λ i. map (carry (is_route p r) (least_in p r) (sym old_is i)) (tree (put_in by_numbers (sym whole i) S)))

  -- the state then
  pub shown_divided : shown (divided_with (best_of p r) t node n x) ≡ (given (is_route p r) (least_in p r) (shown t) s).1
  shown_divided =
      let count : length leaves' ≡ length t.leaves + 1 = omega (arith, length-append t.leaves (x ∷ [])) in
      λ i. record { emitted = count i; last = contacts_in (get_at_end t.leaves [] x i); parts = parts_stepped i }
