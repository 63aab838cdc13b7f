-- A sound tree stays sound where a node's route is given, and the undo of that gives the tree back.
use Rattle.sabr_frontier.proofs.Names.{◌≡◌, ℕ, ◌+◌, ◌<◌, nat_lt, List, [], ◌∷◌, ◌++◌, length, take, drop, refl, sym, ap, subst, ◌∙◌, ◌⊎◌, inl, inr, arith, Option, Some, append_assoc, length-append, slice_index, Bool, true, cond, filter, append-nil, map, None, slice_get, slice_index_or, cases_lt, lt-ltb, get_or_from_slice_get, put_in, by_numbers, ContactPlan, IsPlan, RouteRequest, is_route, is_path, is_prefix, least_in, RouteRecord, record_of, empty_is_prefix, NodeId, Node, Member, IsState, leaves_in, Shape, shown, part_at, prefix_of, numbers_of, root, modify, undone, CanUndo, IsIndexed, given_back, undone_by, passing, widened, wide_of, fresh_nodes, ids_from, divided_with, changed_by, with_block, IsTree, IsLent, AreGiven, nat_tests, filter-append, option_map, seen_part}
use Rattle.std.proofs.Common.{take_at, take-append-drop}
use Rattle.std.specs.Prelude.{not, nat_eq}
use Rattle.sabr_frontier.specs.listing.Listing.{state_at}
use Rattle.sabr_frontier.specs.tree.Best.{best_of}
use Rattle.sabr_frontier.specs.tree.Giving.{stands_before}
use Rattle.sabr_frontier.proofs.ListingLemmas.ListMembers.{filter_none, Member-append_left, Member-append_right, Member-append_cases}
use Rattle.sabr_frontier.proofs.ListingLemmas.ClosedTrees.{In-put_in, put_in-In, In_Member, Member_In}
use Rattle.sabr_frontier.proofs.ListingLemmas.FormedSteps.{formed_after, leaves_after, formed_start}
use Rattle.sabr_frontier.proofs.TreeLemmas.ListFronts.{forget-put_in}
use Rattle.sabr_frontier.proofs.ListingLemmas.AllRoutes.{route_filled, routes_apart, route_chains, route_fits, least_some}
use Rattle.sabr_frontier.proofs.TreeLemmas.ModifiedPlaces.{length-modify, last_item_push, front_push, modify_twice, modify_back, get_Member, get_at_end, get_same, modify_cases, member_cut, member_taken, member_dropped, ids_cases, ids_has, same_node}
use Rattle.sabr_frontier.proofs.TreeLemmas.CarryingNodes.{lent_stable, node_within, here, here_in, cut, can_exclude, record_is, told_back, shown_divided, best_numbers}
use Rattle.sabr_frontier.proofs.TreeLemmas.IndexedNodes.{tree_indexed}
use Rattle.sabr_frontier.proofs.TreeLemmas.Floors.{divided_least}
use Rattle.sabr_frontier.specs.declared.tree.Entry.{Entry}
use Rattle.sabr_frontier.specs.session.Views.{seen_at, seen_node}

-- ---- taking a route and undoing it give back the tree, on the nose

pub filter_all : {X : Type 0} (p : X → Bool) (xs : List X) → ((x : X) → Member x xs → p x ≡ true) → filter p xs ≡ xs
filter_all p [] h = refl
filter_all p (x ∷ xs) h = ap (λ b. cond b (x ∷ filter p xs) (filter p xs)) (h x (inl refl)) ∙ ap (λ t. x ∷ t) (filter_all p xs (λ y m. h y (inr m)))

module _ {A : Type 0} (t : Shape A) (node : NodeId) (part : Node A) (r : RouteRecord) (wide : List ℕ) (found : Option RouteRecord) (fresh : List (Node A)) (place : ℕ)
    (stands : slice_get t.nodes node.0 ≡ Some part)
    (carries : part.route ≡ Some r)
    (forgets : filter (λ y. not (nat_eq y (slice_index r.contacts part.length))) wide ≡ part.excluded)
    (known : (id : NodeId) → Member id t.index → nat_lt id.0 (length t.nodes) ≡ true) where
  abbrev entry : Entry
  entry = record { node = node; nodes = length t.nodes; last = t.last }

  -- the tree once the route is
  abbrev after : Shape A
  after = changed_by t node r (length t.nodes) (with_block place (ids_from (length t.nodes) (length fresh)) t.index) (modify (widened wide found) t.nodes node.0 ++ fresh)

  nodes_back : modify (given_back r) (take (length t.nodes) (modify (widened wide found) t.nodes node.0 ++ fresh)) node.0 ≡ t.nodes
  nodes_back = ap (λ z. modify (given_back r) z node.0) (take_at (modify (widened wide found) t.nodes node.0) fresh (length t.nodes) (length-modify (widened wide found) t.nodes node.0))
      ∙ modify_twice (widened wide found) (given_back r) t.nodes node.0
      ∙ modify_back (λ n. given_back r (widened wide found n)) t.nodes node.0 part stands (λ i. record { leaf = part.leaf; length = part.length; excluded = forgets i; route = sym carries i })

  index_back : filter (λ (id : NodeId). nat_lt id.0 (length t.nodes)) after.index ≡ t.index
  index_back =
      let p : NodeId → Bool = λ id. nat_lt id.0 (length t.nodes) in
      let block : List NodeId = ids_from (length t.nodes) (length fresh) in
      filter-append p (take place t.index ++ block) (drop place t.index)
      ∙ ap (λ z. z ++ filter p (drop place t.index)) (filter-append p (take place t.index) block ∙ ap (λ z. filter p (take place t.index) ++ z) (filter_none p block (λ id m. let l = (ids_cases id (length t.nodes) (length fresh) m).0 in grind (arith, nat_tests))) ∙ append-nil (filter p (take place t.index)))
      ∙ sym (filter-append p (take place t.index) (drop place t.index)) ∙ ap (filter p) (take-append-drop place t.index) ∙ filter_all p t.index known

  pub undone-after : undone after ≡ t
  undone-after =
      let base : undone after ≡ undone_by after (Some entry) (Some r) = λ i. undone_by after (last_item_push after.journal t.journal entry refl i) (last_item_push after.leaves t.leaves r refl i) in
      base ∙ (λ i. record { nodes = nodes_back i; index = index_back i; leaves = front_push after.leaves t.leaves r refl i; last = t.last; journal = front_push after.journal t.journal entry refl i; is_searched = t.is_searched })

-- ---- what the searches' records are

pub best_is : (p : ContactPlan) (r : RouteRequest) (q X : List ℕ) (x : RouteRecord) → best_of p r q X ≡ Some x → x ≡ record_of p r x.contacts
unfolding best_of
best_is p r q X x e = told_back p r (least_in p r q X) x e

fresh_records : {A : Type 0} (p : ContactPlan) (r : RouteRequest) (leaf : ℕ) (q rest : List ℕ) (n : Node A) (x : RouteRecord) → Member n (fresh_nodes (best_of p r) leaf q rest) → n.route ≡ Some x → x ≡ record_of p r x.contacts
fresh_records p r leaf q [] n x m e = absurd m
fresh_records {A} p r leaf q (y ∷ rest) n x (inl h) e = best_is p r q (y ∷ []) x (sym (ap (λ (z : Node A). z.route) h) ∙ e)
fresh_records p r leaf q (y ∷ rest) n x (inr m) e = fresh_records p r leaf (q ++ y ∷ []) rest n x m e

fresh_lent : {A : Type 0} (p : ContactPlan) (r : RouteRequest) (leaves : List RouteRecord) (leaf : ℕ) (x : RouteRecord) (is : slice_get leaves leaf ≡ Some x) (q rest : List ℕ) (n : Node A) → x.contacts ≡ q ++ rest → Member n (fresh_nodes (best_of p r) leaf q rest) → IsLent leaves n
fresh_lent p r leaves leaf x is q [] n e m = absurd m
fresh_lent {A} p r leaves leaf x is q (y ∷ rest) n e (inl h) =
    let l : n.leaf ≡ leaf = ap (λ (z : Node A). z.leaf) h in
    let d : n.length ≡ length q = ap (λ (z : Node A). z.length) h in
    inr (x, ap (slice_get leaves) l ∙ is, omega (arith, d, ap length e, length-append q (y ∷ rest)))
fresh_lent p r leaves leaf x is q (y ∷ rest) n e (inr m) = fresh_lent p r leaves leaf x is (q ++ y ∷ []) rest n (e ∙ sym (append_assoc q (y ∷ []) rest)) m

module _ {A : Type 0} (p : ContactPlan) (r : RouteRequest) (good : IsPlan p) (t : Shape A) (is : IsTree p r t) (node : NodeId)
    (n : Node A) (x : RouteRecord) (stands : slice_get t.nodes node.0 ≡ Some n) (carries : n.route ≡ Some x) where
  abbrev D : Shape A
  D = divided_with (best_of p r) t node n x

  abbrev s : List ℕ
  s = x.contacts

  abbrev q0 : List ℕ
  q0 = take (n.length + 1) s

  abbrev wide : List ℕ
  wide = wide_of n s

  abbrev found : Option RouteRecord
  found = best_of p r (take n.length s) wide

  abbrev new : List (Node A)
  new = fresh_nodes (best_of p r) (length t.leaves) q0 (drop (n.length + 1) s)

  abbrev N : ℕ
  N = length t.nodes

  abbrev ids : List NodeId
  ids = ids_from N (length new)

  abbrev k : ℕ
  k = passing (stands_before t.leaves t.nodes q0) t.index

  within_node : node.0 < N
  within_node = node_within p r t is node n x stands carries

  count : length D.nodes ≡ N + length new
  count = omega (arith, length-append (modify (widened wide found) t.nodes node.0) new, length-modify (widened wide found) t.nodes node.0)

  formed_then : IsState p r (shown D)
  formed_then = subst (IsState p r) (sym (shown_divided p r t is node n x stands carries))
      (formed_after (is_route p r) (is_path p r) (is_prefix p r) (routes_apart p r) (route_filled p r) (route_chains p r) (route_fits p r) (empty_is_prefix p r) (least_in p r)
      (λ q X u e. let w = least_some p r good q X u e in (w.0, w.1)) (shown t) is.formed (here p r t is node n x stands carries) s (here_in p r t is node n x stands carries) refl)

  leaves_then : leaves_in p r (shown D) ≡ put_in by_numbers s (leaves_in p r (shown t))
  leaves_then = ap (leaves_in p r) (shown_divided p r t is node n x stands carries)
      ∙ leaves_after (is_route p r) (is_path p r) (is_prefix p r) (routes_apart p r) (route_filled p r) (route_chains p r) (route_fits p r) (empty_is_prefix p r) (least_in p r)
      (λ q X u e. let w = least_some p r good q X u e in (w.0, w.1)) (shown t) is.formed (here p r t is node n x stands carries) s (here_in p r t is node n x stands carries) refl

  leaf_then : (l : List ℕ) → (l ≡ s) ⊎ Member l (leaves_in p r (shown t)) → Member l (leaves_in p r (shown D))
  leaf_then l m = subst (Member l) (sym leaves_then) (Member_In l (put_in by_numbers s (leaves_in p r (shown t))) (put_in-In l s (leaves_in p r (shown t)) (elim m [ inl e ↦ inl e | inr k ↦ inr (In_Member l (leaves_in p r (shown t)) k) ])))

  given_then : AreGiven p r D
  given_then = record {
    counted = λ z m. elim (Member-append_cases z t.leaves (x ∷ []) m) [
      | inl a ↦ (let w = is.given.counted z a in (w.0, leaf_then z.contacts (inr w.1)))
      | inr a ↦ elim a [
        | inl e ↦ (e ∙ record_is p r t is node n x stands carries ∙ ap (λ (k : RouteRecord). record_of p r k.contacts) (sym e), leaf_then z.contacts (inl (ap (λ (k : RouteRecord). k.contacts) e)))
        | inr b ↦ absurd b
      ]
    ];
    recorded = λ l m. elim (In-put_in l s (leaves_in p r (shown t)) (In_Member l (put_in by_numbers s (leaves_in p r (shown t))) (subst (Member l) leaves_then m))) [
      | inl e ↦ Member-append_right (record_of p r l) t.leaves (x ∷ []) (inl (ap (record_of p r) e ∙ sym (record_is p r t is node n x stands carries)))
      | inr a ↦ Member-append_left (record_of p r l) t.leaves (x ∷ []) (is.given.recorded l (Member_In l (leaves_in p r (shown t)) a))
    ];
  }

  index_cases : (id : NodeId) → Member id D.index → Member id t.index ⊎ Member id ids
  index_cases id m = elim (Member-append_cases id (take k t.index ++ ids) (drop k t.index) m) [
    | inl a ↦ elim (Member-append_cases id (take k t.index) ids a) [ inl b ↦ inl (member_taken k id t.index b) | inr b ↦ inr b ]
    | inr a ↦ inl (member_dropped k id t.index a)
  ]

  index_has : (id : NodeId) → Member id t.index ⊎ Member id ids → Member id D.index
  index_has id m = elim m [
    | inl a ↦ elim (member_cut k id t.index a) [
      | inl b ↦ Member-append_left id (take k t.index ++ ids) (drop k t.index) (Member-append_left id (take k t.index) ids b)
      | inr b ↦ Member-append_right id (take k t.index ++ ids) (drop k t.index) b
    ]
    | inr a ↦ Member-append_left id (take k t.index ++ ids) (drop k t.index) (Member-append_right id (take k t.index) ids a)
  ]

  pub tree_divided : IsTree p r D
  tree_divided = record {
    formed = formed_then;
    known = λ id m. elim (index_cases id m) [
      | inl a ↦ (let l = is.known id a in omega (arith, count))
      | inr a ↦ (let w = ids_cases id N (length new) a in let l = w.1 in omega (arith, count))
    ];
    listed = λ id l. index_has id (elim (cases_lt id.0 N) [
      | inl a ↦ inl (is.listed id a)
      | inr a ↦ inr (ids_has id N (length new) a (omega (arith, count)))
    ]);
    lent = λ k m. elim (Member-append_cases k (modify (widened wide found) t.nodes node.0) new m) [
      | inl a ↦ elim (modify_cases (widened wide found) t.nodes node.0 k a) [
        | inl b ↦ lent_stable t.leaves (x ∷ []) k (is.lent k b)
        | inr w ↦ subst (IsLent (t.leaves ++ x ∷ [])) (sym w.2) (lent_stable t.leaves (x ∷ []) (widened wide found w.0) (is.lent w.0 (get_Member t.nodes node.0 w.0 w.1)))
      ]
      | inr a ↦ fresh_lent p r (t.leaves ++ x ∷ []) (length t.leaves) x (get_at_end t.leaves [] x) q0 (drop (n.length + 1) s) k (sym (take-append-drop (n.length + 1) s)) a
    ];
    records = λ k z m e. elim (Member-append_cases k (modify (widened wide found) t.nodes node.0) new m) [
      | inl a ↦ elim (modify_cases (widened wide found) t.nodes node.0 k a) [
        | inl b ↦ is.records k z b e
        | inr w ↦ best_is p r (take n.length s) wide z (sym (ap (λ (v : Node A). v.route) w.2) ∙ e)
      ]
      | inr a ↦ fresh_records p r (length t.leaves) q0 (drop (n.length + 1) s) k z a e
    ];
    given = given_then;
    least = λ yes. divided_least p r t is node n x stands carries (is.least yes);
  }

  -- ---- and back

  forgets : filter (λ y. not (nat_eq y (slice_index s n.length))) wide ≡ n.excluded
  forgets = forget-put_in (slice_index s n.length) n.excluded (can_exclude p r t is node n x stands carries).absent

  pub undone_divided : undone D ≡ t
  undone_divided = undone-after t node n x wide found new k stands carries forgets (λ id m. lt-ltb id.0 N (is.known id m))

  pub can_undo : CanUndo D
  can_undo = record {
    entry = record { node = node; nodes = N; last = t.last };
    route = x;
    entry_is = last_item_push D.journal t.journal (record { node = node; nodes = N; last = t.last }) refl;
    route_is = last_item_push D.leaves t.leaves x refl;
    in_range = within_node;
    counted = omega (arith, count);
    longer = λ k. subst (λ (z : Node A). z.length < length s) (sym (ap (λ z. slice_index_or z node.0 k) (take_at (modify (widened wide found) t.nodes node.0) new N (length-modify (widened wide found) t.nodes node.0))
        ∙ get_or_from_slice_get (modify (widened wide found) t.nodes node.0) node.0 (widened wide found n) k (get_same (widened wide found) t.nodes node.0 n stands))) (cut p r t is node n x stands carries).2.inside;
    indexed = subst IsIndexed (sym undone_divided) (tree_indexed p r t is);
  }

-- ---- the tree before any route is given is sound, and represents the first state

pub shown_root : (A : Type 0) (p : ContactPlan) (r : RouteRequest) → shown (root {A = A} (best_of p r [] [])) ≡ state_at p r 0
unfolding state_at
shown_root A p r = λ i. record { emitted = 0; last = []; parts = record { prefix = []; excluded = []; carried = best_numbers p r [] [] i } ∷ [] }

pub first_formed : (p : ContactPlan) (r : RouteRequest) → IsPlan p → IsState p r (state_at p r 0)
unfolding state_at
first_formed p r good = formed_start (is_route p r) (is_path p r) (is_prefix p r) (routes_apart p r) (route_filled p r) (route_chains p r) (route_fits p r) (empty_is_prefix p r) (least_in p r)
    (λ q X u e. let w = least_some p r good q X u e in (w.0, w.1))

first_only : (id : NodeId) → id.0 < 1 → id ≡ record { 0 = 0 }
first_only id l = same_node id (record { 0 = 0 }) (omega arith)

module _ (A : Type 0) (p : ContactPlan) (r : RouteRequest) (good : IsPlan p) where
  pub root_is_tree : IsTree p r (root {A = A} (best_of p r [] []))
  root_is_tree = record {
    formed = subst (IsState p r) (sym (shown_root A p r)) (first_formed p r good);
    known = λ id m. elim m [ inl e ↦ (let a : id.0 ≡ 0 = ap (λ (z : NodeId). z.0) e in omega arith) | inr z ↦ absurd z ];
    listed = λ id l. inl (first_only id l);
    lent = λ n m. elim m [ inl e ↦ inl (ap (λ (z : Node A). z.length) e) | inr z ↦ absurd z ];
    records = λ n x m e. elim m [ inl h ↦ best_is p r [] [] x (sym (ap (λ (z : Node A). z.route) h) ∙ e) | inr z ↦ absurd z ];
    given = record { counted = λ x m. absurd m; recorded = λ s m. m };
    least = λ _ n x m e. elim m [ inl h ↦ subst (λ (z : Node A). z.route ≡ Some x → best_of p r (prefix_of [] z) z.excluded ≡ Some x) (sym h) (λ c. c) e | inr z ↦ absurd z ];
  }

-- ---- what is seen of the parts

module _ {A : Type 0} (p : ContactPlan) (r : RouteRequest) (t : Shape A) (is : IsTree p r t) where
  pub seen_route : (n : Node A) (o : Option RouteRecord) → Member n t.nodes → n.route ≡ o → o ≡ option_map (record_of p r) (option_map numbers_of o)
  seen_route n None m e = refl
  seen_route n (Some x) m e = ap Some (is.records n x m e)

  seen_one : (id : NodeId) → seen_at t.leaves t.nodes id ≡ seen_part p r (part_at t.leaves t.nodes id)
  seen_one id = elim (slice_get t.nodes id.0) as (λ o. slice_get t.nodes id.0 ≡ o → seen_node t.leaves o ≡ seen_part p r (Rattle.sabr_frontier.specs.tree.Shape.part_of t.leaves o)) [
    | None ↦ λ _. refl
    | Some n ↦ λ e. let w = seen_route n n.route (get_Member t.nodes id.0 n e) refl in λ i. record { prefix = prefix_of t.leaves n; excluded = n.excluded; route = w i }
  ] refl

  pub seen_all : (ids : List NodeId) → map (seen_at t.leaves t.nodes) ids ≡ map (seen_part p r) (map (part_at t.leaves t.nodes) ids)
  seen_all [] = refl
  seen_all (id ∷ ids) = λ i. seen_one id i ∷ seen_all ids i
