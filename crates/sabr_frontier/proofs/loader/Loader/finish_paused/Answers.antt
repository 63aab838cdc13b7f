use Rattle.sabr_frontier.proofs.Names.{◌≡◌, ℕ, List, true, Ok, Err, ap, sym, subst, ◌∙◌, suc, ◌+◌, ◌≤◌, Bool, false, cond, not, [], ◌∷◌, ◌++◌, map, flat_map, take, length, refl, ◌⊎◌, inl, inr, arith, true≢false, Option, Some, append_assoc, length-append, IfErr, Result, slice_get, TabledPlan, ContactPlan, RouteRequest, RouteRecord, record_of, Calls, LoadFault, NoMemory, IsPausedOver, seen_over, IsState, leaves_in, IsClosedState, IsCounted, IsRefusedBy, Loaded, session_with, state_with, session_over, shown, Shape, front_of, numbers_of, part_at, part_of, prefix_of, IsTree, AreGiven, IsLent, IsLastPlace, IsLoader, partial_shape_of, is_complete, loaded, loaded_tree, PartialShape, IsAnswered, IsGiven, IsPartial, nodes_of, onward, Expects, cases_Bool, option_map, nat_cmp, Less, nat_list_cmp_total, nat_cmp_total, length-map, nil_from_length, map-append, by_numbers, number_after, is_path, is_route, NodeId, Node, has, Rises, set_of, PartState, pair_of, Member, leaves, leaves_of, InPairs, InOrder, ids_from, take-append_seam, number_after_some}
use Rattle.std.specs.Prelude.{Option}
use Rattle.std.specs.Result.{IsErrAnd}
use Rattle.sabr_frontier.specs.declared.loader.partial_tree.PartialTree.{PartialTree}
use Rattle.sabr_frontier.proofs.LoadingLemmas.LoadedParts.{complete_closed, incomplete_open, complete_expects}
use Rattle.sabr_frontier.proofs.TreeLemmas.IndexedNodes.{tree_indexed}
use Rattle.sabr_frontier.proofs.ListingLemmas.ListMembers.{pairs_two, length-put_in, Member-map, Member-map_cases, Member-filter_cases, Member-flat_map_cases, Below-member, Less-apart}
use Rattle.sabr_frontier.proofs.ListingLemmas.NumbersAfter.{number_after-snoc, number_after-of_longer}
use Rattle.sabr_frontier.proofs.ListingLemmas.ClosedTrees.{In_Member, Member_In, set_of_has, has_set_of, last_same, Pairs, not_empty}
use Rattle.sabr_frontier.proofs.TreeLemmas.CarryingNodes.{front_none, numbers_back, told_back}
use Rattle.sabr_frontier.proofs.TreeLemmas.ModifiedPlaces.{get_at_end, ids_cases, ids_has}
use Rattle.sabr_frontier.proofs.loader.Loader.finish_paused.Goals as goal

-- ---- the tree of closed parts is sound, and represents the state that they make

module _ (route path : List ℕ → Bool) where
  leaf_is : (s : List ℕ) (e : List ℕ × List ℕ) → Member s (leaves_of route e) → (x : ℕ) × (s ≡ e.0 ++ x ∷ []) × Member x e.1
  leaf_is s e m = Member-map_cases (λ x. e.0 ++ x ∷ []) s e.1 (Member-filter_cases route s (map (λ x. e.0 ++ x ∷ []) e.1) m).1

  -- if no number makes a leaf, the first number asks for more
  first_onward : (e : List ℕ × List ℕ) (x : ℕ) → has nat_cmp x e.1 ≡ true → leaves_of route e ≡ [] → (y : ℕ) × (more : List (List ℕ)) × (onward route path e ≡ (e.0 ++ y ∷ []) ∷ more)
  first_onward e x h none = at e.1 h none
    where
      at : (X : List ℕ) → has nat_cmp x X ≡ true → leaves_of route (e.0, X) ≡ [] → (y : ℕ) × (more : List (List ℕ)) × (onward route path (e.0, X) ≡ (e.0 ++ y ∷ []) ∷ more)
      at [] h none = absurd (true≢false (sym h))
      at (y ∷ X) h none = elim (route (e.0 ++ y ∷ [])) as (λ b. cond b ((e.0 ++ y ∷ []) ∷ leaves_of route (e.0, X)) (leaves_of route (e.0, X)) ≡ [] → (z : ℕ) × (more : List (List ℕ)) × (cond (not b) ((e.0 ++ y ∷ []) ∷ onward route path (e.0, X)) (onward route path (e.0, X)) ≡ (e.0 ++ z ∷ []) ∷ more)) [
        | true ↦ λ k. absurd cc
        | false ↦ λ k. (y, onward route path (e.0, X), refl)
      ] none

  -- the first leaf of a pair and those after it goes on after the pair's prefix
  first_leaf : (e : List ℕ × List ℕ) (own : List (List ℕ)) → leaves_of route e ≡ own → (T : Pairs) (os : List (List ℕ)) → Expects route path os (e ∷ T) [] → (x : ℕ) → has nat_cmp x e.1 ≡ true → (s : List ℕ) × (more : List (List ℕ)) × (n : ℕ) × (flat_map (leaves_of route) (e ∷ T) ≡ s ∷ more) × (number_after e.0 s ≡ Some n)
  first_leaf e (s ∷ own) k T os w x h =
      let v = leaf_is s e (subst (Member s) (sym k) (inl refl)) in
      (s, own ++ flat_map (leaves_of route) T, v.0, ap (λ z. z ++ flat_map (leaves_of route) T) k, ap (number_after e.0) v.1 ∙ number_after-snoc e.0 [] v.0)
  first_leaf e [] k [] os w x h =
      let v = first_onward e x h k in
      let z : ((e.0 ++ v.0 ∷ []) ∷ v.1) ++ w.0 ≡ [] = sym (ap (λ z. z ++ w.0) v.2) ∙ w.3 in
      absurd cc
  first_leaf e [] k (f ∷ T) os w x h =
      let v = first_onward e x h k in
      let o = w.3 in
      let is : (e.0 ++ v.0 ∷ []) ∷ (v.1 ++ w.0) ≡ f.0 ∷ o.0 = sym (ap (λ z. z ++ w.0) v.2) ∙ o.1 in
      let same : f.0 ≡ e.0 ++ v.0 ∷ [] = cc in
      elim o.2.busy [
        | inl z ↦ absurd (not_empty e.0 v.0 (sym same ∙ z))
        | inr b ↦
            let u = first_leaf f (leaves_of route f) refl T (onward route path e ++ w.0) o b.0 b.1 in
            (u.0, u.1, v.0, ap (λ z. z ++ flat_map (leaves_of route) (f ∷ T)) k ∙ u.3, number_after-of_longer e.0 u.0 v.0 u.2 (ap (λ z. number_after z u.0) (sym same) ∙ u.4))
      ]

-- ---- the nodes have their prefixes

module _ (p : ContactPlan) (r : RouteRequest) (L : List RouteRecord) where
  abbrev route : List ℕ → Bool
  route = is_route p r

  abbrev path : List ℕ → Bool
  path = is_path p r

  begins : (q s : List ℕ) (n : ℕ) → number_after q s ≡ Some n → (take (length q) s ≡ q) × (length q ≤ length s)
  begins q s n h = let w = number_after_some q s n h in (ap (take (length q)) w.1 ∙ take-append_seam q (n ∷ w.0), omega (arith, ap (length {A = ℕ}) w.1, length-append q (n ∷ w.0)))

  -- a node of a prefix, whose leaf is the first of these
  one_lent : {A : Type 0} (q : List ℕ) (n : Node A) (T : Pairs) (os : List (List ℕ)) (F : List RouteRecord) → n.leaf ≡ length F → n.length ≡ length q → L ≡ F ++ map (record_of p r) (flat_map (leaves_of route) ((q, n.excluded) ∷ T)) → Expects route path os ((q, n.excluded) ∷ T) [] → (prefix_of L n ≡ q) × IsLent L n
  one_lent q n T os F leaf len is w = elim w.2.busy [
    | inl e ↦
        let none : n.length ≡ 0 = len ∙ ap (length {A = ℕ}) e in
        (front_none (slice_get L n.leaf) n.length none ∙ sym e, inl none)
    | inr b ↦
        let v = first_leaf route path (q, n.excluded) (leaves_of route (q, n.excluded)) refl T os w b.0 b.1 in
        let there : slice_get L n.leaf ≡ Some (record_of p r v.0) = (λ i. slice_get (is i) (leaf i)) ∙ ap (λ z. slice_get (F ++ map (record_of p r) z) (length F)) v.3 ∙ get_at_end F (map (record_of p r) v.1) (record_of p r v.0) in
        let k = begins q v.0 v.2 v.4 in
        ((λ i. front_of (there i) (len i)) ∙ k.0, inr (record_of p r v.0, there, omega (arith, len, k.1)))
  ]

  -- all of them
  all_lent : {A : Type 0} (ts : List PartState) (c : ℕ) (os : List (List ℕ)) (F : List RouteRecord) → c ≡ length F → L ≡ F ++ map (record_of p r) (flat_map (leaves_of route) (map pair_of ts)) → Expects route path os (map pair_of ts) [] → (map (λ n. part_of L (Some n)) (nodes_of {A = A} p r c ts) ≡ ts) × ((n : Node A) → Member n (nodes_of p r c ts) → IsLent L n)
  all_lent [] c os F e is w = (refl, λ n m. absurd m)
  all_lent {A} (t ∷ ts) c os F e is w =
      let T : Pairs = map pair_of ts in
      let own : List (List ℕ) = leaves_of route (pair_of t) in
      let one = one_lent {A = A} t.prefix (record { leaf = c; length = length t.prefix; excluded = t.excluded; route = option_map (record_of p r) t.carried }) T os F e refl is w in
      let next : L ≡ (F ++ map (record_of p r) own) ++ map (record_of p r) (flat_map (leaves_of route) T) =
      is ∙ ap (λ z. F ++ z) (map-append (record_of p r) own (flat_map (leaves_of route) T)) ∙ sym (append_assoc F (map (record_of p r) own) (map (record_of p r) (flat_map (leaves_of route) T))) in
      let count : c + length own ≡ length (F ++ map (record_of p r) own) = omega (arith, e, length-append F (map (record_of p r) own), length-map own (record_of p r)) in
      let rest = all_lent {A = A} ts (c + length own) (onward route path (pair_of t) ++ w.0) (F ++ map (record_of p r) own) count next w.3 in (
        (λ i. record { prefix = one.0 i; excluded = t.excluded; carried = numbers_back p r t.carried i } ∷ rest.0 i),
        (λ m k. elim k [ inl same ↦ subst (IsLent L) (sym same) one.1 | inr b ↦ rest.1 m b ]),
      )

  -- each carries the record of its route
  all_recorded : {A : Type 0} (ts : List PartState) (c : ℕ) (n : Node A) (x : RouteRecord) → Member n (nodes_of p r c ts) → n.route ≡ Some x → x ≡ record_of p r x.contacts
  all_recorded [] c n x m e = absurd m
  all_recorded {A} (t ∷ ts) c n x (inl same) e = told_back p r t.carried x (sym (ap (λ (z : Node A). z.route) same) ∙ e)
  all_recorded (t ∷ ts) c n x (inr m) e = all_recorded ts (c + length (leaves_of route (pair_of t))) n x m e

-- the parts by the numbers of their nodes
parts_by_ids : {A : Type 0} (L : List RouteRecord) (front ns : List (Node A)) → map (part_at L (front ++ ns)) (ids_from (length front) (length ns)) ≡ map (λ n. part_of L (Some n)) ns
parts_by_ids L front [] = refl
parts_by_ids L front (n ∷ ns) =
    let one : part_at L (front ++ n ∷ ns) (record { 0 = length front }) ≡ part_of L (Some n) = ap (part_of L) (get_at_end front ns n) in
    let count : suc (length front) ≡ length (front ++ n ∷ []) = omega (arith, length-append front (n ∷ [])) in
    let rest : map (part_at L (front ++ n ∷ ns)) (ids_from (suc (length front)) (length ns)) ≡ map (λ n. part_of L (Some n)) ns =
    (λ i. map (part_at L (sym (append_assoc front (n ∷ []) ns) i)) (ids_from (count i) (length ns))) ∙ parts_by_ids L (front ++ n ∷ []) ns in
    λ i. one i ∷ rest i

-- ---- the leaves are counted

apart_length : (S : List (List ℕ)) → InPairs (λ a b. a ≡ b → ⊥) S → length (set_of S) ≡ length S
apart_length [] h = refl
apart_length (s ∷ S) h =
    let new : has by_numbers s (set_of S) ≡ false = elim (cases_Bool (has by_numbers s (set_of S))) [
      | inl k ↦ absurd (h.0 s (Member_In s S (set_of_has s S k)) refl)
      | inr k ↦ k
    ] in
    length-put_in nat_list_cmp_total s (set_of S) new ∙ ap (λ n. n + 1) (apart_length S h.1) ∙ (let one : length S + 1 ≡ suc (length S) = omega arith in one)

module _ (route : List ℕ → Bool) where
  own_apart : (q X : List ℕ) → Rises nat_cmp X → InPairs (λ a b. a ≡ b → ⊥) (leaves_of route (q, X))
  own_apart q [] h = tt
  own_apart q (x ∷ X) h = elim (route (q ++ x ∷ [])) as (λ b. InPairs (λ a b. a ≡ b → ⊥) (cond b ((q ++ x ∷ []) ∷ leaves_of route (q, X)) (leaves_of route (q, X)))) [
    | true ↦ (
      (λ s m same.
          let w = leaf_is route route s (q, X) m in
          Less-apart nat_cmp_total x (subst (λ z. nat_cmp x z ≡ Less) (sym (last_same q q x w.0 (same ∙ w.1)).1) (Below-member nat_cmp_total x w.0 X h.0 w.2))),
      own_apart q X h.1,
    )
    | false ↦ own_apart q X h.1
  ]

  leaves_apart : (T : Pairs) → InOrder T → InPairs (λ a b. a ≡ b → ⊥) (flat_map (leaves_of route) T)
  leaves_apart [] order = tt
  leaves_apart (e ∷ T) order = pairs_two (λ a b. a ≡ b → ⊥) (leaves_of route e) (flat_map (leaves_of route) T)
      (own_apart e.0 e.1 (order.numbers e.0 e.1 (inl refl)))
      (leaves_apart T (record { by_prefix = order.by_prefix.1; numbers = λ q X m. order.numbers q X (inr m) }))
      (λ a b m k same.
      let w = leaf_is route route a e m in
      let v = Member-flat_map_cases (leaves_of route) b T k in
      let u = leaf_is route route b v.0 v.2 in
      Less-apart nat_list_cmp_total e.0 (subst (λ z. by_numbers e.0 z ≡ Less) (sym (last_same e.0 v.0.0 w.0 u.0 (sym w.1 ∙ same ∙ u.1)).0)
      (Below-member nat_list_cmp_total e.0 v.0.0 (map (λ (e : List ℕ × List ℕ). e.0) T) order.by_prefix.0 (Member-map (λ (e : List ℕ × List ℕ). e.0) v.0 T v.1))))

  leaves_counted : (T : Pairs) → InOrder T → length (leaves route T) ≡ length (flat_map (leaves_of route) T)
  leaves_counted T order = apart_length (flat_map (leaves_of route) T) (leaves_apart T order)

-- ---- the last is one of them

module _ {A : Type 0} (p : ContactPlan) (r : RouteRequest) (parts : List PartState) (h : PartialShape A) (partial : IsPartial p r parts h) (complete : is_complete h ≡ true) where
  abbrev T : Pairs
  T = map pair_of parts

  abbrev S : List (List ℕ)
  S = flat_map (leaves_of (is_route p r)) T

  sound : h.sound ≡ true
  sound = (Rattle.std.proofs.lemmas.Bool.and_parts h.sound _ complete).0

  answered : IsAnswered p r parts h
  answered = partial.answered sound

  count : length h.leaves ≡ length (leaves (is_route p r) T)
  count = ap (length {A = RouteRecord}) answered.leaves ∙ length-map S (record_of p r) ∙ sym (leaves_counted (is_route p r) T partial.order)

  given_right : (last : List ℕ) → IsGiven h.leaves last → ((last ≡ []) × (leaves (is_route p r) T ≡ [])) ⊎ (has by_numbers last (leaves (is_route p r) T) ≡ true)
  given_right last (inl w) = inl (w.0, ap set_of (nil_from_length S (sym (length-map S (record_of p r)) ∙ ap (length {A = RouteRecord}) (sym answered.leaves ∙ w.1))))
  given_right last (inr w) =
      let v = Member-map_cases (record_of p r) w.0 S (subst (Member w.0) answered.leaves w.1) in
      let same : v.0 ≡ last = sym (ap numbers_of v.1) ∙ w.2 in
      inr (has_set_of last S (In_Member last S (subst (λ z. Member z S) same v.2)))

  right_given : (last : List ℕ) → ((last ≡ []) × (leaves (is_route p r) T ≡ [])) ⊎ (has by_numbers last (leaves (is_route p r) T) ≡ true) → IsGiven h.leaves last
  right_given last (inl w) = inl (w.0, nil_from_length h.leaves (count ∙ ap length w.1))
  right_given last (inr k) = inr (record_of p r last, subst (Member (record_of p r last)) (sym answered.leaves) (Member-map (record_of p r) last S (Member_In last S (set_of_has last S k))), refl)

  -- each leaf is the record of a route that counts as given, and each such route has its record there
  counted_in : (x : RouteRecord) → Member x h.leaves → (x ≡ record_of p r x.contacts) × Member x.contacts (leaves (is_route p r) T)
  counted_in x m =
      let v = Member-map_cases (record_of p r) x S (subst (Member x) answered.leaves m) in
      let same : x.contacts ≡ v.0 = ap numbers_of v.1 in (
        v.1 ∙ ap (record_of p r) (sym same),
        subst (λ z. Member z (leaves (is_route p r) T)) (sym same) (Member_In v.0 (leaves (is_route p r) T) (has_set_of v.0 S (In_Member v.0 S v.2))),
      )

  recorded_in : (s : List ℕ) → Member s (leaves (is_route p r) T) → Member (record_of p r s) h.leaves
  recorded_in s m = subst (Member (record_of p r s)) (sym answered.leaves) (Member-map (record_of p r) s S (Member_In s S (set_of_has s S (In_Member s (leaves (is_route p r) T) m))))

  -- a wrong count or last
  wrong_count : (emitted : ℕ) (last : List ℕ) → (emitted ≡ length h.leaves → IsGiven h.leaves last → ⊥) → IsCounted p r (state_with (parts) emitted last) → ⊥
  wrong_count emitted last wrong c = wrong (c.count ∙ sym count) (right_given last c.right)

  module _ (emitted : ℕ) (last : List ℕ) (place : Option ℕ) (at : IsLastPlace h.leaves emitted last place) where
    formed_then : IsState p r (state_with (parts) emitted last)
    formed_then = record {
      order = partial.order;
      closed = complete_closed p r parts h partial complete;
      count = at.count ∙ count;
      right = given_right last at.right;
      carried = partial.carried;
    }

    abbrev t : Shape A
    t = loaded_tree h place

    lent_all : (map (λ n. part_of h.leaves (Some n)) h.nodes ≡ parts) × ((n : Node A) → Member n h.nodes → IsLent h.leaves n)
    lent_all = subst (λ (ns : List (Node A)). (map (λ n. part_of h.leaves (Some n)) ns ≡ parts) × ((n : Node A) → Member n ns → IsLent h.leaves n)) (sym answered.nodes)
        (all_lent p r h.leaves parts 0 ([] ∷ []) [] refl answered.leaves (complete_expects p r parts h partial complete))

    shown_then : shown t ≡ state_with (parts) emitted last
    shown_then = let same = parts_by_ids h.leaves [] h.nodes ∙ lent_all.0 in λ i. record { emitted = sym at.count i; last = at.is i; parts = same i }

    -- the leaves are the records of the routes that count as given
    given_then : AreGiven p r t
    given_then = record {
      counted = λ x m.
          let w = counted_in x m in
          (w.0, subst (Member x.contacts) (sym same) w.1);
      recorded = λ s m. recorded_in s (subst (Member s) same m);
    }
      where
        same : leaves_in p r (shown t) ≡ leaves (is_route p r) T
        same = ap (leaves_in p r) shown_then

    abbrev ids : List NodeId
    ids = ids_from 0 (length h.nodes)

    loaded_is_tree : IsTree p r t
    loaded_is_tree = record {
      formed = subst (IsState p r) (sym shown_then) formed_then;
      known = λ id m. let w = ids_cases id 0 (length h.nodes) m in let l = w.1 in omega (arith, l);
      listed = λ id l. ids_has id 0 (length h.nodes) (omega arith) (omega (arith, l));
      lent = lent_all.1;
      records = λ n x m. all_recorded p r h.leaves parts 0 n x (subst (Member n) answered.nodes m);
      given = given_then;
      least = λ is. absurd (true≢false (sym is));
    }

-- with nothing expected and the last route in its place, the parts make a tree, and their state is well formed
module _ {A : Type 0} {plan : TabledPlan} {r : RouteRequest} {parts : List PartState} {partial : PartialTree A} (h : IsLoader plan r parts partial) (complete : is_complete (partial_shape_of partial) ≡ true)
    {emitted : ℕ} {last : List ℕ} {place : Option ℕ} {leaves : List RouteRecord} (are : leaves ≡ partial.leaves.items) (found : IsLastPlace leaves emitted last place) where
  at : IsLastPlace partial.leaves.items emitted last place
  at = subst (λ xs. IsLastPlace xs emitted last place) are found

  tree_is : IsTree plan.plan r (loaded_tree (partial_shape_of partial) place)
  tree_is = loaded_is_tree plan.plan r parts (partial_shape_of partial) h.partial complete emitted last place at

  module _ {calls : Calls} {v : Loaded} (is : loaded plan r parts calls ≡ v) where
    formed : IsState v.plan.plan v.request (state_with v.parts emitted last)
    formed =
        subst (λ (w : Loaded). IsState w.plan.plan w.request (state_with w.parts emitted last)) is
        (formed_then plan.plan r parts (partial_shape_of partial) h.partial complete emitted last place at)

    -- only memory can be refused
    refused : {X : Type 0} (answer : Result X LoadFault) → IsErrAnd answer (λ f. f ≡ NoMemory) → IfErr answer (IsRefusedBy v.plan.plan v.request (state_with v.parts emitted last))
    refused (Ok x) bad = absurd bad
    refused (Err f) e = rw e formed

pub returns-then-not-is_complete-clause-err : goal.returns-then-not-is_complete-clause-err
returns-then-not-is_complete-clause-err g c =
    let s = c.self.inside in
    subst (λ (v : Loaded). IsClosedState v.plan.plan v.request (state_with v.parts c.args.emitted c.args.last.now) → ⊥) c.self.view_is
    (incomplete_open s.question.plan.now.plan s.question.request s.parts.items (partial_shape_of s.partial) c.self.invariant.partial (sym c.is_complete.ensures ∙ c.if-not-is_complete.true))

pub returns-in_default-clause-err : goal.returns-in_default-clause-err
returns-in_default-clause-err g c =
    let s = c.self.inside in
    let p = s.question.plan.now.plan in
    let r = s.question.request in
    let h = partial_shape_of s.partial in
    let emitted = c.args.emitted in
    let last = c.args.last.now in
    let complete = sym c.is_complete.ensures ∙ c.if-not-is_complete.false in
    let wrong = subst (λ (xs : List RouteRecord). emitted ≡ length xs → IsGiven xs last → ⊥) c.as_slice.ensures.value c.in_default.ensures.none in
    subst (λ (v : Loaded). IsClosedState v.plan.plan v.request (state_with v.parts emitted last) × (IsCounted v.plan.plan v.request (state_with v.parts emitted last) → ⊥)) c.self.view_is
    (complete_closed p r s.parts.items h c.self.invariant.partial complete, wrong_count p r s.parts.items h c.self.invariant.partial complete emitted last wrong)

pub returns-in_err-tree-clause-err : goal.returns-in_err-tree-clause-err
returns-in_err-tree-clause-err g c = refused c.self.invariant (sym c.is_complete.ensures ∙ c.if-not-is_complete.false) c.as_slice.ensures.value c.in-Some.ensures.some c.self.view_is c.from_residual.result c.from_residual.ensures.1

pub into_tree-requires : goal.into_tree-requires
into_tree-requires g c =
    let s = c.self.inside in
    tree_indexed s.question.plan.now.plan s.question.request (loaded_tree (partial_shape_of s.partial) c.in-Some.last)
    (tree_is c.self.invariant (sym c.is_complete.ensures ∙ c.if-not-is_complete.false) c.as_slice.ensures.value c.in-Some.ensures.some)

pub of_tree-requires-clause-sound : goal.of_tree-requires-clause-sound
of_tree-requires-clause-sound g c =
    let s = c.self.inside in
    subst (IsTree s.question.plan.now.plan s.question.request) (sym c.in_ok-tree.ensures.shape)
    (tree_is c.self.invariant (sym c.is_complete.ensures ∙ c.if-not-is_complete.false) c.as_slice.ensures.value c.in-Some.ensures.some)

pub returns-clause-ok : goal.returns-clause-ok
returns-clause-ok g c =
    let s = c.self.inside in
    let complete = sym c.is_complete.ensures ∙ c.if-not-is_complete.false in
    let placed = at c.self.invariant complete c.as_slice.ensures.value c.in-Some.ensures.some in
    let state = ap shown c.in_ok-tree.ensures.shape ∙ shown_then s.question.plan.now.plan s.question.request s.parts.items (partial_shape_of s.partial) c.self.invariant.partial complete c.args.emitted c.args.last.now c.in-Some.last placed in
    subst (λ (v : Loaded). seen_over g.B.BestOf.calls_of v.plan c.of_tree.result ≡ session_with v c.args.emitted c.args.last.now) c.self.view_is
    (c.of_tree.ensures.seen ∙ (λ i. session_over s.question.plan.now s.question.request (state i) (g.B.BestOf.calls_of s.finder)))

pub returns-clause-paused : goal.returns-clause-paused
returns-clause-paused g c = subst (λ (v : Loaded). IsPausedOver v.plan c.of_tree.result) c.self.view_is c.of_tree.ensures.paused

pub returns-clause-formed : goal.returns-clause-formed
returns-clause-formed g c = formed c.self.invariant (sym c.is_complete.ensures ∙ c.if-not-is_complete.false) c.as_slice.ensures.value c.in-Some.ensures.some c.self.view_is
