-- A step from a well-formed state gives a route that is no leaf, and leaves a well-formed state with that leaf added.
use Rattle.sabr_frontier.proofs.Names.{◌≡◌, ℕ, ◌+◌, Bool, true, false, List, [], ◌∷◌, ◌++◌, map, length, sym, ap, subst, refl, ◌∙◌, true≢false, ◌⊎◌, inl, inr, Option, Some, false_from_ne_true, nat_list_cmp_total, nat_cmp, put_in, by_numbers, number_after, has, Rises, prefixes, set_of, tree, PartState, State, pair_of, Member, leaves, IsClosed, Within, InOrder, IsWellFormed, carried_in, carry, parts_after, given, full, state_of, both_ways}
use Rattle.sabr_frontier.proofs.ListingLemmas.ListMembers.{same_members, length-put_in, Rises-put_in, Member-map_cases, Member-map, map_back}
use Rattle.sabr_frontier.proofs.ListingLemmas.NumbersAfter.{lists_exact}
use Rattle.sabr_frontier.proofs.ListingLemmas.ClosedTrees.{In, In-put_in, put_in-In, Rises-numbers_after, Rises-prefixes, tree_has, leaves_has, Rises-leaves, Rises-set_of, set_of_has, has_set_of, tree_closed, leaves-tree, closed_tree, prefixes_of_tree}
use Rattle.sabr_frontier.proofs.ListingLemmas.Division.{taken_in_none, carried_cases}

tree_in_order : (S : List (List ℕ)) → InOrder (tree S)
tree_in_order S = record {
  by_prefix = subst (Rises by_numbers) (sym (prefixes_of_tree S (prefixes S))) (Rises-prefixes S);
  numbers = λ p X m. subst (Rises nat_cmp) (sym (tree_has p X S m).1) (Rises-numbers_after p S);
}

module _ (route chain fits : List ℕ → Bool)
    (apart : (s t : List ℕ) (x : ℕ) → route s ≡ true → route t ≡ true → number_after s t ≡ Some x → ⊥)
    (filled : route [] ≡ true → ⊥)
    (chains : (p s : List ℕ) (x : ℕ) → route s ≡ true → number_after p s ≡ Some x → chain (p ++ x ∷ []) ≡ true)
    (fitting : (p s : List ℕ) (x : ℕ) → route s ≡ true → number_after p s ≡ Some x → fits p ≡ true)
    (fits_nil : fits [] ≡ true)
    (least : List ℕ → List ℕ → Option (List ℕ))
    (least_in : (p X s : List ℕ) → least p X ≡ Some s → (route s ≡ true) × Within p X s) where
  -- whatever is carried within its part, the tree of a set of routes makes a well-formed state
  formed_from : (S : List (List ℕ)) (n : ℕ) (l : List ℕ) (parts : List PartState) → ((s : List ℕ) → In s S → route s ≡ true) → map pair_of parts ≡ tree S → n ≡ length (set_of S) → ((l ≡ []) × (set_of S ≡ [])) ⊎ In l S → ((t : PartState) (r : List ℕ) → Member t parts → t.carried ≡ Some r → (route r ≡ true) × Within t.prefix t.excluded r) → IsWellFormed route chain fits (record { emitted = n; last = l; parts = parts })
  formed_from S n l parts routes e count right carried =
      let s1 : leaves route (map pair_of parts) ≡ set_of S = ap (leaves route) e ∙ leaves-tree route chain fits apart filled chains fitting fits_nil S routes in
      record {
        order = subst InOrder (sym e) (tree_in_order S);
        closed = subst (IsClosed route chain fits) (sym e) (tree_closed route chain fits apart filled chains fitting fits_nil S routes);
        count = count ∙ ap length (sym s1);
        right = elim right [ inl w ↦ inl (w.0, s1 ∙ w.1) | inr h ↦ inr (ap (has by_numbers l) s1 ∙ has_set_of l S h) ];
        carried = carried;
      }

  -- the state before any route is given
  pub formed_start : IsWellFormed route chain fits (state_of least [])
  formed_start = formed_from [] 0 [] (map (full least) (tree [])) (λ s h. absurd (true≢false (sym h))) refl refl (inl (refl, refl)) (λ t r m e.
      let w = Member-map_cases (full least) t (tree []) m in
      let l = least_in w.0.0 w.0.1 r (ap (λ (z : PartState). z.carried) (sym w.1) ∙ e) in
      (l.0, subst (λ (z : PartState). Within z.prefix z.excluded r) (sym w.1) l.1))

  module _ (s : State) (formed : IsWellFormed route chain fits s) (t : PartState) (r : List ℕ) (stands : Member t s.parts) (carries : t.carried ≡ Some r) where
    abbrev S : List (List ℕ)
    S = leaves route (map pair_of s.parts)

    r_in : (route r ≡ true) × Within t.prefix t.excluded r
    r_in = formed.carried t r stands carries

    leaf_route : (l : List ℕ) → In l S → route l ≡ true
    leaf_route l h = (leaves_has route l (map pair_of s.parts) h).6

    pairs_are : map pair_of s.parts ≡ tree S
    pairs_are = closed_tree route chain fits (map pair_of s.parts) formed.order formed.closed

    -- what is given is no leaf
    pub given_new : has by_numbers r S ≡ false
    given_new = false_from_ne_true (has by_numbers r S) (λ h.
        let w = tree_has t.prefix t.excluded S (subst (Member (pair_of t)) pairs_are (Member-map pair_of t s.parts stands)) in
        taken_in_none route apart S leaf_route r r_in.0 h t.prefix (subst (λ Z. Within t.prefix Z r) w.1 r_in.1))

    set_of_set : (A : List (List ℕ)) → Rises by_numbers A → set_of A ≡ A
    set_of_set A h = same_members nat_list_cmp_total lists_exact (set_of A) A (Rises-set_of A) h (λ q. both_ways _ _ (set_of_has q A) (has_set_of q A))

    rises_after : Rises by_numbers (put_in by_numbers r S)
    rises_after = Rises-put_in nat_list_cmp_total r S (Rises-leaves route (map pair_of s.parts))

    pairs_after : map pair_of (parts_after route least s.parts r) ≡ tree (put_in by_numbers r S)
    pairs_after = map_back (carry route least s.parts) pair_of (tree (put_in by_numbers r S)) (λ e m. refl)

    routes_after : (q : List ℕ) → In q (put_in by_numbers r S) → route q ≡ true
    routes_after q h = elim (In-put_in q r S h) [ inl e ↦ ap route e ∙ r_in.0 | inr m ↦ leaf_route q m ]

    -- the leaves are those before and the route
    pub leaves_after : leaves route (map pair_of (parts_after route least s.parts r)) ≡ put_in by_numbers r S
    leaves_after = ap (leaves route) pairs_after ∙ leaves-tree route chain fits apart filled chains fitting fits_nil (put_in by_numbers r S) routes_after ∙ set_of_set (put_in by_numbers r S) rises_after

    pub formed_after : IsWellFormed route chain fits (given route least s r).1
    formed_after = formed_from (put_in by_numbers r S) (s.emitted + 1) r (parts_after route least s.parts r) routes_after pairs_after
        (ap (λ n. n + 1) formed.count ∙ sym (length-put_in nat_list_cmp_total r S given_new) ∙ ap length (sym (set_of_set (put_in by_numbers r S) rises_after)))
        (inr (put_in-In r r S (inl refl)))
        (λ u q m e.
        let w = Member-map_cases (carry route least s.parts) u (tree (put_in by_numbers r S)) m in
        let c : carried_in s.parts w.0 (least w.0.0 w.0.1) ≡ Some q = ap (λ (z : PartState). z.carried) (sym w.1) ∙ e in
        let P : List ℕ × List ℕ → Type 0 = λ z. (route q ≡ true) × Within z.0 z.1 q in
        let at : P w.0 = elim (carried_cases s.parts w.0 (least w.0.0 w.0.1)) [
          | inl k ↦ least_in w.0.0 w.0.1 q (sym k ∙ c)
          | inr v ↦ subst P v.2 (formed.carried v.0 q v.1 (sym v.3 ∙ c))
        ] in
        subst P (ap pair_of (sym w.1)) at)
