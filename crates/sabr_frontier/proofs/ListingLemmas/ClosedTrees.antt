-- The tree of a set of routes is closed and has these as its leaves, and each closed list is the tree of its leaves.
use Rattle.sabr_frontier.proofs.Names.{◌≡◌, ℕ, true, List, [], ◌∷◌, map, sym, ap, subst, ◌∙◌, true≢false, ◌⊎◌, inl, inr, Option, Some, None, refl, Bool, ◌++◌, flat_map, ◌+◌, ◌<◌, ◌≤◌, suc, zero, length, arith, length-append, or_right, nat_list_cmp_total, nat_cmp_total, nat_cmp, put_in, by_numbers, number_after, has, Rises, proper_beginnings, put_number, numbers_after, put_all, prefixes, tree, set_of, both_ways, Member, leaves_of, leaves, IsClosed, InOrder, same_from_push}
use Rattle.sabr_frontier.proofs.ListingLemmas.ListMembers.{Rises-put_in, same_members, has_exact, has_itself, put_in_has, put_in_cases, member_has, has_member, Member-map, Member-map_cases, Member-filter, Member-filter_cases, Member-flat_map, Member-flat_map_cases, Below-member, Less-apart, map_back}
use Rattle.sabr_frontier.proofs.ListingLemmas.NumbersAfter.{lists_exact, numbers_exact, number_after-step, number_after-same, number_after-nil, number_after-snoc, number_after-longer, number_after-of_longer, number_after-of_snoc}

-- ---- the members of the sets that make the tree, and that it doesn't depend on an order

-- s is a member of S
abbrev pub In : List ℕ → List (List ℕ) → Type 0
In s S = has by_numbers s S ≡ true

-- the empty list, or a proper beginning of a member
abbrev pub Listed : List (List ℕ) → List ℕ → Type 0
Listed S q = (q ≡ []) ⊎ ((s : List ℕ) × (x : ℕ) × (In s S) × (number_after q s ≡ Some x))

pub In-first : (s : List ℕ) (S : List (List ℕ)) → In s (s ∷ S)
In-first s S = has_itself nat_list_cmp_total s S

pub In-later : (s t : List ℕ) (S : List (List ℕ)) → In s S → In s (t ∷ S)
In-later s t S h = or_right _ _ h

pub In-cases : (s t : List ℕ) (S : List (List ℕ)) → In s (t ∷ S) → (s ≡ t) ⊎ In s S
In-cases s t S h = has_exact nat_list_cmp_total lists_exact s t S h

pub Rises-numbers_after : (p : List ℕ) (S : List (List ℕ)) → Rises nat_cmp (numbers_after p S)
Rises-numbers_after p [] = tt
Rises-numbers_after p (s ∷ S) = elim (number_after p s) as (λ n. Rises nat_cmp (put_number n (numbers_after p S))) [
  | None ↦ Rises-numbers_after p S
  | Some x ↦ Rises-put_in nat_cmp_total x (numbers_after p S) (Rises-numbers_after p S)
]

has-put_number : (n : Option ℕ) (x : ℕ) (xs : List ℕ) → has nat_cmp x (put_number n xs) ≡ true → (n ≡ Some x) ⊎ (has nat_cmp x xs ≡ true)
has-put_number None x xs h = inr h
has-put_number (Some y) x xs h = elim (put_in_cases nat_cmp_total numbers_exact x y xs h) [ inl e ↦ inl (ap Some (sym e)) | inr m ↦ inr m ]

put_number-has : (n : Option ℕ) (x : ℕ) (xs : List ℕ) → (n ≡ Some x) ⊎ (has nat_cmp x xs ≡ true) → has nat_cmp x (put_number n xs) ≡ true
put_number-has None x xs (inl e) = cc
put_number-has None x xs (inr h) = h
put_number-has (Some y) x xs (inl e) = put_in_has nat_cmp_total x y xs (inl cc)
put_number-has (Some y) x xs (inr h) = put_in_has nat_cmp_total x y xs (inr h)

-- a number is among the numbers_after if and only if some member takes it
pub numbers_after_has : (x : ℕ) (p : List ℕ) (S : List (List ℕ)) → has nat_cmp x (numbers_after p S) ≡ true → (s : List ℕ) × (In s S) × (number_after p s ≡ Some x)
numbers_after_has x p [] h = absurd (true≢false (sym h))
numbers_after_has x p (s ∷ S) h = elim (has-put_number (number_after p s) x (numbers_after p S) h) [
  | inl t ↦ (s, In-first s S, t)
  | inr t ↦ let w = numbers_after_has x p S t in (w.0, In-later w.0 s S w.1, w.2)
]

pub has_numbers_after : (x : ℕ) (p s : List ℕ) (S : List (List ℕ)) → In s S → number_after p s ≡ Some x → has nat_cmp x (numbers_after p S) ≡ true
has_numbers_after x p s [] h e = absurd (true≢false (sym h))
has_numbers_after x p s (t ∷ S) h e = elim (In-cases s t S h) [
  | inl same ↦ put_number-has (number_after p t) x (numbers_after p S) (inl (ap (number_after p) (sym same) ∙ e))
  | inr more ↦ put_number-has (number_after p t) x (numbers_after p S) (inr (has_numbers_after x p s S more e))
]

proper_beginnings_has : (q s : List ℕ) → Member q (proper_beginnings s) → (x : ℕ) × (number_after q s ≡ Some x)
proper_beginnings_has q [] m = absurd m
proper_beginnings_has q (y ∷ s) (inl e) = (y, ap (λ z. number_after z (y ∷ s)) e)
proper_beginnings_has q (y ∷ s) (inr m) =
    let w = Member-map_cases (λ b. y ∷ b) q (proper_beginnings s) m in
    let v = proper_beginnings_has w.0 s w.2 in
    (v.0, ap (λ z. number_after z (y ∷ s)) w.1 ∙ number_after-same y v.0 w.0 s v.1)

has_proper_beginnings : (q s : List ℕ) (x : ℕ) → number_after q s ≡ Some x → Member q (proper_beginnings s)
has_proper_beginnings q [] x e = absurd (number_after-nil q x e)
has_proper_beginnings [] (y ∷ s) x e = inl refl
has_proper_beginnings (z ∷ q) (y ∷ s) x e =
    let h = number_after-step z y x q s e in
    inr (subst (λ w. Member (w ∷ q) (map (λ b. y ∷ b) (proper_beginnings s))) (sym h.0) (Member-map (λ b. y ∷ b) q (proper_beginnings s) (has_proper_beginnings q s x h.1)))

Rises-put_all : (qs ps : List (List ℕ)) → Rises by_numbers ps → Rises by_numbers (put_all qs ps)
Rises-put_all [] ps h = h
Rises-put_all (q ∷ qs) ps h = Rises-put_in nat_list_cmp_total q (put_all qs ps) (Rises-put_all qs ps h)

pub In-put_in : (q s : List ℕ) (S : List (List ℕ)) → In q (put_in by_numbers s S) → (q ≡ s) ⊎ In q S
In-put_in q s S h = put_in_cases nat_list_cmp_total lists_exact q s S h

pub put_in-In : (q s : List ℕ) (S : List (List ℕ)) → (q ≡ s) ⊎ In q S → In q (put_in by_numbers s S)
put_in-In q s S h = put_in_has nat_list_cmp_total q s S h

put_all_cases : (q : List ℕ) (qs ps : List (List ℕ)) → In q (put_all qs ps) → Member q qs ⊎ In q ps
put_all_cases q [] ps h = inr h
put_all_cases q (r ∷ qs) ps h = elim (In-put_in q r (put_all qs ps) h) [
  | inl e ↦ inl (inl e)
  | inr t ↦ elim (put_all_cases q qs ps t) [ inl m ↦ inl (inr m) | inr m ↦ inr m ]
]

put_all_has : (q : List ℕ) (qs ps : List (List ℕ)) → Member q qs ⊎ In q ps → In q (put_all qs ps)
put_all_has q [] ps (inl m) = absurd m
put_all_has q [] ps (inr h) = h
put_all_has q (r ∷ qs) ps (inl (inl e)) = put_in-In q r (put_all qs ps) (inl e)
put_all_has q (r ∷ qs) ps (inl (inr m)) = put_in-In q r (put_all qs ps) (inr (put_all_has q qs ps (inl m)))
put_all_has q (r ∷ qs) ps (inr h) = put_in-In q r (put_all qs ps) (inr (put_all_has q qs ps (inr h)))

pub Rises-prefixes : (S : List (List ℕ)) → Rises by_numbers (prefixes S)
Rises-prefixes [] = (tt, tt)
Rises-prefixes (s ∷ S) = Rises-put_all (proper_beginnings s) (prefixes S) (Rises-prefixes S)

pub Listed-within : (S U : List (List ℕ)) → ((s : List ℕ) → In s S → In s U) → (q : List ℕ) → Listed S q → Listed U q
Listed-within S U f q (inl e) = inl e
Listed-within S U f q (inr w) = inr (w.0, w.1, f w.0 w.2, w.3)

-- the prefixes are the empty list and the proper beginnings of members
pub prefixes_has : (q : List ℕ) (S : List (List ℕ)) → In q (prefixes S) → Listed S q
prefixes_has q [] h = elim (In-cases q [] [] h) [ inl e ↦ inl e | inr t ↦ absurd (true≢false (sym t)) ]
prefixes_has q (s ∷ S) h = elim (put_all_cases q (proper_beginnings s) (prefixes S) h) [
  | inl t ↦ let w = proper_beginnings_has q s t in inr (s, w.0, In-first s S, w.1)
  | inr t ↦ Listed-within S (s ∷ S) (λ u m. In-later u s S m) q (prefixes_has q S t)
]

pub has_prefixes : (q : List ℕ) (S : List (List ℕ)) → Listed S q → In q (prefixes S)
has_prefixes q [] (inl e) = subst (λ z. In z (prefixes [])) (sym e) (In-first [] [])
has_prefixes q [] (inr w) = absurd (true≢false (sym w.2))
has_prefixes q (s ∷ S) (inl e) = put_all_has q (proper_beginnings s) (prefixes S) (inr (has_prefixes q S (inl e)))
has_prefixes q (s ∷ S) (inr w) = put_all_has q (proper_beginnings s) (prefixes S) (elim (In-cases w.0 s S w.2) [
  | inl e ↦ inl (has_proper_beginnings q s w.1 (ap (number_after q) (sym e) ∙ w.3))
  | inr t ↦ inr (has_prefixes q S (inr (w.0, w.1, t, w.3)))
])

-- lists with the same members have the same tree
pub tree_same : (S U : List (List ℕ)) → ((q : List ℕ) → has by_numbers q S ≡ has by_numbers q U) → tree S ≡ tree U
tree_same S U same = λ i. map (λ p. (p, numbers p i)) (listed i)
  where
    from : (q : List ℕ) → In q S → In q U
    from q h = sym (same q) ∙ h

    back : (q : List ℕ) → In q U → In q S
    back q h = same q ∙ h

    numbers : (p : List ℕ) → numbers_after p S ≡ numbers_after p U
    numbers p = same_members nat_cmp_total numbers_exact (numbers_after p S) (numbers_after p U) (Rises-numbers_after p S) (Rises-numbers_after p U) (λ x. both_ways _ _
        (λ h. let w = numbers_after_has x p S h in has_numbers_after x p w.0 U (from w.0 w.1) w.2)
        (λ h. let w = numbers_after_has x p U h in has_numbers_after x p w.0 S (back w.0 w.1) w.2))

    listed : prefixes S ≡ prefixes U
    listed = same_members nat_list_cmp_total lists_exact (prefixes S) (prefixes U) (Rises-prefixes S) (Rises-prefixes U) (λ q. both_ways _ _
        (λ h. has_prefixes q U (Listed-within S U from q (prefixes_has q S h)))
        (λ h. has_prefixes q S (Listed-within U S back q (prefixes_has q U h))))

-- between the two words for a member
pub In_Member : (s : List ℕ) (S : List (List ℕ)) → Member s S → In s S
In_Member s S m = member_has nat_list_cmp_total s S m

pub Member_In : (s : List ℕ) (S : List (List ℕ)) → In s S → Member s S
Member_In s S h = has_member nat_list_cmp_total lists_exact s S h

pub Number_has : (x : ℕ) (X : List ℕ) → Member x X → has nat_cmp x X ≡ true
Number_has x X m = member_has nat_cmp_total x X m

pub has_Number : (x : ℕ) (X : List ℕ) → has nat_cmp x X ≡ true → Member x X
has_Number x X h = has_member nat_cmp_total numbers_exact x X h

pub set_of_has : (s : List ℕ) (S : List (List ℕ)) → In s (set_of S) → In s S
set_of_has s [] h = h
set_of_has s (t ∷ S) h = In_Member s (t ∷ S) (elim (In-put_in s t (set_of S) h) [ inl e ↦ inl e | inr m ↦ inr (Member_In s S (set_of_has s S m)) ])

pub has_set_of : (s : List ℕ) (S : List (List ℕ)) → In s S → In s (set_of S)
has_set_of s [] h = h
has_set_of s (t ∷ S) h = put_in-In s t (set_of S) (elim (In-cases s t S h) [ inl e ↦ inl e | inr m ↦ inr (has_set_of s S m) ])

pub Rises-set_of : (S : List (List ℕ)) → Rises by_numbers (set_of S)
Rises-set_of [] = tt
Rises-set_of (s ∷ S) = Rises-put_in nat_list_cmp_total s (set_of S) (Rises-set_of S)

-- a pair of the tree
pub tree_has : (p X : List ℕ) (S : List (List ℕ)) → Member (p, X) (tree S) → Listed S p × (X ≡ numbers_after p S)
tree_has p X S h =
    let w = Member-map_cases (λ p. (p, numbers_after p S)) (p, X) (prefixes S) h in
    let e : p ≡ w.0 = ap (λ z. z.0) w.1 in
    (subst (Listed S) (sym e) (prefixes_has w.0 S (In_Member w.0 (prefixes S) w.2)), ap (λ z. z.1) w.1 ∙ ap (λ z. numbers_after z S) (sym e))

pub has_tree : (p : List ℕ) (S : List (List ℕ)) → Listed S p → Member (p, numbers_after p S) (tree S)
has_tree p S h = Member-map (λ p. (p, numbers_after p S)) p (prefixes S) (Member_In p (prefixes S) (has_prefixes p S h))

module _ (route : List ℕ → Bool) where
  -- a leaf is a pair's prefix and one of its excluded numbers, and a route
  pub leaves_has : (s : List ℕ) (T : List (List ℕ × List ℕ)) → In s (leaves route T) → (p : List ℕ) × (X : List ℕ) × (x : ℕ) × Member (p, X) T × (has nat_cmp x X ≡ true) × (s ≡ p ++ x ∷ []) × (route s ≡ true)
  leaves_has s T h =
      let m = Member_In s (flat_map (leaves_of route) T) (set_of_has s (flat_map (leaves_of route) T) h) in
      let w = Member-flat_map_cases (leaves_of route) s T m in
      let f = Member-filter_cases route s (map (λ x. w.0.0 ++ x ∷ []) w.0.1) w.2 in
      let v = Member-map_cases (λ x. w.0.0 ++ x ∷ []) s w.0.1 f.1 in
      (w.0.0, w.0.1, v.0, w.1, Number_has v.0 w.0.1 v.2, v.1, f.0)

  pub has_leaves : (s p X : List ℕ) (x : ℕ) (T : List (List ℕ × List ℕ)) → Member (p, X) T → has nat_cmp x X ≡ true → s ≡ p ++ x ∷ [] → route s ≡ true → In s (leaves route T)
  has_leaves s p X x T m h e is =
      has_set_of s (flat_map (leaves_of route) T) (In_Member s (flat_map (leaves_of route) T)
      (Member-flat_map (leaves_of route) s (p, X) T m
      (Member-filter route s (map (λ x. p ++ x ∷ []) X) is (subst (λ z. Member z (map (λ x. p ++ x ∷ []) X)) (sym e) (Member-map (λ x. p ++ x ∷ []) x X (has_Number x X h))))))

  pub Rises-leaves : (T : List (List ℕ × List ℕ)) → Rises by_numbers (leaves route T)
  Rises-leaves T = Rises-set_of (flat_map (leaves_of route) T)

-- the last number of a list that isn't empty
pub last_split : (x : ℕ) (s : List ℕ) → (q : List ℕ) × (y : ℕ) × (x ∷ s ≡ q ++ y ∷ [])
last_split x [] = ([], x, refl)
last_split x (z ∷ s) = let w = last_split z s in (x ∷ w.0, w.1, ap (λ t. x ∷ t) w.2)

pub last_same : (p q : List ℕ) (x y : ℕ) → p ++ x ∷ [] ≡ q ++ y ∷ [] → (p ≡ q) × (x ≡ y)
last_same p q x y e = same_from_push p q x y e

module _ (route chain fits : List ℕ → Bool)
    (apart : (s t : List ℕ) (x : ℕ) → route s ≡ true → route t ≡ true → number_after s t ≡ Some x → ⊥)
    (filled : route [] ≡ true → ⊥)
    (chains : (p s : List ℕ) (x : ℕ) → route s ≡ true → number_after p s ≡ Some x → chain (p ++ x ∷ []) ≡ true)
    (fitting : (p s : List ℕ) (x : ℕ) → route s ≡ true → number_after p s ≡ Some x → fits p ≡ true)
    (fits_nil : fits [] ≡ true) where
  module _ (S : List (List ℕ)) (routes : (s : List ℕ) → In s S → route s ≡ true) where
    pub tree_closed : IsClosed route chain fits (tree S)
    tree_closed = record {
      root = (numbers_after [] S, has_tree [] S (inl refl));
      fit = λ p X m. elim (tree_has p X S m).0 [ inl e ↦ subst (λ z. fits z ≡ true) (sym e) fits_nil | inr w ↦ fitting p w.0 w.1 (routes w.0 w.2) w.3 ];
      below = λ p X x m h.
          let w = numbers_after_has x p S (ap (has nat_cmp x) (sym (tree_has p X S m).1) ∙ h) in (
            chains p w.0 x (routes w.0 w.1) w.2,
            elim (number_after-longer p w.0 x w.2) [
              | inl e ↦ inl (ap route (sym e) ∙ routes w.0 w.1)
              | inr n ↦ inr (numbers_after (p ++ x ∷ []) S, has_tree (p ++ x ∷ []) S (inr (w.0, n.0, w.1, n.1)))
            ],
          );
      above = λ p X m. elim (tree_has p X S m).0 [
        | inl e ↦ inl e
        | inr w ↦ elim p as (λ p. number_after p w.0 ≡ Some w.1 → (p ≡ []) ⊎ ((q : List ℕ) × (Y : List ℕ) × (x : ℕ) × (p ≡ q ++ x ∷ []) × Member (q, Y) (tree S) × (has nat_cmp x Y ≡ true))) [
          | [] ↦ λ _. inl refl
          | y ∷ p ↦ λ n.
              let v = last_split y p in
              let n' = number_after-of_longer v.0 w.0 v.1 w.1 (ap (λ z. number_after z w.0) (sym v.2) ∙ n) in
              inr (v.0, numbers_after v.0 S, v.1, v.2, has_tree v.0 S (inr (w.0, v.1, w.2, n')), has_numbers_after v.1 v.0 w.0 S w.2 n')
        ] w.3
      ];
      busy = λ p X m. elim (tree_has p X S m).0 [ inl e ↦ inl e | inr w ↦ inr (w.1, ap (has nat_cmp w.1) (tree_has p X S m).1 ∙ has_numbers_after w.1 p w.0 S w.2 w.3) ];
    }

    tree_leaf : (s : List ℕ) → In s (leaves route (tree S)) → In s S
    tree_leaf s h =
        let w = leaves_has route s (tree S) h in
        let v = numbers_after_has w.2 w.0 S (ap (has nat_cmp w.2) (sym (tree_has w.0 w.1 S w.3).1) ∙ w.4) in
        elim (number_after-longer w.0 v.0 w.2 v.2) [
          | inl e ↦ subst (λ z. In z S) (e ∙ sym w.5) v.1
          | inr n ↦ absurd (apart s v.0 n.0 w.6 (routes v.0 v.1) (ap (λ z. number_after z v.0) w.5 ∙ n.1))
        ]

    leaf_tree : (s : List ℕ) → In s S → In s (leaves route (tree S))
    leaf_tree [] h = absurd (filled (routes [] h))
    leaf_tree (x ∷ s) h =
        let w = last_split x s in
        let n = ap (number_after w.0) w.2 ∙ number_after-snoc w.0 [] w.1 in
        has_leaves route (x ∷ s) w.0 (numbers_after w.0 S) w.1 (tree S) (has_tree w.0 S (inr (x ∷ s, w.1, h, n))) (has_numbers_after w.1 w.0 (x ∷ s) S h n) w.2 (routes (x ∷ s) h)

    -- the leaves of the tree of a set are the set
    pub leaves-tree : leaves route (tree S) ≡ set_of S
    leaves-tree = same_members nat_list_cmp_total lists_exact (leaves route (tree S)) (set_of S) (Rises-leaves route (tree S)) (Rises-set_of S) (λ q. both_ways _ _
        (λ h. has_set_of q S (tree_leaf q h)) (λ h. leaf_tree q (set_of_has q S h)))

-- ---- a closed list of pairs is the tree of its leaves

abbrev pub Pairs : Type 0
Pairs = List (List ℕ × List ℕ)

pub prefixes_of_tree : (S ps : List (List ℕ)) → map (λ (e : List ℕ × List ℕ). e.0) (map (λ p. (p, numbers_after p S)) ps) ≡ ps
prefixes_of_tree S ps = map_back (λ p. (p, numbers_after p S)) (λ e. e.0) ps (λ p m. refl)

-- no prefix is longer
abbrev deepest : Pairs → ℕ
deepest [] = 0
deepest (e ∷ T) = length e.0 + deepest T

within_deepest : (e : List ℕ × List ℕ) (T : Pairs) → Member e T → length e.0 ≤ deepest T
within_deepest e [] h = absurd h
within_deepest e (f ∷ T) (inl h) = omega (arith, ap (λ (z : List ℕ × List ℕ). length z.0) h)
within_deepest e (f ∷ T) (inr h) = omega (arith, within_deepest e T h)

-- a prefix is listed once
pub one_pair : (p X Y : List ℕ) (T : Pairs) → Rises by_numbers (map (λ e. e.0) T) → Member (p, X) T → Member (p, Y) T → X ≡ Y
one_pair p X Y [] r a b = absurd a
one_pair p X Y (e ∷ T) r (inl a) (inl b) = ap (λ (z : List ℕ × List ℕ). z.1) (a ∙ sym b)
one_pair p X Y (e ∷ T) r (inl a) (inr b) = absurd (Less-apart nat_list_cmp_total p (ap (λ (z : List ℕ × List ℕ). by_numbers z.0 p) a ∙ Below-member nat_list_cmp_total e.0 p (map (λ e. e.0) T) r.0 (Member-map (λ e. e.0) (p, Y) T b)))
one_pair p X Y (e ∷ T) r (inr a) (inl b) = absurd (Less-apart nat_list_cmp_total p (ap (λ (z : List ℕ × List ℕ). by_numbers z.0 p) b ∙ Below-member nat_list_cmp_total e.0 p (map (λ e. e.0) T) r.0 (Member-map (λ e. e.0) (p, X) T a)))
one_pair p X Y (e ∷ T) r (inr a) (inr b) = one_pair p X Y T r.1 a b

pub not_empty : (p : List ℕ) (x : ℕ) → p ++ x ∷ [] ≡ [] → ⊥
not_empty [] x e = cc
not_empty (y ∷ p) x e = cc

module _ (route chain fits : List ℕ → Bool) (T : Pairs) (order : InOrder T) (closed : IsClosed route chain fits T) where
  -- there is a leaf after each excluded number
  beyond : (n : ℕ) (p X : List ℕ) (x : ℕ) → deepest T < length p + n → Member (p, X) T → has nat_cmp x X ≡ true → (s : List ℕ) × In s (leaves route T) × (number_after p s ≡ Some x)
  beyond zero p X x d m h = absurd (omega (arith, within_deepest (p, X) T m))
  beyond (suc n) p X x d m h = elim (closed.below p X x m h).1 [
    | inl is ↦ (p ++ x ∷ [], has_leaves route (p ++ x ∷ []) p X x T m h refl is, number_after-snoc p [] x)
    | inr w ↦ elim (closed.busy (p ++ x ∷ []) w.0 w.1) [
      | inl e ↦ absurd (not_empty p x e)
      | inr v ↦
          let further = beyond n (p ++ x ∷ []) w.0 v.0 (omega (arith, length-append p (x ∷ []))) w.1 v.1 in
          (further.0, further.1, number_after-of_longer p further.0 x v.0 further.2)
    ]
  ]

  -- each beginning of a listed prefix and an excluded number is listed, and excludes the number that follows
  down : (n : ℕ) (q Y p : List ℕ) (y x : ℕ) → length q < n → Member (q, Y) T → has nat_cmp y Y ≡ true → number_after p (q ++ y ∷ []) ≡ Some x → (X : List ℕ) × Member (p, X) T × (has nat_cmp x X ≡ true)
  down zero q Y p y x l m h e = absurd (omega arith)
  down (suc n) q Y p y x l m h e = elim (number_after-of_snoc p q x y e) [
    | inl t ↦ (Y, subst (λ z. Member (z, Y) T) (sym t.0) m, ap (λ z. has nat_cmp z Y) t.1 ∙ h)
    | inr t ↦ elim (closed.above q Y m) [
      | inl k ↦ absurd (number_after-nil p x (ap (number_after p) (sym k) ∙ t))
      | inr w ↦ down n w.0 w.1 p w.2 x (omega (arith, ap length w.3, length-append w.0 (w.2 ∷ []))) w.4 w.5 (ap (number_after p) (sym w.3) ∙ t)
    ]
  ]

  below_leaf : (s p : List ℕ) (x : ℕ) → In s (leaves route T) → number_after p s ≡ Some x → (X : List ℕ) × Member (p, X) T × (has nat_cmp x X ≡ true)
  below_leaf s p x h e = let w = leaves_has route s T h in down (length w.0 + 1) w.0 w.1 p w.2 x (omega arith) w.3 w.4 (ap (number_after p) (sym w.5) ∙ e)

  excluded_are : (p X : List ℕ) → Member (p, X) T → X ≡ numbers_after p (leaves route T)
  excluded_are p X m = same_members nat_cmp_total numbers_exact X (numbers_after p (leaves route T)) (order.numbers p X m) (Rises-numbers_after p (leaves route T)) (λ x. both_ways _ _
      (λ h. let w = beyond (deepest T + 1) p X x (omega arith) m h in has_numbers_after x p w.0 (leaves route T) w.1 w.2)
      (λ h.
      let w = numbers_after_has x p (leaves route T) h in
      let v = below_leaf w.0 p x w.1 w.2 in
      ap (has nat_cmp x) (one_pair p X v.0 T order.by_prefix m v.1) ∙ v.2))

  listed_are : (p X : List ℕ) → Member (p, X) T → Listed (leaves route T) p
  listed_are p X m = elim (closed.busy p X m) [
    | inl e ↦ inl e
    | inr v ↦ let w = beyond (deepest T + 1) p X v.0 (omega arith) m v.1 in inr (w.0, v.0, w.1, w.2)
  ]

  pub closed_tree : T ≡ tree (leaves route T)
  closed_tree =
      let S : List (List ℕ) = leaves route T in
      let keys : List (List ℕ) = map (λ e. e.0) T in
      let same : keys ≡ prefixes S = same_members nat_list_cmp_total lists_exact keys (prefixes S) order.by_prefix (Rises-prefixes S) (λ q. both_ways _ _
      (λ h. let v = Member-map_cases (λ e. e.0) q T (Member_In q keys h) in has_prefixes q S (subst (Listed S) (sym v.1) (listed_are v.0.0 v.0.1 v.2)))
      (λ h. In_Member q keys (elim (prefixes_has q S h) [
        | inl e ↦ subst (λ z. Member z keys) (sym e) (Member-map (λ e. e.0) ([], closed.root.0) T closed.root.1)
        | inr w ↦ let v = below_leaf w.0 q w.1 w.2 w.3 in Member-map (λ e. e.0) (q, v.0) T v.1
      ]))) in
      sym (map_back (λ e. e.0) (λ p. (p, numbers_after p S)) T (λ e m i. (e.0, sym (excluded_are e.0 e.1 m) i))) ∙ ap (map (λ p. (p, numbers_after p S))) same
