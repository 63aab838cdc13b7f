-- Taking a route divides its part: one pair grows by a number, and a block of new parts stands at one place.
use Rattle.sabr_frontier.proofs.Names.{◌≡◌, ℕ, Bool, true, false, cond, ◌&&◌, List, [], ◌∷◌, ◌++◌, filter, map, sym, ap, subst, refl, ◌∙◌, true≢false, ◌⊎◌, inl, inr, Option, Some, None, append_assoc, append-nil, cases_Bool, cond-true, cond-false, map-append, append_cancel_left, nat_list_cmp_total, nat_cmp_total, tied_itself, is_eq, nat_cmp, ordering_then, Ordering, Less, Equal, Greater, put_in, by_numbers, number_after, has, Below, Rises, numbers_after, prefixes, tree, put_number, PartState, pair_of, Member, same_pair, carried_in, carry, number_after_some, both_ways, IsTotalOrder, Within}
use Rattle.sabr_frontier.proofs.ListingLemmas.ListMembers.{Member-filter_cases, has-put_in, put_again, is_equal, has_itself, same_members, put_in_has, Member-map, Member-map_cases, Member-append_left, Member-append_right, Member-append_cases, Below-member, Less-apart, map_map, map_back}
use Rattle.sabr_frontier.proofs.ListingLemmas.NumbersAfter.{lists_exact, numbers_exact, number_after-snoc, number_after-compare, number_after-trans, number_after-nil, number_after-same, number_after-longer}
use Rattle.sabr_frontier.proofs.ListingLemmas.ClosedTrees.{In, Listed, In-first, In-later, In-cases, numbers_after_has, has_numbers_after, Rises-numbers_after, Rises-prefixes, tree_same, prefixes_has, has_prefixes, Listed-within, tree_has, In_Member, Member_In, prefixes_of_tree, not_empty}

-- ---- the order of lists and their proper_beginnings

pub less_longer : (a q z : List ℕ) → by_numbers a q ≡ Less → by_numbers a (q ++ z) ≡ Less
less_longer [] [] z e = cc
less_longer [] (y ∷ q) z e = refl
less_longer (x ∷ a) [] z e = cc
less_longer (x ∷ a) (y ∷ q) z e = elim (nat_cmp x y) as (λ r. ordering_then r (by_numbers a q) ≡ Less → ordering_then r (by_numbers a (q ++ z)) ≡ Less) [
  | Less ↦ λ _. refl
  | Equal ↦ λ e. less_longer a q z e
  | Greater ↦ λ e. e
] e

pub begins_less : (q : List ℕ) (y : ℕ) (z : List ℕ) → by_numbers q (q ++ y ∷ z) ≡ Less
begins_less [] y z = refl
begins_less (x ∷ q) y z = ap (λ r. ordering_then r (by_numbers q (q ++ y ∷ z))) (tied_itself nat_cmp_total x) ∙ begins_less q y z

-- what is above q and doesn't begin with it is above all that begins with it
pub above_longer : (q c z : List ℕ) → by_numbers q c ≡ Less → ((n : ℕ) → number_after q c ≡ Some n → ⊥) → by_numbers (q ++ z) c ≡ Less
above_longer [] [] z e apart = cc
above_longer [] (y ∷ c) z e apart = absurd (apart y refl)
above_longer (x ∷ q) [] z e apart = cc
above_longer (x ∷ q) (y ∷ c) z e apart = elim (nat_cmp x y) as (λ r. nat_cmp x y ≡ r → ordering_then r (by_numbers q c) ≡ Less → ordering_then r (by_numbers (q ++ z) c) ≡ Less) [
  | Less ↦ λ _ _. refl
  | Equal ↦ λ t e. above_longer q c z e (λ n m. apart n (subst (λ w. number_after (w ∷ q) (y ∷ c) ≡ Some n) (sym (numbers_exact x y t)) (number_after-same y n q c m)))
  | Greater ↦ λ _ e. e
] refl e

-- ---- lists that rise, put together

pub Below-from : {K : Type 0} (R : K → K → Ordering) (x : K) (ys : List K) → ((y : K) → Member y ys → R x y ≡ Less) → Below R x ys
Below-from R x [] f = tt
Below-from R x (y ∷ ys) f = (f y (inl refl), Below-from R x ys (λ z m. f z (inr m)))

-- both rise, the first below the second
abbrev pub RiseInTurn : {K : Type 0} → (K → K → Ordering) → List K → List K → Type 0
RiseInTurn {K} R A B = Rises R A × Rises R B × ((a b : K) → Member a A → Member b B → R a b ≡ Less)

module _ {K : Type 0} {R : K → K → Ordering} (o : IsTotalOrder R) where
  pub Rises-append : (A B : List K) → Rises R A → Rises R B → ((a b : K) → Member a A → Member b B → R a b ≡ Less) → Rises R (A ++ B)
  Rises-append [] B r s f = s
  Rises-append (x ∷ A) B r s f = (
    Below-from R x (A ++ B) (λ y m. elim (Member-append_cases y A B m) [ inl n ↦ Below-member o x y A r.0 n | inr n ↦ f x y (inl refl) n ]),
    Rises-append A B r.1 s (λ a b m n. f a b (inr m) n),
  )

  pub Rises-filter : (keep : K → Bool) (A : List K) → Rises R A → Rises R (filter keep A)
  Rises-filter keep [] r = tt
  Rises-filter keep (x ∷ A) r = elim (keep x) as (λ b. Rises R (cond b (x ∷ filter keep A) (filter keep A))) [
    | true ↦ (Below-from R x (filter keep A) (λ y m. Below-member o x y A r.0 (Member-filter_cases keep y A m).1), Rises-filter keep A r.1)
    | false ↦ Rises-filter keep A r.1
  ]

  pub Rises-parts : (A B : List K) → Rises R (A ++ B) → RiseInTurn R A B
  Rises-parts [] B r = (tt, r, λ a b m n. absurd m)
  Rises-parts (x ∷ A) B r =
      let w = Rises-parts A B r.1 in
      let above : (y : K) → Member y (A ++ B) → R x y ≡ Less = λ y m. Below-member o x y (A ++ B) r.0 m in (
        (Below-from R x A (λ y m. above y (Member-append_left y A B m)), w.0),
        w.1,
        λ a b m n. elim m [ inl e ↦ ap (λ z. R z b) e ∙ above b (Member-append_right b A B n) | inr k ↦ w.2 a b k n ],
      )

-- ---- what stands keeps what it carried

pub same_pair_is : (e f : List ℕ × List ℕ) → same_pair e f ≡ true → e ≡ f
same_pair_is e f h = elim (is_eq (by_numbers e.0 f.0)) as (λ b. is_eq (by_numbers e.0 f.0) ≡ b → (b && is_eq (by_numbers e.1 f.1)) ≡ true → e ≡ f) [
  | true ↦ λ t u. λ i. (lists_exact e.0 f.0 (is_equal _ t) i, lists_exact e.1 f.1 (is_equal _ u) i)
  | false ↦ λ t u. absurd (true≢false (sym u))
] refl h

-- what stands was carried before, or is the given
pub carried_cases : (parts : List PartState) (e : List ℕ × List ℕ) (d : Option (List ℕ)) → (carried_in parts e d ≡ d) ⊎ ((t : PartState) × Member t parts × (pair_of t ≡ e) × (carried_in parts e d ≡ t.carried))
carried_cases [] e d = inl refl
carried_cases (t ∷ ts) e d = elim (cases_Bool (same_pair (pair_of t) e)) [
  | inl h ↦ inr (t, inl refl, same_pair_is (pair_of t) e h, cond-true (same_pair (pair_of t) e) t.carried (carried_in ts e d) h)
  | inr h ↦
      let past = cond-false (same_pair (pair_of t) e) t.carried (carried_in ts e d) h in
      elim (carried_cases ts e d) [ inl k ↦ inl (past ∙ k) | inr w ↦ inr (w.0, inr w.1, w.2, past ∙ w.3) ]
]

carried_absent : (parts : List PartState) (e : List ℕ × List ℕ) (d : Option (List ℕ)) → ((t : PartState) → Member t parts → pair_of t ≡ e → ⊥) → carried_in parts e d ≡ d
carried_absent parts e d f = elim (carried_cases parts e d) [ inl h ↦ h | inr w ↦ absurd (f w.0 w.1 w.2) ]

carried_stands : (parts : List PartState) (t : PartState) (d : Option (List ℕ)) → Rises by_numbers (map (λ (t : PartState). t.prefix) parts) → Member t parts → carried_in parts (pair_of t) d ≡ t.carried
carried_stands [] t d r m = absurd m
carried_stands (u ∷ ts) t d r (inl e) = ap (λ b. cond b u.carried (carried_in ts (pair_of t) d)) (ap (λ (z : PartState). same_pair (pair_of u) (pair_of z)) e ∙ (λ i. is_eq (tied_itself nat_list_cmp_total u.prefix i) && is_eq (tied_itself nat_list_cmp_total u.excluded i))) ∙ ap (λ (z : PartState). z.carried) (sym e)
carried_stands (u ∷ ts) t d r (inr m) = elim (cases_Bool (same_pair (pair_of u) (pair_of t))) [
  | inl h ↦ absurd (Less-apart nat_list_cmp_total t.prefix (ap (λ (z : List ℕ × List ℕ). by_numbers z.0 t.prefix) (sym (same_pair_is (pair_of u) (pair_of t) h)) ∙ Below-member nat_list_cmp_total u.prefix t.prefix (map (λ (t : PartState). t.prefix) ts) r.0 (Member-map (λ (t : PartState). t.prefix) t ts m)))
  | inr h ↦ ap (λ b. cond b u.carried (carried_in ts (pair_of t) d)) h ∙ carried_stands ts t d r.1 m
]

-- ---- the division

-- what a prefix begins is listed with a number that is excluded there
pub earlier_excludes : (S : List (List ℕ)) (p q : List ℕ) (x : ℕ) → Listed S q → number_after p q ≡ Some x → has nat_cmp x (numbers_after p S) ≡ true
earlier_excludes S p q x (inl e) n = absurd (number_after-nil p x (ap (number_after p) (sym e) ∙ n))
earlier_excludes S p q x (inr w) n = has_numbers_after x p w.0 S w.2 (number_after-trans p q w.0 x w.1 n w.3)

-- the parts for the beginnings of q ++ rest from q on, each with its next number excluded
abbrev pub fresh : (List ℕ → List ℕ → Option (List ℕ)) → List ℕ → List ℕ → List PartState
fresh least q [] = []
fresh least q (y ∷ ys) = record { prefix = q; excluded = y ∷ []; carried = least q (y ∷ []) } ∷ fresh least (q ++ y ∷ []) ys

module _ (route : List ℕ → Bool) (least : List ℕ → List ℕ → Option (List ℕ)) where
  abbrev key : PartState → List ℕ
  key t = t.prefix

  -- the part of this prefix that excludes the one number
  abbrev alone : List ℕ → ℕ → PartState
  alone q y = record { prefix = q; excluded = y ∷ []; carried = least q (y ∷ []) }

  -- a member of the block is for a beginning of q ++ ys that is q or longer, with its next number alone
  fresh_cases : (q ys : List ℕ) (t : PartState) → Member t (fresh least q ys) → (a : List ℕ) × (y : ℕ) × (b : List ℕ) × (ys ≡ a ++ y ∷ b) × (t ≡ alone (q ++ a) y)
  fresh_cases q [] t m = absurd m
  fresh_cases q (y ∷ ys) t (inl e) = ([], y, ys, refl, e ∙ ap (λ z. alone z y) (sym (append-nil q)))
  fresh_cases q (y ∷ ys) t (inr m) =
      let w = fresh_cases (q ++ y ∷ []) ys t m in
      (y ∷ w.0, w.1, w.2, ap (λ z. y ∷ z) w.3, w.4 ∙ ap (λ z. alone z w.1) (append_assoc q (y ∷ []) w.0))

  fresh_key : (q ys k : List ℕ) → Member k (map key (fresh least q ys)) → (a : List ℕ) × (k ≡ q ++ a)
  fresh_key q ys k m =
      let v = Member-map_cases key k (fresh least q ys) m in
      let w = fresh_cases q ys v.0 v.2 in
      (w.0, v.1 ∙ ap key w.4)

  fresh_has : (q a b : List ℕ) (y : ℕ) → Member (q ++ a) (map key (fresh least q (a ++ y ∷ b)))
  fresh_has q [] b y = inl (append-nil q)
  fresh_has q (z ∷ a) b y = inr (subst (λ w. Member w (map key (fresh least (q ++ z ∷ []) (a ++ y ∷ b)))) (append_assoc q (z ∷ []) a) (fresh_has (q ++ z ∷ []) a b y))

  fresh_rises : (q ys : List ℕ) → Rises by_numbers (map key (fresh least q ys))
  fresh_rises q [] = tt
  fresh_rises q (y ∷ ys) = (
    Below-from by_numbers q (map key (fresh least (q ++ y ∷ []) ys)) (λ k m.
        let w = fresh_key (q ++ y ∷ []) ys k m in
        subst (λ z. by_numbers q z ≡ Less) (sym (w.1 ∙ append_assoc q (y ∷ []) w.0)) (begins_less q y w.0)),
    fresh_rises (q ++ y ∷ []) ys,
  )

  module _ (S : List (List ℕ)) (front mid back : List PartState) (p X : List ℕ) (c : Option (List ℕ)) (x : ℕ) (rest : List ℕ)
      (is_tree : map pair_of ((front ++ record { prefix = p; excluded = X; carried = c } ∷ mid) ++ back) ≡ tree S)
      (unused : has nat_cmp x X ≡ false)
      (low : (t : PartState) → Member t mid → by_numbers t.prefix (p ++ x ∷ []) ≡ Less)
      (high : (t : PartState) → Member t back → by_numbers (p ++ x ∷ []) t.prefix ≡ Less) where
    abbrev here : PartState
    here = record { prefix = p; excluded = X; carried = c }

    abbrev old : List PartState
    old = (front ++ here ∷ mid) ++ back

    abbrev next : List ℕ
    next = p ++ x ∷ []

    abbrev taken : List ℕ
    taken = p ++ x ∷ rest

    abbrev wide : PartState
    wide = record { prefix = p; excluded = put_in nat_cmp x X; carried = least p (put_in nat_cmp x X) }

    abbrev block : List PartState
    block = fresh least next rest

    abbrev new : List PartState
    new = (front ++ wide ∷ mid) ++ (block ++ back)

    -- the part of this prefix after the step
    abbrev part_at : List ℕ → PartState
    part_at q = carry route least old (q, numbers_after q (taken ∷ S))

    old_pair : (t : PartState) → Member t old → Listed S t.prefix × (t.excluded ≡ numbers_after t.prefix S)
    old_pair t m = tree_has t.prefix t.excluded S (subst (Member (pair_of t)) is_tree (Member-map pair_of t old m))

    here_pair : Listed S p × (X ≡ numbers_after p S)
    here_pair = old_pair here (Member-append_left here (front ++ here ∷ mid) back (Member-append_right here front (here ∷ mid) (inl refl)))

    unused' : has nat_cmp x (numbers_after p S) ≡ true → ⊥
    unused' h = true≢false (sym h ∙ ap (has nat_cmp x) (sym here_pair.1) ∙ unused)

    keys_old : map key old ≡ prefixes S
    keys_old = sym (map_map pair_of (λ e. e.0) old) ∙ ap (map (λ e. e.0)) is_tree ∙ prefixes_of_tree S (prefixes S)

    rises_old : Rises by_numbers (map key old)
    rises_old = subst (Rises by_numbers) (sym keys_old) (Rises-prefixes S)

    -- the prefixes beside p are other prefixes
    beside : (t : PartState) → Member t front ⊎ Member t (mid ++ back) → t.prefix ≡ p → ⊥
    beside t m e =
        let around : List PartState = mid ++ back in
        let w = Rises-parts nat_list_cmp_total (map key front) (p ∷ map key around) (subst (Rises by_numbers) (ap (map key) (append_assoc front (here ∷ mid) back) ∙ map-append key front (here ∷ around)) rises_old) in
        Less-apart nat_list_cmp_total p (elim m [
          | inl f ↦ subst (λ z. by_numbers z p ≡ Less) e (w.2 t.prefix p (Member-map key t front f) (inl refl))
          | inr f ↦ subst (λ z. by_numbers p z ≡ Less) e (Below-member nat_list_cmp_total p t.prefix (map key around) w.1.0 (Member-map key t around f))
        ])

    -- what follows the taken route after another listed prefix is excluded there
    numbers_after_kept : (q : List ℕ) → Listed S q → (q ≡ p → ⊥) → numbers_after q (taken ∷ S) ≡ numbers_after q S
    numbers_after_kept q l other = elim (number_after q taken) as (λ n. number_after q taken ≡ n → put_number n (numbers_after q S) ≡ numbers_after q S) [
      | None ↦ λ _. refl
      | Some z ↦ λ e. elim (number_after-compare q p taken z x e (number_after-snoc p rest x)) [
        | inl h ↦ absurd (other h)
        | inr h ↦ elim h [
          | inl u ↦ put_again nat_cmp_total numbers_exact z (numbers_after q S) (Rises-numbers_after q S) (earlier_excludes S q p z here_pair.0 u)
          | inr u ↦ absurd (unused' (earlier_excludes S p q x l u))
        ]
      ]
    ] refl

    -- a part of the list after the step
    abbrev IsMade : PartState → Type 0
    IsMade t = Listed (taken ∷ S) t.prefix × (part_at t.prefix ≡ t)

    made : (t : PartState) → Listed (taken ∷ S) t.prefix → t.excluded ≡ numbers_after t.prefix (taken ∷ S) → carried_in old (pair_of t) (least t.prefix t.excluded) ≡ t.carried → IsMade t
    made t l e h =
        let h' : carried_in old (t.prefix, numbers_after t.prefix (taken ∷ S)) (least t.prefix (numbers_after t.prefix (taken ∷ S))) ≡ t.carried = subst (λ W. carried_in old (t.prefix, W) (least t.prefix W) ≡ t.carried) e h in
        (l, λ i. record { prefix = t.prefix; excluded = sym e i; carried = h' i })

    kept : (t : PartState) → Member t old → Member t front ⊎ Member t (mid ++ back) → IsMade t
    kept t m other =
        let w = old_pair t m in
        made t (Listed-within S (taken ∷ S) (λ s m. In-later s taken S m) t.prefix w.0)
        (w.1 ∙ sym (numbers_after_kept t.prefix w.0 (beside t other)))
        (carried_stands old t (least t.prefix t.excluded) rises_old m)

    wide_made : IsMade wide
    wide_made = made wide (inr (taken, x, In-first taken S, number_after-snoc p rest x))
        (ap (put_in nat_cmp x) here_pair.1 ∙ ap (λ n. put_number n (numbers_after p S)) (sym (number_after-snoc p rest x)))
        (carried_absent old (pair_of wide) (least p (put_in nat_cmp x X)) (λ t m e. unused' (ap (λ (z : List ℕ × List ℕ). has nat_cmp x (numbers_after z.0 S)) (sym e) ∙ ap (has nat_cmp x) (sym (old_pair t m).1 ∙ ap (λ (z : List ℕ × List ℕ). z.1) e)
        ∙ put_in_has nat_cmp_total x x X (inl refl))))

    -- nothing in S goes through p and x
    untouched : (s a : List ℕ) (z : ℕ) → In s S → number_after (next ++ a) s ≡ Some z → ⊥
    untouched s a z h e = unused' (has_numbers_after x p s S h (number_after-trans p (next ++ a) s x z (ap (number_after p) (append_assoc p (x ∷ []) a) ∙ number_after-snoc p a x) e))

    fresh_made : (a b : List ℕ) (y : ℕ) → rest ≡ a ++ y ∷ b → IsMade (alone (next ++ a) y)
    fresh_made a b y e =
        let q : List ℕ = next ++ a in
        let then : number_after q taken ≡ Some y = ap (number_after q) (sym (append_assoc p (x ∷ []) rest) ∙ ap (λ z. next ++ z) e ∙ sym (append_assoc next a (y ∷ b))) ∙ number_after-snoc q b y in
        let none : numbers_after q S ≡ [] = nothing (numbers_after q S) (λ z h. let w = numbers_after_has z q S h in untouched w.0 a z w.1 w.2) in
        made (alone q y) (inr (taken, y, In-first taken S, then)) (λ i. put_number (sym then i) (sym none i))
        (carried_absent old (q, y ∷ []) (least q (y ∷ [])) (λ t m e. elim (subst (Listed S) (ap (λ (z : List ℕ × List ℕ). z.0) e) (old_pair t m).0) [
          | inl h ↦ not_empty p x (nil_front next a h)
          | inr w ↦ untouched w.0 a w.1 w.2 w.3
        ]))
      where
        nothing : (xs : List ℕ) → ((z : ℕ) → has nat_cmp z xs ≡ true → ⊥) → xs ≡ []
        nothing [] f = refl
        nothing (y ∷ ys) f = absurd (f y (has_itself nat_cmp_total y ys))

        nil_front : (q a : List ℕ) → q ++ a ≡ [] → q ≡ []
        nil_front [] a e = refl
        nil_front (y ∷ q) a e = cc

    each_made : (t : PartState) → Member t new → IsMade t
    each_made t m = elim (Member-append_cases t (front ++ wide ∷ mid) (block ++ back) m) [
      | inl m ↦ elim (Member-append_cases t front (wide ∷ mid) m) [
        | inl f ↦ kept t (Member-append_left t (front ++ here ∷ mid) back (Member-append_left t front (here ∷ mid) f)) (inl f)
        | inr f ↦ elim f [
          | inl e ↦ subst IsMade (sym e) wide_made
          | inr g ↦ kept t (Member-append_left t (front ++ here ∷ mid) back (Member-append_right t front (here ∷ mid) (inr g))) (inr (Member-append_left t mid back g))
        ]
      ]
      | inr m ↦ elim (Member-append_cases t block back m) [
        | inl f ↦ let w = fresh_cases next rest t f in subst IsMade (sym w.4) (fresh_made w.0 w.2 w.1 w.3)
        | inr f ↦ kept t (Member-append_right t (front ++ here ∷ mid) back f) (inr (Member-append_right t mid back f))
      ]
    ]

    -- ---- the prefixes
    abbrev A : List (List ℕ)
    A = map key (front ++ here ∷ mid)

    abbrev B : List (List ℕ)
    B = map key block

    abbrev C : List (List ℕ)
    C = map key back

    keys_old_parts : map key old ≡ A ++ C
    keys_old_parts = map-append key (front ++ here ∷ mid) back

    keys_new : map key new ≡ A ++ (B ++ C)
    keys_new =
        let same : map key (front ++ wide ∷ mid) ≡ A = map-append key front (wide ∷ mid) ∙ sym (map-append key front (here ∷ mid)) in
        map-append key (front ++ wide ∷ mid) (block ++ back) ∙ (λ i. same i ++ map-append key block back i)

    still_listed : (q : List ℕ) → Listed S q → Member q (A ++ (B ++ C))
    still_listed q l = elim (Member-append_cases q A C (subst (Member q) (sym keys_old ∙ keys_old_parts) (Member_In q (prefixes S) (has_prefixes q S l)))) [
      | inl m ↦ Member-append_left q A (B ++ C) m
      | inr m ↦ Member-append_right q A (B ++ C) (Member-append_right q B C m)
    ]

    through_taken : (q : List ℕ) (z : ℕ) → number_after q taken ≡ Some z → Member q (A ++ (B ++ C))
    through_taken q z e = elim (number_after-compare q p taken z x e (number_after-snoc p rest x)) [
      | inl h ↦ still_listed q (subst (Listed S) (sym h) here_pair.0)
      | inr h ↦ elim h [
        | inl u ↦ still_listed q (elim here_pair.0 [ inl k ↦ absurd (number_after-nil q z (ap (number_after q) (sym k) ∙ u)) | inr w ↦ inr (w.0, z, w.2, number_after-trans q p w.0 z w.1 u w.3) ])
        | inr u ↦
            let s = number_after_some p q x u in
            let v = number_after_some q taken z e in
            let is : q ≡ next ++ s.0 = s.1 ∙ sym (append_assoc p (x ∷ []) s.0) in
            let split : rest ≡ s.0 ++ z ∷ v.0 = append_cancel_left next rest (s.0 ++ z ∷ v.0) (append_assoc p (x ∷ []) rest ∙ v.1 ∙ ap (λ w. w ++ z ∷ v.0) is ∙ append_assoc next s.0 (z ∷ v.0)) in
            Member-append_right q A (B ++ C) (Member-append_left q B C (subst (λ w. Member w B) (sym is) (subst (λ w. Member (next ++ s.0) (map key (fresh least next w))) (sym split) (fresh_has next s.0 v.0 z))))
      ]
    ]

    rises_new : Rises by_numbers (A ++ (B ++ C))
    rises_new =
        let w = Rises-parts nat_list_cmp_total A C (subst (Rises by_numbers) keys_old_parts rises_old) in
        let u = Rises-parts nat_list_cmp_total (map key front) (p ∷ map key mid) (subst (Rises by_numbers) (map-append key front (here ∷ mid)) w.0) in
        let low_A : (a : List ℕ) → Member a A → by_numbers a next ≡ Less = λ a m. elim (Member-append_cases a (map key front) (p ∷ map key mid) (subst (Member a) (map-append key front (here ∷ mid)) m)) [
          | inl f ↦ less_longer a p (x ∷ []) (u.2 a p f (inl refl))
          | inr f ↦ elim f [
            | inl e ↦ subst (λ z. by_numbers z next ≡ Less) (sym e) (begins_less p x [])
            | inr g ↦ let v = Member-map_cases key a mid g in subst (λ z. by_numbers z next ≡ Less) (sym v.1) (low v.0 v.2)
          ]
        ] in
        let high_C : (b c : List ℕ) → Member b B → Member c C → by_numbers b c ≡ Less = λ b c m n.
        let k = fresh_key next rest b m in
        let v = Member-map_cases key c back n in
        let l = (old_pair v.0 (Member-append_right v.0 (front ++ here ∷ mid) back v.2)).0 in
        subst (λ z. by_numbers z c ≡ Less) (sym k.1) (subst (λ z. by_numbers (next ++ k.0) z ≡ Less) (sym v.1) (above_longer next v.0.prefix k.0 (high v.0 v.2) (λ n e.
        unused' (earlier_excludes S p v.0.prefix x l (number_after-trans p next v.0.prefix x n (number_after-snoc p [] x) e))))) in
        Rises-append nat_list_cmp_total A (B ++ C) w.0 (Rises-append nat_list_cmp_total B C (fresh_rises next rest) w.1 high_C) (λ a b m n. elim (Member-append_cases b B C n) [
          | inl k ↦ let f = fresh_key next rest b k in subst (λ z. by_numbers a z ≡ Less) (sym f.1) (less_longer a next f.0 (low_A a m))
          | inr k ↦ w.2 a b m k
        ])

    keys_same : map key new ≡ prefixes (taken ∷ S)
    keys_same = same_members nat_list_cmp_total lists_exact (map key new) (prefixes (taken ∷ S)) (subst (Rises by_numbers) (sym keys_new) rises_new) (Rises-prefixes (taken ∷ S)) (λ q. both_ways _ _
        (λ h. let v = Member-map_cases key q new (Member_In q (map key new) h) in has_prefixes q (taken ∷ S) (subst (Listed (taken ∷ S)) (sym v.1) (each_made v.0 v.2).0))
        (λ h. In_Member q (map key new) (subst (Member q) (sym keys_new) (elim (prefixes_has q (taken ∷ S) h) [
          | inl e ↦ still_listed q (inl e)
          | inr w ↦ elim (In-cases w.0 taken S w.2) [
            | inl e ↦ through_taken q w.1 (ap (number_after q) (sym e) ∙ w.3)
            | inr m ↦ still_listed q (inr (w.0, w.1, m, w.3))
          ]
        ]))))

    -- the list after the change is the one that the step names, with the set of the leaves
    pub divided_set : new ≡ map (carry route least old) (tree (put_in by_numbers taken S))
    divided_set = sym (map_back key part_at new (λ t m. (each_made t m).1)) ∙ ap (map part_at) keys_same ∙ sym (map_map (λ q. (q, numbers_after q (taken ∷ S))) (carry route least old) (prefixes (taken ∷ S)))
        ∙ ap (map (carry route least old)) (tree_same (taken ∷ S) (put_in by_numbers taken S) (λ q. sym (has-put_in nat_list_cmp_total q taken S)))

-- ---- every route is one of S or in exactly one part of the tree of S

module _ (route : List ℕ → Bool) (apart : (s t : List ℕ) (x : ℕ) → route s ≡ true → route t ≡ true → number_after s t ≡ Some x → ⊥) (S : List (List ℕ)) (routes : (s : List ℕ) → In s S → route s ≡ true) (r : List ℕ) (is : route r ≡ true) where
  -- a route that is taken is in no part
  pub taken_in_none : In r S → (p : List ℕ) → Within p (numbers_after p S) r → ⊥
  taken_in_none h p w = true≢false (sym (has_numbers_after w.0 p r S h w.1) ∙ w.2)

  -- it is in no two parts
  pub in_one_part : (p q : List ℕ) → Listed S p → Listed S q → Within p (numbers_after p S) r → Within q (numbers_after q S) r → p ≡ q
  in_one_part p q lp lq wp wq = elim (number_after-compare p q r wp.0 wq.0 wp.1 wq.1) [
    | inl e ↦ e
    | inr t ↦ elim t [
      | inl u ↦ absurd (true≢false (sym (earlier_excludes S p q wp.0 lq u) ∙ wp.2))
      | inr u ↦ absurd (true≢false (sym (earlier_excludes S q p wq.0 lp u) ∙ wq.2))
    ]
  ]

  module _ (fresh : has by_numbers r S ≡ false) where
    Placed : Type 0
    Placed = (q : List ℕ) × (Listed S q) × (Within q (numbers_after q S) r)

    placed_here : (rest p : List ℕ) (x : ℕ) → r ≡ p ++ x ∷ rest → Listed S p → has nat_cmp x (numbers_after p S) ≡ false → Placed
    unfolding Placed
    placed_here rest p x e l f = (p, l, (x, ap (number_after p) e ∙ number_after-snoc p rest x, f))

    -- down along r from a listed beginning: the first number that isn't excluded ends the walk
    walk : (rest p : List ℕ) (x : ℕ) → r ≡ p ++ x ∷ rest → Listed S p → Placed
    walk [] p x e l = elim (cases_Bool (has nat_cmp x (numbers_after p S))) [
      | inl t ↦
          let w = numbers_after_has x p S t in
          elim (number_after-longer p w.0 x w.2) [
            | inl whole ↦ absurd (true≢false (sym (ap (λ z. has by_numbers z S) (e ∙ sym whole) ∙ w.1) ∙ fresh))
            | inr more ↦ absurd (apart r w.0 more.0 is (routes w.0 w.1) (ap (λ z. number_after z w.0) e ∙ more.1))
          ]
      | inr f ↦ placed_here [] p x e l f
    ]
    walk (z ∷ rest) p x e l = elim (cases_Bool (has nat_cmp x (numbers_after p S))) [
      | inl t ↦
          let w = numbers_after_has x p S t in
          let e' = e ∙ sym (append_assoc p (x ∷ []) (z ∷ rest)) in
          elim (number_after-longer p w.0 x w.2) [
            | inl whole ↦ absurd (apart w.0 r z (routes w.0 w.1) is (ap (λ y. number_after y r) whole ∙ ap (number_after (p ++ x ∷ [])) e' ∙ number_after-snoc (p ++ x ∷ []) rest z))
            | inr more ↦ walk rest (p ++ x ∷ []) z e' (inr (w.0, more.0, w.1, more.1))
          ]
      | inr f ↦ placed_here (z ∷ rest) p x e l f
    ]

    -- a route that isn't taken is in a part
    pub in_some_part : (r ≡ [] → ⊥) → (q : List ℕ) × (Listed S q) × (Within q (numbers_after q S) r)
    unfolding Placed
    in_some_part filled = elim r as (λ r'. r ≡ r' → (q : List ℕ) × (Listed S q) × (Within q (numbers_after q S) r)) [
      | [] ↦ λ e. absurd (filled e)
      | x ∷ rest ↦ λ e. walk rest [] x e (inl refl)
    ] refl
