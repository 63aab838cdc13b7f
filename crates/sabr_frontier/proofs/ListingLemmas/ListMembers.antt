-- Lists that rise, by a key or strictly, and their members.
use Rattle.sabr_frontier.proofs.Names.{◌≡◌, Bool, true, false, ◌||◌, cond, List, [], ◌∷◌, ◌++◌, map, filter, flat_map, sym, ap, subst, refl, ◌∙◌, true≢false, ◌⊎◌, inl, inr, ◌+◌, length, arith, ℕ, IsTotalOrder, both_ways, list_any, or_cases, or_left, or_right, tied_itself, alike_right, upto, nat_list_cmp_total, is_eq, ordering_reverse, is_gt, is_lt, Ordering, Less, Equal, Greater, Below, Rises, has, Member, InPairs, put_in, by_numbers, map-id}

pub Member-append_left : {X : Type 0} (e : X) (xs ys : List X) → Member e xs → Member e (xs ++ ys)
Member-append_left e [] ys h = absurd h
Member-append_left e (x ∷ xs) ys (inl h) = inl h
Member-append_left e (x ∷ xs) ys (inr h) = inr (Member-append_left e xs ys h)

pub Member-append_right : {X : Type 0} (e : X) (xs ys : List X) → Member e ys → Member e (xs ++ ys)
Member-append_right e [] ys h = h
Member-append_right e (x ∷ xs) ys h = inr (Member-append_right e xs ys h)

pub Member-append_cases : {X : Type 0} (e : X) (xs ys : List X) → Member e (xs ++ ys) → Member e xs ⊎ Member e ys
Member-append_cases e [] ys h = inr h
Member-append_cases e (x ∷ xs) ys (inl h) = inl (inl h)
Member-append_cases e (x ∷ xs) ys (inr h) = elim (Member-append_cases e xs ys h) [ inl t ↦ inl (inr t) | inr t ↦ inr t ]

pub Member-map : {X Y : Type 0} (f : X → Y) (e : X) (xs : List X) → Member e xs → Member (f e) (map f xs)
Member-map f e [] h = h
Member-map f e (x ∷ xs) (inl h) = inl (ap f h)
Member-map f e (x ∷ xs) (inr h) = inr (Member-map f e xs h)

pub Member-map_cases : {X Y : Type 0} (f : X → Y) (e : Y) (xs : List X) → Member e (map f xs) → (x : X) × (e ≡ f x) × Member x xs
Member-map_cases f e [] h = absurd h
Member-map_cases f e (x ∷ xs) (inl h) = (x, h, inl refl)
Member-map_cases f e (x ∷ xs) (inr h) = let w = Member-map_cases f e xs h in (w.0, w.1, inr w.2)

pub Member-filter : {X : Type 0} (p : X → Bool) (e : X) (xs : List X) → p e ≡ true → Member e xs → Member e (filter p xs)
Member-filter p e [] t h = h
Member-filter p e (x ∷ xs) t (inl h) = subst (λ b. Member e (cond b (x ∷ filter p xs) (filter p xs))) (sym t ∙ ap p h) (inl h)
Member-filter p e (x ∷ xs) t (inr h) = elim (p x) as (λ b. Member e (cond b (x ∷ filter p xs) (filter p xs))) [ true ↦ inr (Member-filter p e xs t h) | false ↦ Member-filter p e xs t h ]

pub Member-filter_cases : {X : Type 0} (p : X → Bool) (e : X) (xs : List X) → Member e (filter p xs) → (p e ≡ true) × Member e xs
Member-filter_cases p e [] h = absurd h
Member-filter_cases p e (x ∷ xs) h = elim (p x) as (λ b. p x ≡ b → Member e (cond b (x ∷ filter p xs) (filter p xs)) → (p e ≡ true) × Member e (x ∷ xs)) [
  | true ↦ λ t. elim [ inl e' ↦ (ap p e' ∙ t, inl e') | inr m ↦ let w = Member-filter_cases p e xs m in (w.0, inr w.1) ]
  | false ↦ λ t m. let w = Member-filter_cases p e xs m in (w.0, inr w.1)
] refl h

pub filter_none : {X : Type 0} (p : X → Bool) (xs : List X) → ((x : X) → Member x xs → p x ≡ false) → filter p xs ≡ []
filter_none p [] h = refl
filter_none p (x ∷ xs) h = ap (λ b. cond b (x ∷ filter p xs) (filter p xs)) (h x (inl refl)) ∙ filter_none p xs (λ y m. h y (inr m))

-- a member passes the test, if any does
pub any_has : {X : Type 0} (test : X → Bool) (xs : List X) → list_any test xs ≡ true → (x : X) × Member x xs × (test x ≡ true)
any_has test [] e = absurd (true≢false (sym e))
any_has test (x ∷ xs) e = elim (or_cases (test x) (list_any test xs) e) [ inl h ↦ (x, inl refl, h) | inr h ↦ let w = any_has test xs h in (w.0, inr w.1, w.2) ]

pub none_has : {X : Type 0} (test : X → Bool) (xs : List X) → list_any test xs ≡ false → (x : X) → Member x xs → test x ≡ false
none_has test [] e x m = absurd m
none_has test (y ∷ xs) e x (inl h) = elim (test y) as (λ b. test y ≡ b → (b || list_any test xs) ≡ false → test x ≡ false) [ true ↦ λ _ k. absurd (true≢false k) | false ↦ λ k _. ap test h ∙ k ] refl e
none_has test (y ∷ xs) e x (inr m) = elim (test y) as (λ b. (b || list_any test xs) ≡ false → test x ≡ false) [ true ↦ λ k. absurd (true≢false k) | false ↦ λ k. none_has test xs k x m ] e

pub Member-flat_map : {X Y : Type 0} (f : X → List Y) (e : Y) (x : X) (xs : List X) → Member x xs → Member e (f x) → Member e (flat_map f xs)
Member-flat_map f e x [] h m = absurd h
Member-flat_map f e x (y ∷ ys) (inl h) m = Member-append_left e (f y) (flat_map f ys) (subst (λ z. Member e (f z)) h m)
Member-flat_map f e x (y ∷ ys) (inr h) m = Member-append_right e (f y) (flat_map f ys) (Member-flat_map f e x ys h m)

pub Member-flat_map_cases : {X Y : Type 0} (f : X → List Y) (e : Y) (xs : List X) → Member e (flat_map f xs) → (x : X) × Member x xs × Member e (f x)
Member-flat_map_cases f e [] h = absurd h
Member-flat_map_cases f e (x ∷ xs) h = elim (Member-append_cases e (f x) (flat_map f xs) h) [
  | inl t ↦ (x, inl refl, t)
  | inr t ↦ let w = Member-flat_map_cases f e xs t in (w.0, inr w.1, w.2)
]

module _ {K : Type 0} {R : K → K → Ordering} (o : IsTotalOrder R) where
  pub Less-apart : (x : K) → R x x ≡ Less → ⊥
  Less-apart x e = true≢false (sym (ap is_eq (tied_itself o x)) ∙ ap is_eq e)

  pub Below-member : (x y : K) (ys : List K) → Below R x ys → Member y ys → R x y ≡ Less
  Below-member x y [] b h = absurd h
  Below-member x y (z ∷ zs) b (inl h) = ap (R x) h ∙ b.0
  Below-member x y (z ∷ zs) b (inr h) = Below-member x y zs b.1 h

  module _ {X : Type 0} (key : X → K) where
    after : (x : X) (e : X) (xs : List X) → Below R (key x) (map key xs) → Member e xs → R (key x) (key e) ≡ Less
    after x e xs b h = Below-member (key x) (key e) (map key xs) b (Member-map key e xs h)

    -- lists that rise by a key and have the same members are equal
    pub same_by_members : (xs ys : List X) → Rises R (map key xs) → Rises R (map key ys) → ((e : X) → Member e xs → Member e ys) → ((e : X) → Member e ys → Member e xs) → xs ≡ ys
    same_by_members [] [] a b f g = refl
    same_by_members [] (y ∷ ys) a b f g = absurd (g y (inl refl))
    same_by_members (x ∷ xs) [] a b f g = absurd (f x (inl refl))
    same_by_members (x ∷ xs) (y ∷ ys) a b f g =
        let same : x ≡ y = elim (f x (inl refl)) [
          | inl e ↦ e
          | inr m ↦ elim (g y (inl refl)) [
            | inl e ↦ sym e
            | inr n ↦ absurd (Less-apart (key x) (o.trans (key x) (key y) (key x) (after x y xs a.0 n) (after y x ys b.0 m)))
          ]
        ] in
        let below : Below R (key x) (map key ys) = subst (λ z. Below R (key z) (map key ys)) (sym same) b.0 in
        λ i. same i ∷ same_by_members xs ys a.1 b.1
        (λ e m. elim (f e (inr m)) [ inl h ↦ absurd (Less-apart (key x) (ap (λ z. R (key x) (key z)) (same ∙ sym h) ∙ after x e xs a.0 m)) | inr h ↦ h ])
        (λ e m. elim (g e (inr m)) [ inl h ↦ absurd (Less-apart (key x) (ap (λ z. R (key x) (key z)) (sym h) ∙ after x e ys below m)) | inr h ↦ h ]) i

-- ---- maps, and lists in pairs

pub map_map : {X Y Z : Type 0} (f : X → Y) (g : Y → Z) (xs : List X) → map g (map f xs) ≡ map (λ x. g (f x)) xs
map_map f g [] = refl
map_map f g (x ∷ xs) = ap (λ t. g (f x) ∷ t) (map_map f g xs)

-- what is mapped there and back
pub map_back : {X Y : Type 0} (f : X → Y) (g : Y → X) (xs : List X) → ((x : X) → Member x xs → g (f x) ≡ x) → map g (map f xs) ≡ xs
map_back f g [] h = refl
map_back f g (x ∷ xs) h = λ i. h x (inl refl) i ∷ map_back f g xs (λ y m. h y (inr m)) i

pub map_same : {X Y : Type 0} (f g : X → Y) (xs : List X) → ((x : X) → Member x xs → f x ≡ g x) → map f xs ≡ map g xs
map_same f g [] h = refl
map_same f g (x ∷ xs) h = λ i. h x (inl refl) i ∷ map_same f g xs (λ y m. h y (inr m)) i

pub pairs_two : {X : Type 0} (Q : X → X → Type 0) (xs ys : List X) → InPairs Q xs → InPairs Q ys → ((a b : X) → Member a xs → Member b ys → Q a b) → InPairs Q (xs ++ ys)
pairs_two Q [] ys h k f = k
pairs_two Q (x ∷ xs) ys h k f = ((λ y m. elim (Member-append_cases y xs ys m) [ inl a ↦ h.0 y a | inr a ↦ f x y (inl refl) a ]), pairs_two Q xs ys h.1 k (λ a b m. f a b (inr m)))

-- ---- what holds of lists that rise strictly, as finite sets

-- only equal keys tie
abbrev pub IsExact : {K : Type 0} → (K → K → Ordering) → Type 0
IsExact {K} R = (x y : K) → R x y ≡ Equal → x ≡ y

pub or_same : (a b : Bool) → (a || (a || b)) ≡ (a || b)
or_same true b = refl
or_same false b = refl

pub or_swap : (a b c : Bool) → (a || (b || c)) ≡ (b || (a || c))
or_swap true true c = refl
or_swap true false c = refl
or_swap false b c = refl

pub is_equal : (r : Ordering) → is_eq r ≡ true → r ≡ Equal
is_equal Less e = absurd (true≢false (sym e))
is_equal Equal e = refl
is_equal Greater e = absurd (true≢false (sym e))

pub less_from_test : (o : Ordering) → is_lt o ≡ true → o ≡ Less
less_from_test Less e = refl
less_from_test Equal e = absurd (true≢false (sym e))
less_from_test Greater e = absurd (true≢false (sym e))

-- what is before a prefix that is below q is below q
pub earlier_prefix : (q a b : List ℕ) → by_numbers a b ≡ Less → is_lt (by_numbers b q) ≡ true → is_lt (by_numbers a q) ≡ true
earlier_prefix q a b e t = ap is_lt (nat_list_cmp_total.trans a b q e (less_from_test (by_numbers b q) t))

module _ {K : Type 0} {R : K → K → Ordering} (o : IsTotalOrder R) where
  pub turned : (x y : K) (r : Ordering) → R x y ≡ r → R y x ≡ ordering_reverse r
  turned x y r e = o.antisymm y x ∙ ap ordering_reverse e

  pub not_less_itself : (x : K) → is_lt (R x x) ≡ false
  not_less_itself x = ap is_lt (tied_itself o x)

  -- x is not below y, and y not below z, so x is not below z
  pub not_below : (x y z : K) → is_lt (R x y) ≡ false → is_lt (R y z) ≡ false → is_lt (R x z) ≡ false
  not_below x y z p q = sym (from_above x z) ∙ upto o z y x (from_above y z ∙ q) (from_above x y ∙ p)
    where
      from_above : (x y : K) → is_gt (R y x) ≡ is_lt (R x y)
      from_above x y = ap is_gt (o.antisymm y x) ∙ elim (R x y) as (λ r. is_gt (ordering_reverse r) ≡ is_lt r) [ Less ↦ refl | Equal ↦ refl | Greater ↦ refl ]

  pub Below-lower : (x y : K) (ys : List K) → R x y ≡ Less → Below R y ys → Below R x ys
  Below-lower x y [] e h = tt
  Below-lower x y (z ∷ zs) e h = (o.trans x y z e h.0, Below-lower x y zs e h.1)

  pub Below-put_in : (w x : K) (xs : List K) → R w x ≡ Less → Below R w xs → Below R w (put_in R x xs)
  Below-put_in w x [] e h = (e, tt)
  Below-put_in w x (y ∷ ys) e h = elim (R x y) as (λ r. Below R w (elim r [ Less ↦ x ∷ y ∷ ys | Equal ↦ y ∷ ys | Greater ↦ y ∷ put_in R x ys ])) [
    | Less ↦ (e, h)
    | Equal ↦ h
    | Greater ↦ (h.0, Below-put_in w x ys e h.1)
  ]

  pub Rises-put_in : (x : K) (xs : List K) → Rises R xs → Rises R (put_in R x xs)
  Rises-put_in x [] h = (tt, tt)
  Rises-put_in x (y ∷ ys) h = elim (R x y) as (λ r. R x y ≡ r → Rises R (elim r [ Less ↦ x ∷ y ∷ ys | Equal ↦ y ∷ ys | Greater ↦ y ∷ put_in R x ys ])) [
    | Less ↦ λ e. ((e, Below-lower x y ys e h.0), h)
    | Equal ↦ λ e. h
    | Greater ↦ λ e. (Below-put_in y x ys (turned x y Greater e) h.0, Rises-put_in x ys h.1)
  ] refl

  pub has-put_in : (q x : K) (xs : List K) → has R q (put_in R x xs) ≡ (is_eq (R q x) || has R q xs)
  has-put_in q x [] = refl
  has-put_in q x (y ∷ ys) = elim (R x y) as (λ r. R x y ≡ r → has R q (elim r [ Less ↦ x ∷ y ∷ ys | Equal ↦ y ∷ ys | Greater ↦ y ∷ put_in R x ys ]) ≡ (is_eq (R q x) || (is_eq (R q y) || has R q ys))) [
    | Less ↦ λ e. refl
    | Equal ↦ λ e. sym (or_same (is_eq (R q y)) (has R q ys)) ∙ ap (λ r. is_eq r || (is_eq (R q y) || has R q ys)) (sym (alike_right o x y q e))
    | Greater ↦ λ e. ap (λ b. is_eq (R q y) || b) (has-put_in q x ys) ∙ or_swap (is_eq (R q y)) (is_eq (R q x)) (has R q ys)
  ] refl

  pub put_in_has : (q x : K) (xs : List K) → (q ≡ x) ⊎ (has R q xs ≡ true) → has R q (put_in R x xs) ≡ true
  put_in_has q x xs (inl e) = has-put_in q x xs ∙ or_left (is_eq (R q x)) (has R q xs) (ap is_eq (ap (R q) (sym e) ∙ tied_itself o q))
  put_in_has q x xs (inr h) = has-put_in q x xs ∙ or_right (is_eq (R q x)) (has R q xs) h

  pub put_in_cases : IsExact R → (q x : K) (xs : List K) → has R q (put_in R x xs) ≡ true → (q ≡ x) ⊎ (has R q xs ≡ true)
  put_in_cases exact q x xs h = elim (or_cases (is_eq (R q x)) (has R q xs) (sym (has-put_in q x xs) ∙ h)) [ inl t ↦ inl (exact q x (is_equal _ t)) | inr t ↦ inr t ]

  pub has_itself : (x : K) (ys : List K) → has R x (x ∷ ys) ≡ true
  has_itself x ys = ap (λ r. is_eq r || has R x ys) (tied_itself o x)

  pub has_exact : IsExact R → (q x : K) (xs : List K) → has R q (x ∷ xs) ≡ true → (q ≡ x) ⊎ (has R q xs ≡ true)
  has_exact exact q x xs e = elim (or_cases (is_eq (R q x)) (has R q xs) e) [ inl t ↦ inl (exact q x (is_equal _ t)) | inr t ↦ inr t ]

  -- between the two words for a member
  pub member_has : (x : K) (xs : List K) → Member x xs → has R x xs ≡ true
  member_has x [] m = absurd m
  member_has x (y ∷ ys) (inl e) = or_left _ _ (ap is_eq (ap (R x) (sym e) ∙ tied_itself o x))
  member_has x (y ∷ ys) (inr m) = or_right _ _ (member_has x ys m)

  pub has_member : IsExact R → (x : K) (xs : List K) → has R x xs ≡ true → Member x xs
  has_member exact x [] h = absurd (true≢false (sym h))
  has_member exact x (y ∷ ys) h = elim (has_exact exact x y ys h) [ inl e ↦ inl e | inr t ↦ inr (has_member exact x ys t) ]

  -- lists that rise and have the same members are equal
  pub same_members : IsExact R → (xs ys : List K) → Rises R xs → Rises R ys → ((q : K) → has R q xs ≡ has R q ys) → xs ≡ ys
  same_members exact xs ys a b h = same_by_members o (λ x. x) xs ys (subst (Rises R) (sym (map-id xs)) a) (subst (Rises R) (sym (map-id ys)) b)
      (λ x m. has_member exact x ys (sym (h x) ∙ member_has x xs m)) (λ x m. has_member exact x xs (h x ∙ member_has x ys m))

  -- a new member makes it one longer
  pub length-put_in : (x : K) (xs : List K) → has R x xs ≡ false → length (put_in R x xs) ≡ length xs + 1
  length-put_in x [] h = refl
  length-put_in x (y ∷ ys) h = elim (R x y) as (λ r. (is_eq r || has R x ys) ≡ false → length {A = K} (elim r [ Less ↦ x ∷ y ∷ ys | Equal ↦ y ∷ ys | Greater ↦ y ∷ put_in R x ys ]) ≡ length (y ∷ ys) + 1) [
    | Less ↦ λ _. omega arith
    | Equal ↦ λ e. absurd (true≢false e)
    | Greater ↦ λ e. omega (arith, length-put_in x ys e)
  ] h

  -- a member that is there already changes nothing
  pub put_again : IsExact R → (x : K) (xs : List K) → Rises R xs → has R x xs ≡ true → put_in R x xs ≡ xs
  put_again exact x xs h e = same_members exact _ _ (Rises-put_in x xs h) h (λ q. both_ways _ _
      (λ k. elim (put_in_cases exact q x xs k) [ inl s ↦ ap (λ z. has R z xs) s ∙ e | inr m ↦ m ]) (λ k. put_in_has q x xs (inr k)))

  pub has-append : (q : K) (xs ys : List K) → has R q (xs ++ ys) ≡ (has R q xs || has R q ys)
  has-append q [] ys = refl
  has-append q (x ∷ xs) ys = elim (is_eq (R q x)) as (λ b. (b || has R q (xs ++ ys)) ≡ ((b || has R q xs) || has R q ys)) [ true ↦ refl | false ↦ has-append q xs ys ]
