-- Fronts of a list, numbers after them and among excluded ones, and where a test of a list changes its answer.
use Rattle.sabr_frontier.proofs.Names.{◌≡◌, ℕ, zero, suc, ◌+◌, ◌<◌, ◌≤◌, ◌||◌, List, [], ◌∷◌, ◌++◌, length, take, drop, get_or, refl, sym, ap, ◌∙◌, arith, Option, Some, append_assoc, append-nil, drop-cons, length-take-le, take-suc, Bool, true, false, cond, not, nat_eq, filter, true≢false, subst, ltb, insert, inl, inr, None, drop_all, is_some, slice_get, number_after, RouteRecord, Node, longer_go_on, fresh_nodes, widened, wide_of, passing, modify, including, CanExclude, excluding, carrying, or_parts, cases_Bool, nat_tests, is_eq, nat_cmp, Less, Equal, Greater, put_in, has, Rises, find, IsPartitionPoint, IsPartitionedBy, IsStrictlyIncreasing, IsTotalOrder, Ordering, Member, InPairs}
use Rattle.std.specs.Prelude.{slice_index, map}
use Rattle.sabr_frontier.proofs.ListingLemmas.NumbersAfter.{number_after-same}
use Rattle.sabr_frontier.proofs.TreeLemmas.ModifiedPlaces.{modify_twice, modify_back, modify_same, get_same, member_at}
use Rattle.sabr_frontier.proofs.ListingLemmas.ListMembers.{Below-member, Member-map}

pub number_after-take : (s : List ℕ) (n : ℕ) → n < length s → number_after (take n s) s ≡ Some (get_or s n 0)
number_after-take [] n l = absurd (omega arith)
number_after-take (x ∷ s) zero l = refl
number_after-take (x ∷ s) (suc n) l = number_after-same x (get_or s n 0) (take n s) s (number_after-take s n (omega arith))

-- the nodes from n numbers on are the one for n numbers and those from one number more on
pub fresh_next : {A : Type 0} (best : List ℕ → List ℕ → Option RouteRecord) (leaf : ℕ) (s : List ℕ) (n : ℕ) → n < length s
    → fresh_nodes {A = A} best leaf (take n s) (drop n s) ≡ record { leaf = leaf; length = n; excluded = get_or s n 0 ∷ []; route = best (take n s) (get_or s n 0 ∷ []) } ∷ fresh_nodes best leaf (take (suc n) s) (drop (suc n) s)
fresh_next best leaf s n l =
    ap (fresh_nodes best leaf (take n s)) (drop-cons s n 0 l)
    ∙ (λ i. record { leaf = leaf; length = length-take-le n s (omega arith) i; excluded = get_or s n 0 ∷ []; route = best (take n s) (get_or s n 0 ∷ []) } ∷ fresh_nodes best leaf (sym (take-suc s n 0 l) i) (drop (suc n) s))

-- one node more, and those that are left
pub fresh_push : {A : Type 0} (best : List ℕ → List ℕ → Option RouteRecord) (leaf : ℕ) (s : List ℕ) (n : ℕ) (items new all : List (Node A)) (node : Node A) → n < length s
    → items ++ fresh_nodes best leaf (take n s) (drop n s) ≡ all → new ≡ items ++ node ∷ []
    → node ≡ record { leaf = leaf; length = n; excluded = get_or s n 0 ∷ []; route = best (take n s) (get_or s n 0 ∷ []) }
    → new ++ fresh_nodes best leaf (take (n + 1) s) (drop (n + 1) s) ≡ all
fresh_push {A} best leaf s n items new all node l whole pushed is =
    let next : suc n ≡ n + 1 = omega arith in
    let rest : ℕ → List (Node A) = λ m. fresh_nodes best leaf (take m s) (drop m s) in
    ap (λ z. z ++ rest (n + 1)) pushed ∙ append_assoc items (node ∷ []) (rest (n + 1))
    ∙ ap (λ m. items ++ (node ∷ rest m)) (sym next) ∙ ap (λ (z : Node A). items ++ (z ∷ rest (suc n))) is
    ∙ ap (λ z. items ++ z) (sym (fresh_next best leaf s n l)) ∙ whole

-- nothing is left at the end
pub fresh_all : {A : Type 0} (best : List ℕ → List ℕ → Option RouteRecord) (leaf : ℕ) (s : List ℕ) (n : ℕ) (items all : List (Node A)) → length s ≤ n
    → items ++ fresh_nodes best leaf (take n s) (drop n s) ≡ all → items ≡ all
fresh_all best leaf s n items all l whole = sym (append-nil items) ∙ ap (λ z. items ++ fresh_nodes best leaf (take n s) z) (sym (drop_all n s l)) ∙ whole

-- a beginning of n numbers goes on, or a longer one does
pub longer_next : (best : List ℕ → List ℕ → Option RouteRecord) (s : List ℕ) (n : ℕ) → n < length s
    → longer_go_on best (take n s) (drop n s) ≡ (is_some (best (take n s) (get_or s n 0 ∷ [])) || longer_go_on best (take (n + 1) s) (drop (n + 1) s))
longer_next best s n l =
    let next : suc n ≡ n + 1 = omega arith in
    ap (longer_go_on best (take n s)) (drop-cons s n 0 l)
    ∙ ap (λ z. is_some (best (take n s) (get_or s n 0 ∷ [])) || longer_go_on best z (drop (suc n) s)) (sym (take-suc s n 0 l))
    ∙ ap (λ m. is_some (best (take n s) (get_or s n 0 ∷ [])) || longer_go_on best (take m s) (drop m s)) next

-- how many new nodes there are
pub length_fresh : (A : Type 0) (best : List ℕ → List ℕ → Option RouteRecord) (leaf : ℕ) (q rest : List ℕ) → length (fresh_nodes {A = A} best leaf q rest) ≡ length rest
length_fresh A best leaf q [] = refl
length_fresh A best leaf q (y ∷ rest) = ap suc (length_fresh A best leaf (q ++ y ∷ []) rest)

-- ---- a node that excludes one number more, and the number taken out again

-- ---- a number that is added and forgotten leaves the list as it was

differs : (x y : ℕ) → is_eq (nat_cmp x y) ≡ false → not (nat_eq y x) ≡ true
differs x y h = grind (arith, nat_tests)

same_number : (x : ℕ) → not (nat_eq x x) ≡ false
same_number x = grind (arith, nat_tests)

pub forget_absent : (x : ℕ) (xs : List ℕ) → has nat_cmp x xs ≡ false → filter (λ y. not (nat_eq y x)) xs ≡ xs
forget_absent x [] h = refl
forget_absent x (y ∷ ys) h =
    let w = or_parts (is_eq (nat_cmp x y)) (has nat_cmp x ys) h in
    ap (λ b. cond b (y ∷ filter (λ y. not (nat_eq y x)) ys) (filter (λ y. not (nat_eq y x)) ys)) (differs x y w.0) ∙ ap (λ t. y ∷ t) (forget_absent x ys w.1)

pub forget-put_in : (x : ℕ) (xs : List ℕ) → has nat_cmp x xs ≡ false → filter (λ y. not (nat_eq y x)) (put_in nat_cmp x xs) ≡ xs
forget-put_in x [] h = ap (λ b. cond b (x ∷ []) []) (same_number x)
forget-put_in x (y ∷ ys) h =
    let p : ℕ → Bool = λ y. not (nat_eq y x) in
    let w = or_parts (is_eq (nat_cmp x y)) (has nat_cmp x ys) h in
    elim (nat_cmp x y) as (λ r. is_eq r ≡ false → filter p (elim r [ Less ↦ x ∷ y ∷ ys | Equal ↦ y ∷ ys | Greater ↦ y ∷ put_in nat_cmp x ys ]) ≡ y ∷ ys) [
      | Less ↦ λ _. ap (λ b. cond b (x ∷ filter p (y ∷ ys)) (filter p (y ∷ ys))) (same_number x) ∙ forget_absent x (y ∷ ys) h
      | Equal ↦ λ e. absurd (true≢false e)
      | Greater ↦ λ _. ap (λ b. cond b (y ∷ filter p (put_in nat_cmp x ys)) (filter p (put_in nat_cmp x ys))) (differs x y w.0) ∙ ap (λ t. y ∷ t) (forget-put_in x ys w.1)
    ] w.0

-- a number that isn't excluded can be taken out, too
pub including_none : {A : Type 0} (nodes : List (Node A)) (i : ℕ) (s : List ℕ) (n : Node A) → slice_get nodes i ≡ Some n → CanExclude n s → modify (including s) nodes i ≡ nodes
including_none nodes i s n stands can = modify_back (including s) nodes i n stands (ap (λ z. record n { excluded = z }) (forget_absent (slice_index s n.length) n.excluded can.absent))

module _ {A : Type 0} (nodes then : List (Node A)) (i : ℕ) (s : List ℕ) (n : Node A) (stands : slice_get nodes i ≡ Some n) (changed : then ≡ modify (excluding s) nodes i) where
  -- what stands there then
  pub excluded_there : (m : Node A) → slice_get then i ≡ Some m → m ≡ excluding s n
  excluded_there m e = let a = ap (λ z. slice_get z i) changed in let b = get_same (excluding s) nodes i n stands in cc

  -- the nodes are as they were once the number is taken out again
  pub included : CanExclude n s → modify (including s) then i ≡ nodes
  included can =
      let forgotten : including s (excluding s n) ≡ n = ap (λ z. record n { excluded = z }) (forget-put_in (slice_index s n.length) n.excluded can.absent) in
      ap (λ z. modify (including s) z i) changed ∙ modify_twice (excluding s) (including s) nodes i ∙ modify_back (λ m. including s (excluding s m)) nodes i n stands forgotten

  -- the node is widened once it carries what was found
  pub carried_then : (found : Option RouteRecord) → modify (carrying found) then i ≡ modify (widened (wide_of n s) found) nodes i
  carried_then found = ap (λ z. modify (carrying found) z i) changed ∙ modify_twice (excluding s) (carrying found) nodes i
      ∙ modify_same (λ m. carrying found (excluding s m)) (widened (wide_of n s) found) nodes i n stands refl

-- ---- where a test of a list in order changes its answer, and what is put there

-- x after those in front that pass the test
abbrev put_past : {X : Type 0} → (X → Bool) → X → List X → List X
put_past test x [] = x ∷ []
put_past test x (y ∷ ys) = cond (test y) (y ∷ put_past test x ys) (x ∷ y ∷ ys)

-- ---- the first that passes a test

module _ {X : Type 0} (test : X → Bool) where
  pub found_is : (xs : List X) (x : X) → find test xs ≡ Some x → Member x xs × (test x ≡ true)
  found_is [] x e = absurd cc
  found_is (y ∷ xs) x e = elim (test y) as (λ b. test y ≡ b → cond b (Some y) (find test xs) ≡ Some x → Member x (y ∷ xs) × (test x ≡ true)) [
    | true ↦ λ t k. let same : y ≡ x = cc in (inl (sym same), ap test (sym same) ∙ t)
    | false ↦ λ _ k. let w = found_is xs x k in (inr w.0, w.1)
  ] refl e

  pub none_found : (xs : List X) → find test xs ≡ None → (x : X) → Member x xs → test x ≡ true → ⊥
  none_found [] e x m p = m
  none_found (y ∷ xs) e x m p = elim (test y) as (λ b. test y ≡ b → cond b (Some y) (find test xs) ≡ None → ⊥) [
    | true ↦ λ _ k. cc
    | false ↦ λ f k. elim m [
      | inl h ↦ true≢false (sym p ∙ ap test h ∙ f)
      | inr n ↦ none_found xs k x n p
    ]
  ] refl e

module _ {X : Type 0} (test : X → Bool) where
  -- the answer of a search for the place
  pub passing_is : (xs : List X) (i : ℕ) → i ≤ length xs → IsPartitionPoint (λ y. test y ≡ true) (λ y. test y ≡ false) xs i → i ≡ passing test xs
  passing_is [] i l h = omega arith
  passing_is (x ∷ xs) zero l h = ap (λ b. cond b (suc (passing test xs)) 0) (sym (h.1 0 x (omega arith) (omega arith)))
  passing_is (x ∷ xs) (suc i) l h =
      ap suc (passing_is xs i (omega arith) ((λ k d low high. h.0 (suc k) d (omega arith) (omega arith)), (λ k d low high. h.1 (suc k) d (omega arith) (omega arith))))
      ∙ ap (λ b. cond b (suc (passing test xs)) 0) (sym (h.0 0 x (omega arith) (omega arith)))

  pub put_past_at : (x : X) (xs : List X) → insert xs (passing test xs) x ≡ put_past test x xs
  put_past_at x [] = refl
  put_past_at x (y ∷ ys) = elim (test y) as (λ b. insert (y ∷ ys) (cond b (suc (passing test ys)) 0) x ≡ cond b (y ∷ put_past test x ys) (x ∷ y ∷ ys)) [
    | true ↦ ap (λ z. y ∷ z) (put_past_at x ys)
    | false ↦ refl
  ]

  -- each element before the split passes
  pub front_passes : (e : X) (xs : List X) → Member e (take (passing test xs) xs) → test e ≡ true
  front_passes e [] m = absurd m
  front_passes e (x ∷ xs) m = elim (test x) as (λ b. test x ≡ b → Member e (take (cond b (suc (passing test xs)) 0) (x ∷ xs)) → test e ≡ true) [
    | true ↦ λ t m. elim m [ inl h ↦ ap test h ∙ t | inr n ↦ front_passes e xs n ]
    | false ↦ λ t m. absurd m
  ] refl m

  module _ (Q : X → X → Type 0) (falls : (a b : X) → Q a b → test b ≡ true → test a ≡ true) where
    -- if a pass carries over to what is earlier, those that pass come first
    pub partitioned : (xs : List X) → InPairs Q xs → IsPartitionedBy test xs
    partitioned [] h i j d le lt t = absurd (omega arith)
    partitioned (x ∷ xs) h zero zero d le lt t = t
    partitioned (x ∷ xs) h zero (suc j) d le lt t = falls x (get_or xs j d) (h.0 (get_or xs j d) (member_at xs j d (omega arith))) t
    partitioned (x ∷ xs) h (suc i) zero d le lt t = absurd (omega arith)
    partitioned (x ∷ xs) h (suc i) (suc j) d le lt t = partitioned xs h.1 i j d (omega arith) (omega arith) t

    -- none of the others passes
    pub back_fails : (e : X) (xs : List X) → InPairs Q xs → Member e (drop (passing test xs) xs) → test e ≡ false
    back_fails e [] h m = absurd m
    back_fails e (x ∷ xs) h m = elim (test x) as (λ b. test x ≡ b → Member e (drop (cond b (suc (passing test xs)) 0) (x ∷ xs)) → test e ≡ false) [
      | true ↦ λ t m. back_fails e xs h.1 m
      | false ↦ λ t m. elim m [
        | inl k ↦ ap test k ∙ t
        | inr n ↦ elim (cases_Bool (test e)) [ inl y ↦ absurd (true≢false (sym (falls x e (h.0 e n) y) ∙ t)) | inr y ↦ y ]
      ]
    ] refl m

-- a list that rises, pair by pair
pub rises_pairs : {K : Type 0} {R : K → K → Ordering} → IsTotalOrder R → (xs : List K) → Rises R xs → InPairs (λ a b. R a b ≡ Less) xs
rises_pairs o [] h = tt
rises_pairs o (x ∷ xs) h = ((λ y m. Below-member o x y xs h.0 m), rises_pairs o xs h.1)

-- one that rises by a key
pub pairs_from_rises : {X K : Type 0} {R : K → K → Ordering} → IsTotalOrder R → (key : X → K) (xs : List X) → Rises R (map key xs) → InPairs (λ a b. R (key a) (key b) ≡ Less) xs
pairs_from_rises o key [] h = tt
pairs_from_rises o key (x ∷ xs) h = ((λ y m. Below-member o (key x) (key y) (map key xs) h.0 (Member-map key y xs m)), pairs_from_rises o key xs h.1)

less_number : (x y : ℕ) → nat_cmp x y ≡ Less → ltb y x ≡ false
less_number x y e = grind (arith, nat_tests)

greater_number : (x y : ℕ) → nat_cmp x y ≡ Greater → ltb y x ≡ true
greater_number x y e = grind (arith, nat_tests)

pub earlier_number : (x a b : ℕ) → nat_cmp a b ≡ Less → ltb b x ≡ true → ltb a x ≡ true
earlier_number x a b e t = grind (arith, nat_tests)

-- a number that isn't there is inserted after the lesser ones
pub put_in_number : (x : ℕ) (xs : List ℕ) → has nat_cmp x xs ≡ false → put_in nat_cmp x xs ≡ put_past (λ y. ltb y x) x xs
put_in_number x [] h = refl
put_in_number x (y ∷ ys) h = elim (nat_cmp x y) as (λ r. nat_cmp x y ≡ r → elim r [ Less ↦ x ∷ y ∷ ys | Equal ↦ y ∷ ys | Greater ↦ y ∷ put_in nat_cmp x ys ] ≡ cond (ltb y x) (y ∷ put_past (λ y. ltb y x) x ys) (x ∷ y ∷ ys)) [
  | Less ↦ λ e. ap (λ b. cond b (y ∷ put_past (λ y. ltb y x) x ys) (x ∷ y ∷ ys)) (sym (less_number x y e))
  | Equal ↦ λ e. absurd (true≢false (sym (ap is_eq e) ∙ (or_parts (is_eq (nat_cmp x y)) (has nat_cmp x ys) h).0))
  | Greater ↦ λ e. ap (λ z. y ∷ z) (put_in_number x ys (or_parts (is_eq (nat_cmp x y)) (has nat_cmp x ys) h).1) ∙ ap (λ b. cond b (y ∷ put_past (λ y. ltb y x) x ys) (x ∷ y ∷ ys)) (sym (greater_number x y e))
] refl

-- numbers of which each is below all that follow rise
pub increasing : (xs : List ℕ) → Rises nat_cmp xs → IsStrictlyIncreasing xs
increasing [] h k l = absurd (omega arith)
increasing (x ∷ []) h k l = absurd (omega arith)
increasing (x ∷ y ∷ xs) h zero l = let e : nat_cmp x y ≡ Less = h.0.0 in grind (arith, nat_tests)
increasing (x ∷ y ∷ xs) h (suc k) l = let one : suc (k + 1) ≡ suc k + 1 = omega arith in subst (λ m. slice_index (y ∷ xs) k < slice_index (x ∷ y ∷ xs) m) one (increasing (y ∷ xs) h.1 k (omega (arith, l)))
