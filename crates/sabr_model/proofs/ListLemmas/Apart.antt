-- Lists in which no element occurs twice.
use Rattle.sabr_model.proofs.ListLemmas.Names.{◌≡◌, ℕ, Bool, true, not, List, [], ◌∷◌, ◌++◌, map, refl, sym, subst, inl, inr, ⊎_elim, filter, flat_map, list_any, IsTotalOrder, tied_itself, slice_cmp-IsAntisymmetric, nat_cmp-IsAntisymmetric, Ordering, Less, Equal, and_from, or_cases, not_from_false, false_from_ne_true, cond_both, by_numbers, same_numbers, none_twice}
use Rattle.std.specs.List.Sorted.{IsStrictlySortedBy}
use Rattle.sabr_model.proofs.ListLemmas.Members.{IsIn, filter_in, flat_map_in, map_in, append_cases, all_in}
use Rattle.std.specs.Cmp.{Equal-is}

-- no element is among those after it
abbrev pub AreApart : {X : Type 0} → List X → Type 0
AreApart [] = Unit {0}
AreApart (x ∷ xs) = (IsIn x xs → ⊥) × AreApart xs

module _ {X : Type 0} where
  pub apart-append : (xs ys : List X) → AreApart xs → AreApart ys → ((z : X) → IsIn z xs → IsIn z ys → ⊥) → AreApart (xs ++ ys)
  apart-append [] ys a b never = b
  apart-append (x ∷ xs) ys a b never =
      (λ i. ⊎_elim (λ l. a.0 l) (λ r. never x (inl refl) r) (append_cases x xs ys i), apart-append xs ys a.1 b (λ z l r. never z (inr l) r))

  pub apart-filter : (test : X → Bool) (xs : List X) → AreApart xs → AreApart (filter test xs)
  apart-filter test [] a = tt
  apart-filter test (x ∷ xs) a =
      let rest = apart-filter test xs a.1 in
      cond_both (test x) (x ∷ filter test xs) (filter test xs) AreApart (λ _. ((λ i. a.0 (filter_in test x xs i).0), rest)) (λ _. rest)

  pub apart-map : {Y : Type 0} (f : X → Y) → ((x y : X) → f x ≡ f y → x ≡ y) → (xs : List X) → AreApart xs → AreApart (map f xs)
  apart-map f one [] a = tt
  apart-map f one (x ∷ xs) a =
      (λ i. let m = map_in f (f x) xs i in a.0 (subst (λ w. IsIn w xs) (sym (one x m.0 m.2)) m.1), apart-map f one xs a.1)

module _ {X : Type 0} where
  pub apart-flat_map : {Y : Type 0} (f : X → List Y) → ((x : X) → AreApart (f x)) → ((x y : X) (z : Y) → IsIn z (f x) → IsIn z (f y) → x ≡ y) → (xs : List X) → AreApart xs → AreApart (flat_map f xs)
  apart-flat_map f each one [] a = tt
  apart-flat_map f each one (x ∷ xs) a =
      apart-append (f x) (flat_map f xs) (each x) (apart-flat_map f each one xs a.1)
      (λ z l r. let m = flat_map_in f z xs r in a.0 (subst (λ w. IsIn w xs) (sym (one x m.0 z l m.2)) m.1))

  -- no two elements pass a test that only equal elements pass
  pub apart-none_twice : (same : X → X → Bool) → ((x y : X) → same x y ≡ true → x ≡ y) → (xs : List X) → AreApart xs → none_twice same xs ≡ true
  apart-none_twice same exact [] a = refl
  apart-none_twice same exact (x ∷ xs) a =
      and_from (not (list_any (same x) xs)) (none_twice same xs)
      (not_from_false (list_any (same x) xs) (false_from_ne_true (list_any (same x) xs) (λ h. a.0 (found (same x) x xs (exact x) h))))
      (apart-none_twice same exact xs a.1)
    where
      found : (test : X → Bool) (x : X) (ys : List X) → ((y : X) → test y ≡ true → x ≡ y) → list_any test ys ≡ true → IsIn x ys
      found test x [] tells h = absurd cc
      found test x (y ∷ ys) tells h = ⊎_elim (λ e. inl (tells y e)) (λ k. inr (found test x ys tells k)) (or_cases (test y) (list_any test ys) h)

  -- the same for a list that rises strictly
  pub apart-sorted : (cmp : X → X → Ordering) → IsTotalOrder cmp → (xs : List X) → IsStrictlySortedBy cmp xs → AreApart xs
  unfolding IsStrictlySortedBy
  apart-sorted cmp total [] sorted = tt
  apart-sorted cmp total (x ∷ xs) sorted = (
    λ i. let less : cmp x x ≡ Less = all_in (λ z. cmp x z ≡ Less) xs sorted.0 x i in let tied : cmp x x ≡ Equal = tied_itself total x in let no : ⊥ = cc in no,
    apart-sorted cmp total xs sorted.1,
  )

-- lists with the same numbers are the same
pub same_numbers_tell : (s t : List ℕ) → same_numbers s t ≡ true → s ≡ t
same_numbers_tell s t h = slice_cmp-IsAntisymmetric nat_cmp-IsAntisymmetric s t ((Equal-is (by_numbers s t)).0 h)
