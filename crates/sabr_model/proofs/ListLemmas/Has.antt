-- Membership in lists of numbers, and lists of different numbers.
use Rattle.sabr_model.proofs.ListLemmas.Names.{◌≡◌, ℕ, ◌<◌, true, false, cond, not, eqb, List, [], ◌∷◌, length, get_or, refl, ap, ◌∙◌, arith, filter, or_parts, eq-eqb, nat_tests, list_any_at, has}

-- equality of numbers is symmetric
pub eqb_flip : (a b : ℕ) → eqb a b ≡ eqb b a
eqb_flip a b = grind (arith, nat_tests)

-- the number at a place is in the list
pub has_at : (xs : List ℕ) (k d : ℕ) → k < length xs → has (get_or xs k d) xs ≡ true
has_at xs k d lt = list_any_at (λ y. eqb (get_or xs k d) y) xs k d lt (eq-eqb (get_or xs k d) (get_or xs k d) refl)

-- removing a number that is not there changes nothing
pub without_absent : (xs : List ℕ) (n : ℕ) → has n xs ≡ false → filter (λ k. not (eqb k n)) xs ≡ xs
without_absent [] n h = refl
without_absent (x ∷ xs) n h =
    let parts = or_parts (eqb n x) (has n xs) h in
    ap (λ b. cond (not b) (x ∷ filter (λ k. not (eqb k n)) xs) (filter (λ k. not (eqb k n)) xs)) (eqb_flip x n ∙ parts.0)
    ∙ ap (λ ys. x ∷ ys) (without_absent xs n parts.1)
