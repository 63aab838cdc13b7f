-- Lists of numbers that rise.
use Rattle.std.proofs.Common.{◌≡◌, ℕ, zero, suc, ◌+◌, ◌-◌, ◌<◌, ◌≤◌, true, List, length, get_or, ap, subst, arith}
use Rattle.std.specs.Prelude.{Contains}
use Rattle.std.specs.List.Sorted.{IsNonDecreasing, IsStrictlyIncreasing}
use Rattle.std.proofs.lemmas.Grind.{get_or_default_zero}
use Rattle.sabr_model.specs.plan.Plan.{has}
use Rattle.sabr_model.proofs.ListLemmas.Has.{has_at}

-- the number m places further is greater by at least m
further : (xs : List ℕ) → IsStrictlyIncreasing xs → (i m : ℕ) → i + m < length xs → get_or xs i 0 + m ≤ get_or xs (i + m) 0
further xs rising i zero lt = let here : get_or xs (i + 0) 0 ≡ get_or xs i 0 = ap (λ k. get_or xs k 0) (omega arith) in omega (arith, here)
further xs rising i (suc m) lt =
    let before = further xs rising i m (omega (arith, lt)) in
    let step = rising (i + m) (omega (arith, lt)) in
    let there : get_or xs (i + suc m) 0 ≡ get_or xs (i + m + 1) 0 = ap (λ k. get_or xs k 0) (omega arith) in
    omega (arith, before, step, there)

-- numbers that rise never fall
pub never_falls : (xs : List ℕ) → IsStrictlyIncreasing xs → IsNonDecreasing xs
never_falls xs rising i j d le lt =
    let apart : i + (j - i) ≡ j = omega (arith, le) in
    let up = further xs rising i (j - i) (omega (arith, le, lt)) in
    let there : get_or xs (i + (j - i)) 0 ≡ get_or xs j 0 = ap (λ k. get_or xs k 0) apart in
    omega (arith, up, there, get_or_default_zero xs i d (omega (arith, le, lt)), get_or_default_zero xs j d lt)

-- a number of a list that never falls is no less than the first, and no greater than the last
pub within_span : (xs : List ℕ) → IsNonDecreasing xs → (n : ℕ) → Contains xs n → (get_or xs 0 0 ≤ n) × (n ≤ get_or xs (length xs - 1) 0)
within_span xs never n has = (
  omega (arith, never 0 has.0 n (omega arith) has.1, has.2, get_or_default_zero xs 0 n (omega (arith, has.1))),
  omega (arith, never has.0 (length xs - 1) n (omega (arith, has.1)) (omega (arith, has.1)), has.2, get_or_default_zero xs (length xs - 1) n (omega (arith, has.1))),
)

-- if the first and the last number of a row differ by as much as their places, all numbers between them are in the row
pub row_has : (xs : List ℕ) → IsStrictlyIncreasing xs → (p more n j : ℕ) → p + more ≤ length xs → get_or xs p 0 ≡ n + 1 → get_or xs (p + more - 1) 0 ≡ n + more → j < more → has (n + 1 + j) xs ≡ true
row_has xs rising p more n j within first last less =
    let rest : ℕ = more - 1 - j in
    let far : p + j + rest ≡ p + more - 1 = omega (arith, less) in
    let low = further xs rising p j (omega (arith, within, less)) in
    let high = further xs rising (p + j) rest (omega (arith, within, far, less)) in
    let end : get_or xs (p + j + rest) 0 ≡ get_or xs (p + more - 1) 0 = ap (λ k. get_or xs k 0) far in
    let here : get_or xs (p + j) 0 ≡ n + 1 + j = omega (arith, low, high, first, last, end, far, less) in
    subst (λ m. has m xs ≡ true) here (has_at xs (p + j) 0 (omega (arith, within, less)))
