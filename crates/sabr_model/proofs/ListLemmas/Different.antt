-- Numbers that differ, in parts of lists and in joined lists.
use Rattle.sabr_model.proofs.ListLemmas.Names.{◌≡◌, ℕ, zero, suc, ◌+◌, ◌-◌, ◌<◌, ◌≤◌, true, false, not, ◌||◌, eqb, List, [], ◌∷◌, ◌++◌, length, get_or, take, drop, refl, sym, ap, subst, ◌∙◌, arith, length-drop, slice_get, Some, and_parts, and_from, or_left, or_right, eq-eqb, not-true, not_from_false, both_ways, false_from_ne_true, get_or-drop, get_or-take, length-take, take-append-drop, list_any-append, slice_get_within, slice_get-get_or, get_or_from_slice_get, has, are_different}
use Rattle.sabr_model.proofs.ListLemmas.Begins.{different_apart}

-- ---- joined lists

-- two lists of different numbers that have no number in common
pub different_append : (xs ys : List ℕ) → are_different xs ≡ true → are_different ys ≡ true → ((n : ℕ) → has n xs ≡ true → has n ys ≡ true → ⊥) → are_different (xs ++ ys) ≡ true
different_append [] ys a b apart = b
different_append (x ∷ xs) ys a b apart =
    let p = and_parts (not (has x xs)) (are_different xs) a in
    let here : has x (x ∷ xs) ≡ true = or_left (eqb x x) (has x xs) (eq-eqb x x refl) in
    let none_behind : has x ys ≡ false = false_from_ne_true (has x ys) (λ t. apart x here t) in
    let none : has x (xs ++ ys) ≡ false = list_any-append (eqb x) xs ys ∙ ap (λ b. b || has x ys) (not-true (has x xs) p.0) ∙ none_behind in
    and_from (not (has x (xs ++ ys))) (are_different (xs ++ ys)) (not_from_false (has x (xs ++ ys)) none)
    (different_append xs ys p.1 b (λ n in_xs in_ys. apart n (or_right (eqb n x) (has n xs) in_xs) in_ys))

-- the front of a list of different numbers
pub different_front : (xs ys : List ℕ) → are_different (xs ++ ys) ≡ true → are_different xs ≡ true
different_front [] ys d = refl
different_front (x ∷ xs) ys d =
    let p = and_parts (not (has x (xs ++ ys))) (are_different (xs ++ ys)) d in
    let none : has x xs ≡ false = false_from_ne_true (has x xs) (λ t. both_ways (has x (xs ++ ys)) (not-true (has x (xs ++ ys)) p.0) (list_any-append (eqb x) xs ys ∙ or_left (has x xs) (has x ys) t)) in
    and_from (not (has x xs)) (are_different xs) (not_from_false (has x xs) none) (different_front xs ys p.1)

-- its last number occurs nowhere else
pub different_last : (xs : List ℕ) (n : ℕ) → are_different (xs ++ n ∷ []) ≡ true → has n xs ≡ true → ⊥
different_last xs n d h = different_apart xs (n ∷ []) n d h (or_left (eqb n n) false (eq-eqb n n refl))

-- fewer of different numbers are different
pub different_drop : (k : ℕ) (xs : List ℕ) → are_different xs ≡ true → are_different (drop k xs) ≡ true
different_drop zero xs d = d
different_drop (suc k) [] d = d
different_drop (suc k) (x ∷ xs) d = different_drop k xs (and_parts (not (has x xs)) (are_different xs) d).1

-- a part of a list of different numbers
pub different_part : (n k : ℕ) (xs : List ℕ) → are_different xs ≡ true → are_different (take n (drop k xs)) ≡ true
different_part n k xs d =
    different_front (take n (drop k xs)) (drop n (drop k xs)) (subst (λ (ys : List ℕ). are_different ys ≡ true) (sym (take-append-drop n (drop k xs))) (different_drop k xs d))

-- ---- parts of a list

-- an element of a part is an element of the list
pub part_at : {X : Type 0} (xs : List X) (first n k : ℕ) (x : X) → slice_get (take n (drop first xs)) k ≡ Some x → (k < n) × (slice_get xs (first + k) ≡ Some x)
part_at xs first n k x h =
    let within : k < length (take n (drop first xs)) = slice_get_within (take n (drop first xs)) k x h in
    let less : k < n = omega (arith, within, length-take n (drop first xs)) in (
      less,
      slice_get-get_or xs (first + k) x (omega (arith, within, length-take n (drop first xs), length-drop first xs))
          ∙ ap Some (sym (get_or-drop first xs k x) ∙ sym (get_or-take n (drop first xs) k x less) ∙ get_or_from_slice_get (take n (drop first xs)) k x x h),
    )

-- and the reverse
pub part_has : {X : Type 0} (xs : List X) (first end p : ℕ) (x : X) → first ≤ p → p < end → end ≤ length xs → slice_get xs p ≡ Some x → slice_get (take (end - first) (drop first xs)) (p - first) ≡ Some x
part_has xs first end p x after before within h =
    let back : first + (p - first) ≡ p = omega arith in
    slice_get-get_or (take (end - first) (drop first xs)) (p - first) x (omega (arith, length-take (end - first) (drop first xs), length-drop first xs))
    ∙ ap Some (get_or-take (end - first) (drop first xs) (p - first) x (omega arith) ∙ get_or-drop first xs (p - first) x ∙ ap (λ q. get_or xs q x) back ∙ get_or_from_slice_get xs p x x h)
