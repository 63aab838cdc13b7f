-- A sum carries only out of a byte that is at least 10, so no byte before the first of them is marked.
use Rattle.sabr_plan.proofs.Names.{◌≡◌, ℕ, zero, suc, ◌+◌, ◌*◌, ◌/◌, ◌%◌, ◌^◌, ◌<◌, Bool, true, false, cond, eqb, ltb, List, [], ◌∷◌, length, map, refl, sym, ap, ◌∙◌, arith, bit_and, bit_or, and_block, or_block, or_lt, xor_lt, ltb-true, digits_l, number_l}
use native.Mathlib.Nat.{mul_assoc, pow-suc, pow-succ'}
use lib.Arith.{mod-mul}
use lib.Count.{count_trailing_zeros}
use lib.Dec.{eqb→eq}
use Rattle.core.specs.Char.{is_ascii_digit}
use Rattle.core.specs.Dec2flt.Digits.{less_zero}
use Rattle.core.specs.Float.Numeral.{digits_len}
use Rattle.core.specs.Int.Digits.{AllBelowBase}
use Rattle.core.proofs.dec2flt.DigitsLemmas.{every_below}
use Rattle.core.proofs.dec2flt.LimbsLemmas.{power_pos}
use Rattle.sabr_plan.proofs.eight_digits.mark_from_ten.Goals as goal

-- n bytes c
abbrev each : ℕ → ℕ → ℕ
each c zero = 0
each c (suc n) = c + 256 * each c n

-- the mark of a word of n bytes
abbrev mark : ℕ → ℕ → ℕ
mark n w = bit_and (bit_or ((w + each 118 n) % 256 ^ n) w) (each 128 n)

-- that of its first byte
abbrev low : ℕ → ℕ
low b = bit_and (bit_or ((b + 118) % 256) b) 128

step : (n b w : ℕ) → b < 256 → mark (suc n) (b + 256 * w) ≡ bit_and (bit_or ((w + each 118 n + (b + 118) / 256) % 256 ^ n) w) (each 128 n) * 2 ^ 8 + low b
step n b w h =
    let high = (w + each 118 n + (b + 118) / 256) % 256 ^ n in
    let all = b + 256 * w + (118 + 256 * each 118 n) in
    let up : all / 256 ≡ w + each 118 n + (b + 118) / 256 = omega arith in
    let down : all % 256 ≡ (b + 118) % 256 = omega arith in
    let sum : all % 256 ^ suc n ≡ high * 2 ^ 8 + (b + 118) % 256 = rw (pow-suc 256 n, mod-mul all {c = 256} (power_pos 256 n (omega arith)) (omega arith), up, down) refl in
    let word : b + 256 * w ≡ w * 2 ^ 8 + b = omega arith in
    let bits : 128 + 256 * each 128 n ≡ each 128 n * 2 ^ 8 + 128 = omega arith in
    let rest : (b + 118) % 256 < 2 ^ 8 = omega arith in
    (λ i. bit_and (bit_or (sum i) (word i)) (bits i)) ∙ ap (λ x. bit_and x (each 128 n * 2 ^ 8 + 128)) (or_block 8 high w ((b + 118) % 256) b rest h)
    ∙ and_block 8 (bit_or high w) (each 128 n) (bit_or ((b + 118) % 256) b) 128 (or_lt 8 ((b + 118) % 256) b rest h) (omega arith)

-- a digit carries nothing and isn't marked, and any other byte is
byte : (y : ℕ) → y < 256 → cond (is_ascii_digit y) (low (less_zero y) + (less_zero y + 118) / 256) (low (less_zero y)) ≡ cond (is_ascii_digit y) 0 128
byte y h = eqb→eq _ _ (every_below (λ y. eqb (cond (is_ascii_digit y) (low (less_zero y) + (less_zero y + 118) / 256) (low (less_zero y))) (cond (is_ascii_digit y) 0 128)) 256 tt y h)

zeros : (j k y : ℕ) → count_trailing_zeros (j + k) (2 ^ j * y) ≡ j + count_trailing_zeros k y
unfolding count_trailing_zeros
zeros zero k y =
    let same : 0 + k ≡ k = omega arith in
    let once : 2 ^ 0 * y ≡ y = omega arith in
    rw (same, once) (omega arith)
zeros (suc j) k y =
    let twice : 2 ^ suc j * y ≡ 2 * (2 ^ j * y) = rw pow-succ' (mul_assoc 2 (2 ^ j) y) in
    let even : 2 * (2 ^ j * y) % 2 ≡ 0 = omega arith in
    let half : 2 * (2 ^ j * y) / 2 ≡ 2 ^ j * y = omega arith in
    let more : suc j + k ≡ suc (j + k) = omega arith in
    rw (more, twice, even, half) (omega (arith, zeros j k y))

odd : (k y : ℕ) → count_trailing_zeros (suc k) (1 + 2 * y) ≡ 0
unfolding count_trailing_zeros
odd k y = let one : (1 + 2 * y) % 2 ≡ 1 = omega arith in rw one refl

-- a word of one more byte, which is a digit or not
mark_more : (n w b k : ℕ) (d : Bool) → b < 256 → cond d (low b + (b + 118) / 256) (low b) ≡ cond d 0 128 → (0 < mark n w → (k < n) × (count_trailing_zeros (8 * n) (mark n w) ≡ 8 * k + 7)) → 0 < mark (suc n) (b + 256 * w)
    → (cond d (1 + k) 0 < suc n) × (count_trailing_zeros (8 * suc n) (mark (suc n) (b + 256 * w)) ≡ 8 * cond d (1 + k) 0 + 7)
mark_more n w b k true h e marks some =
    let none : (b + 118) / 256 ≡ 0 = omega arith in
    let unmarked : low b ≡ 0 = omega arith in
    let same : w + each 118 n + 0 ≡ w + each 118 n = omega arith in
    let is : mark (suc n) (b + 256 * w) ≡ 2 ^ 8 * mark n w = step n b w h ∙ rw (none, unmarked, same) (omega arith) in
    let rest = marks (omega (arith, is, some)) in
    let long : 8 * suc n ≡ 8 + 8 * n = omega arith in
    (omega (arith, rest.0), rw (is, long, zeros 8 (8 * n) (mark n w)) (omega (arith, rest.1)))
mark_more n w b k false h e marks some =
    let high = bit_and (bit_or ((w + each 118 n + (b + 118) / 256) % 256 ^ n) w) (each 128 n) in
    let is : mark (suc n) (b + 256 * w) ≡ 2 ^ 7 * (1 + 2 * high) = step n b w h ∙ omega arith in
    let long : 8 * suc n ≡ 7 + suc (8 * n) = omega arith in
    (omega arith, rw (is, long, zeros 7 (suc (8 * n)) (1 + 2 * high), odd (8 * n) high) refl)

marked : (xs : List ℕ) → AllBelowBase 256 xs → 0 < mark (length xs) (number_l 256 (map less_zero xs)) → (digits_len xs < length xs) × (count_trailing_zeros (8 * length xs) (mark (length xs) (number_l 256 (map less_zero xs))) ≡ 8 * digits_len xs + 7)
marked [] h some = absurd (omega arith)
marked (y ∷ xs) h some =
    mark_more (length xs) (number_l 256 (map less_zero xs)) (less_zero y) (digits_len xs) (is_ascii_digit y) (xor_lt 8 y 48 h.0 (omega arith)) (byte y h.0) (marked xs h.1) some

unmarked : (n w : ℕ) → mark n w ≡ 0 → AllBelowBase 10 (digits_l 256 n w)
unmarked zero w none = tt
unmarked (suc n) w none =
    let b = w % 256 in
    let v = w / 256 in
    let whole : w ≡ b + 256 * v = omega arith in
    let parts = sym (ap (mark (suc n)) whole ∙ step n b v (omega arith)) ∙ none in
    let digit : b < 10 = below_ten b (omega arith) (omega (arith, parts)) in
    let carry : (b + 118) / 256 ≡ 0 = omega arith in
    let same : v + each 118 n + 0 ≡ v + each 118 n = omega arith in
    let rest : mark n v ≡ 0 = omega (arith, rw (carry, same) at parts) in
    (digit, unmarked n v rest)
  where
    of_test : (b : ℕ) (t : Bool) → ltb b 10 ≡ t → ◌≡◌ {A = ℕ} (cond t 128 0) 128 → b < 10
    of_test b true small e = ltb-true b 10 small
    of_test b false small e = absurd (omega (arith, e))

    below_ten : (b : ℕ) → b < 256 → low b ≡ 0 → b < 10
    below_ten b h none = of_test b (ltb b 10) refl (rw none at (eqb→eq _ _ (every_below (λ b. eqb (cond (ltb b 10) 128 (low b)) 128) 256 tt b h)))

pub returns-clause-none : goal.returns-clause-none
returns-clause-none c none = unmarked 8 c.args.word none

pub returns-clause-first : goal.returns-clause-first
returns-clause-first c text eight is some = (rw (eight.0, ← is) at (marked text eight.1)) some
