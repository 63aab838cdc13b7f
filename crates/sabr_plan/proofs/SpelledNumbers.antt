-- Digits, the number that they stand for, and texts that spell numbers.
use Rattle.sabr_plan.proofs.Names.{◌≡◌, ℕ, ◌+◌, ◌-◌, ◌*◌, ◌/◌, ◌%◌, ◌<◌, ◌≤◌, true, ◌&&◌, List, [], ◌∷◌, length, take, get_or, refl, ap, ◌∙◌, arith, rules, ◌^◌, false, cond, not, leb, sym, decimal, lit<, zero, suc, nat_lt, Option, Some, None, if◌then◌else◌, list_all, list_all_more, digits_value, nat_tests, lt-ltb, le-ltb, number_l, digits_l, bytes_eq, bytes_eq-Decides}
use Rattle.std.specs.Char.{digit_value}
use Rattle.std.proofs.lemmas.Int.Digits.{digits_value_more}
use Rattle.std.proofs.lemmas.Str.Parse.{IsNumeralModel, numerals_by_value, digits_value_short, digits_value-take-le}
use Rattle.std.proofs.Math.Bool.{and-false}
use Rattle.core.specs.Int.Digits.{AllBelowBase}
use Rattle.sabr_plan.specs.Digits.{is_digit, are_digits, leads_with_zero}
use Rattle.std.proofs.lemmas.Fmt.{decimal_is_IsNumeral_wide, decimal_is_IsNumeral, decimal-digits_value, digits_decimal, digits_value-decimal, decimal_digit, first_decimal}
use Rattle.sabr_plan.specs.Numbers.{number_within}

-- ---- digits and the number that they stand for

-- digits as this crate tests them are those of std
pub numerals : IsNumeralModel (λ ds. list_all is_digit ds ≡ true) (digits_value 10)
numerals = numerals_by_value (λ ds. list_all is_digit ds ≡ true) (search rules)

-- the digits up to a place, and the next
pub take_digit : (xs : List ℕ) (i : ℕ) → i < length xs → is_digit (get_or xs i 0) ≡ true → digits_value 10 (take (i + 1) xs) ≡ digits_value 10 (take i xs) * 10 + (get_or xs i 0 - 48)
take_digit xs i h one =
    let value : digit_value (get_or xs i 0) ≡ get_or xs i 0 - 48 = grind (arith, nat_tests) in
    omega (arith, digits_value_more 10 xs i h, value)

-- if the bytes up to a place and the next are digits, those up to the next place are
pub take_digits : (xs : List ℕ) (i : ℕ) → i < length xs → list_all is_digit (take i xs) ≡ true → is_digit (get_or xs i 0) ≡ true → list_all is_digit (take (i + 1) xs) ≡ true
take_digits xs i h all one = rw (list_all_more is_digit xs i 0 h, all, one) refl

-- the number that digits stand for, if it is below 2^64
abbrev pub small_value : List ℕ → Option ℕ
small_value word = if are_digits word && nat_lt (digits_value 10 word) 18446744073709551616 then Some (digits_value 10 word) else None

-- None if the digits up to a place stand for too much
pub small_value_over : (xs : List ℕ) (i : ℕ) → i < length xs → is_digit (get_or xs i 0) ≡ true → 18446744073709551616 ≤ digits_value 10 (take i xs) * 10 + (get_or xs i 0 - 48) → small_value xs ≡ None
small_value_over xs i h one over =
    let big : 18446744073709551616 ≤ digits_value 10 xs = omega (arith, digits_value-take-le 10 xs (i + 1) (omega arith), take_digit xs i h one, over) in
    rw (le-ltb _ _ big, and-false (are_digits xs)) refl

-- else the number
pub small_value_some : (xs : List ℕ) → 0 < length xs → list_all is_digit xs ≡ true → digits_value 10 xs < 18446744073709551616 → small_value xs ≡ Some (digits_value 10 xs)
small_value_some xs some all h = rw (lt-ltb _ _ some, all, lt-ltb _ _ h) refl

-- nineteen digits stand for less than 2^64
pub few_digits : (xs : List ℕ) → list_all is_digit xs ≡ true → length xs ≤ 19 → digits_value 10 xs < 18446744073709551616
few_digits xs all short = omega (arith, digits_value_short numerals xs 19 all short)

-- so at most nineteen digits have a number
pub small_digits : (xs : List ℕ) → 0 < length xs → list_all is_digit xs ≡ true → length xs ≤ 19 → small_value xs ≡ Some (digits_value 10 xs)
small_digits xs some all short = small_value_some xs some all (few_digits xs all short)

-- bytes are the digits of the number that they make
pub bytes_are : (xs : List ℕ) (n word : ℕ) → (length xs ≡ n) × AllBelowBase 256 xs → number_l 256 xs ≡ word → xs ≡ digits_l 256 n word
bytes_are xs n word h is = digits xs h.1 ∙ (λ i. digits_l 256 (h.0 i) (is i))
  where
    digits : (ys : List ℕ) → AllBelowBase 256 ys → ys ≡ digits_l 256 (length ys) (number_l 256 ys)
    digits [] h = refl
    digits (y ∷ ys) h =
        let n = number_l 256 ys in
        let low : y ≡ (y + 256 * n) % 256 = omega (arith, h.0) in
        let high : n ≡ (y + 256 * n) / 256 = omega (arith, h.0) in
        λ i. low i ∷ (digits ys h.1 ∙ ap (digits_l 256 (length ys)) high) i

-- ---- texts that spell numbers

-- a number below 2^128 has few digits
pub short128 : (n : ℕ) → n < 340282366920938463463374607431768211456 → n < 10 ^ 64
short128 n h = let top : 340282366920938463463374607431768211456 < 10 ^ 64 = lit< tt in omega arith

-- the digits of a number's spelling stand for the number
pub worth : (text : List ℕ) (n : ℕ) → n < 10 ^ 64 → text ≡ decimal n → digits_value 10 text ≡ n
worth text n h e = ap (digits_value 10) e ∙ (decimal_is_IsNumeral_wide n h).1

pub same_text : (xs ys : List ℕ) → xs ≡ ys → bytes_eq xs ys ≡ true
same_text xs ys e = (bytes_eq-Decides xs ys).1 e

pub number_within-unspelled : (top low high : ℕ) (text : List ℕ) → high < top → ((n : ℕ) → n < top → text ≡ decimal n → ⊥)
    → number_within low high text ≡ None
unfolding number_within
number_within-unspelled top low high text h none =
    let n = digits_value 10 text in
    let spells : bytes_eq text (decimal n) ≡ true → n < top → ⊥ = λ same small. none n small ((bytes_eq-Decides text (decimal n)).0 same) in
    grind (arith, nat_tests)

pub number_within-spelled_within : (low high : ℕ) (text : List ℕ) (n : ℕ) → n < 10 ^ 64 → text ≡ decimal n → low ≤ n → n ≤ high
    → number_within low high text ≡ Some n
unfolding number_within
number_within-spelled_within low high text n h e a b = grind (arith, nat_tests, worth text n h e, same_text text (decimal n) e)

-- a number that was found is within the bounds
pub number_within-range : (low high : ℕ) (text : List ℕ) (n : ℕ) → number_within low high text ≡ Some n → (low ≤ n) × (n ≤ high)
unfolding number_within
number_within-range low high text n e = grind (arith, nat_tests)

-- the spelling of a number is digits that stand for it
small_decimal : (n : ℕ) → n < 18446744073709551616 → small_value (decimal n) ≡ Some n
small_decimal n h =
    let value : digits_value 10 (decimal n) ≡ n = digits_value-decimal numerals n (omega arith) in
    small_value_some (decimal n) (decimal_is_IsNumeral n (omega arith)).0.0 (digits_decimal numerals n (omega arith)) (rw value h) ∙ ap Some value

-- it has no leading zero
decimal_leads : (n : ℕ) → n < 18446744073709551616 → leads_with_zero (decimal n) ≡ false
decimal_leads zero h = rw (decimal_digit 0 (omega arith)) refl
decimal_leads (suc n) h = grind (arith, nat_tests, first_decimal (suc n) (omega arith) (omega arith))

-- digits that stand for less than 2^64
small_parts : (text : List ℕ) (v : ℕ) → small_value text ≡ Some v → (0 < length text) × (list_all is_digit text ≡ true) × (digits_value 10 text ≡ v) × (v < 18446744073709551616)
small_parts text v e = grind (arith, nat_tests)

-- without a leading zero they are the spelling of what they stand for
digits_spell : (text : List ℕ) (v : ℕ) → small_value text ≡ Some v → leads_with_zero text ≡ false → text ≡ decimal v
digits_spell text v e plain =
    let p = small_parts text v e in
    let lead : get_or text 0 0 ≡ 48 → length text ≡ 1 = λ first. grind (arith, nat_tests, p.0) in
    sym (decimal-digits_value numerals text p.1 p.0 lead (omega (arith, p.2, p.3))) ∙ ap decimal p.2

-- the number that digits spell within bounds
module _ (low high : ℕ) (text : List ℕ) (h : high < 18446744073709551616) where
  pub within_none : small_value text ≡ None → number_within low high text ≡ None
  within_none e =
      number_within-unspelled 18446744073709551616 low high text h
      (λ n small is. let found : small_value text ≡ Some n = ap small_value is ∙ small_decimal n small in absurd cc)

  module _ (v : ℕ) (e : small_value text ≡ Some v) where
    pub within : number_within low high text ≡ cond (not (leads_with_zero text) && leb low v && leb v high) (Some v) None
    unfolding number_within
    within =
        let spells : leads_with_zero text ≡ false → text ≡ decimal v = digits_spell text v e in
        let p = small_parts text v e in
        let value : digits_value 10 text ≡ v = p.2 in
        let lead = decimal_leads v p.3 in
        grind (arith, nat_tests, spells, value, bytes_eq-Decides text (decimal v), lead)

    pub within_yes : leads_with_zero text ≡ false → low ≤ v → v ≤ high → number_within low high text ≡ Some v
    within_yes plain a b = grind (arith, nat_tests, within)
