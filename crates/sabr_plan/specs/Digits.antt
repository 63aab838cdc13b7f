-- Numbers as decimal digits.
use Rattle.std.specs.Prelude.{◌≡◌, ℕ, ◌≤◌, ◌==◌, nat_lt, nat_le, ◌&&◌, Bool, IsTrue, List, length, slice_index}
use Rattle.std.specs.List.{list_all}
use Rattle.std.specs.Str.Parse.{digits_value}

-- whether a byte is a digit
abbrev pub is_digit : ℕ → Bool
is_digit b = nat_le 48 b && nat_le b 57

-- whether a word is made of digits
abbrev pub are_digits : List ℕ → Bool
are_digits word = nat_lt 0 (length word) && list_all is_digit word

-- at most nineteen digits, which have this value
pub record SpellsNumber (word : List ℕ) (value : ℕ) : Type 0 where
  pub few : length word ≤ 19
  pub digits : IsTrue (list_all is_digit word)
  pub stands : value ≡ digits_value 10 word

-- whether there is more than one digit, and the first is `0`
abbrev pub leads_with_zero : List ℕ → Bool
leads_with_zero word = nat_lt 1 (length word) && (slice_index word 0 == 48)
