-- Numbers in decimal digits.
use Rattle.std.specs.Prelude.{ℕ, nat_le, ◌&&◌, List, decimal, if◌then◌else◌}
use Rattle.std.specs.Str.{bytes_eq}
use Rattle.std.specs.Str.Parse.{digits_value}
use Rattle.std.specs.declared.option.Option.{Option}
use Rattle.std.specs.declared.option.Option.TheVariants.{Some, None}

-- the value of the text, decimal without a sign or leading zero, if it is within these bounds
unfoldable pub number_within : ℕ → ℕ → List ℕ → Option ℕ
number_within low high text =
    let n = digits_value 10 text in
    if bytes_eq text (decimal n) && nat_le low n && nat_le n high then Some n else None
