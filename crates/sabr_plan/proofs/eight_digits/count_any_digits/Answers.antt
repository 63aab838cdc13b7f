-- Nineteen digits always fit, and std reads them as this crate does.
use Rattle.sabr_plan.proofs.Names.{◌≡◌, take, true, ap, arith, length-take, slice_range, digits_value, list_all}
use Rattle.core.proofs.dec2flt.Rows.{AllDigits-digits_len}
use Rattle.sabr_plan.specs.Digits.{is_digit}
use Rattle.sabr_plan.proofs.SpelledNumbers.{few_digits, numerals}
use Rattle.sabr_plan.proofs.eight_digits.count_any_digits.Goals as goal

pub returns : goal.returns
returns c =
    let r = c.read_digits-count.ensures in
    let text = c.args.text.now in
    let count = c.read_digits-count.result.0 in
    let front = take count text in
    let same : digits_value 10 (slice_range text 0 count) ≡ digits_value 10 front = ap (λ n. digits_value 10 (take n text)) {y = count} (omega arith) in
    let told = AllDigits-digits_len text count (omega (arith, r.end)) in
    let all : list_all is_digit front ≡ true = numerals.from front told in
    let long = length-take count text in
    let small = few_digits front all (omega (arith, long, c.if-count-gt19.false)) in
    record {
      range = r.within;
      digits = record { few = omega (arith, long, c.if-count-gt19.false); digits = all; stands = omega (arith, r.value, same, small) };
    }
