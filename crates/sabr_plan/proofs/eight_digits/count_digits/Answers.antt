-- The bytes before the first that is no digit are read.
use Rattle.sabr_plan.proofs.Names.{◌≡◌, ◌-◌, ◌*◌, ◌/◌, ◌%◌, ◌^◌, ◌<◌, take, refl, sym, ap, ◌∙◌, arith, take-take, length-take, bit_xor, list_all, digits_value}
use Rattle.core.specs.Float.Numeral.{digits_len}
use Rattle.core.proofs.dec2flt.Eight.{eight_at, lanes_are, shifted_is, bytes_up}
use lib.Count.{count_trailing_zeros}
use Rattle.core.proofs.dec2flt.Rows.{AllDigits-digits_len}
use Rattle.sabr_plan.specs.Digits.{is_digit}
use Rattle.sabr_plan.proofs.SpelledNumbers.{numerals}
use Rattle.sabr_plan.proofs.eight_digits.count_digits.Goals as goal

pub returns : goal.returns
returns c =
    let text = c.args.text.now in
    let front = take 8 text in
    let word = bit_xor c.first_eight-lanes.result 0x3030_3030_3030_3030 in
    let before = count_trailing_zeros 64 c.mark_from_ten-others.result in
    let eight = eight_at text 0 (λ i. (c.type_inv.text i).fits) c.requires in
    let lanes = lanes_are front _ eight c.first_eight-lanes.ensures in
    let mark = c.mark_from_ten-others.ensures.first front eight lanes (omega (arith, c.if-others-eq0.false)) in
    let count : before / 8 ≡ digits_len front = omega (arith, mark.1) in
    let few : before / 8 < 8 = omega (arith, mark.0) in
    let shift : 63 - before ≡ 56 - 8 * (before / 8) = omega (arith, mark.0, mark.1) in
    let shifted = shifted_is front (before / 8) (word * 2 ^ (63 - before) % 2 ^ 64 * 256 % 2 ^ 64) eight (omega (arith, count)) (omega (arith, few)) (rw shift (bytes_up word (before / 8) few ∙ rw lanes refl)) in
    let value = c.value_of_seven.ensures shifted.0 shifted.1 shifted.2 ∙ shifted.3 in
    let told = AllDigits-digits_len front (before / 8) (omega (arith, count)) in
    let same = take-take (before / 8) 8 text (omega (arith, few)) in
    let long = length-take (before / 8) text in
    record {
      range = omega (arith, few, c.requires);
      digits = record {
        few = omega (arith, long, few);
        digits = sym (ap (list_all is_digit) same) ∙ numerals.from _ told;
        stands = value ∙ ap (digits_value 10) same;
      };
    }
