-- At most twelve digits come after `+`.
use Rattle.sabr_plan.proofs.Names.{◌≡◌, ℕ, ◌-◌, ◌<◌, ◌≤◌, List, [], ◌∷◌, length, get_or, take, drop, true, ◌∙◌, arith, list_all, digits_value, take_all, nat_tests}
use Rattle.sabr_plan.specs.Digits.{is_digit}
use Rattle.sabr_plan.specs.Operands.{relative_of}
use Rattle.sabr_plan.proofs.SpelledNumbers.{small_value, few_digits}
use Rattle.sabr_plan.proofs.operand.relative_of.Goals as goal

behind : (word : List ℕ) → 0 < length word → get_or word 0 0 ≡ 43 → length word ≤ 13 → small_value (take (length word - 1) (drop 1 word)) ≡ relative_of word
behind [] some plus short = absurd (omega arith)
behind (b ∷ digits) some plus short =
    let few : length digits ≤ 12 = omega arith in
    let whole : take (length (b ∷ digits) - 1) digits ≡ digits = take_all _ digits (omega arith) in
    let small : list_all is_digit digits ≡ true → digits_value 10 digits < 18446744073709551616 = λ all. few_digits digits all (omega arith) in
    rw whole (grind (arith, nat_tests))

pub returns : goal.returns
returns c =
    c.digits_value.ensures ∙ behind c.args.word.now (grind (arith, nat_tests)) c.if-word-ne43.false c.if-word-gt13.false
