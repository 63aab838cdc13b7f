-- The text of a time is a word; so is `+` with digits after it.
use Rattle.sabr_plan.proofs.Names.{Option, Some, None, true, ℕ, List, ◌≡◌, ◌<◌, ◌≤◌, length, ◌∷◌, refl, sym, ap, ◌∙◌, arith, list_all, digits_value, nat_tests, le-leb, lt-ltb}
use Rattle.sabr_plan.specs.Digits.{is_digit}
use Rattle.sabr_plan.specs.Operands.{after_reference, absolute_time, relative_of, time_at}
use Rattle.sabr_plan.proofs.PlainWords.{graphic_digits, graphic_behind}
use Rattle.sabr_plan.proofs.Spelling.{graphic_time, time_at-text}
use Rattle.sabr_plan.proofs.fast_line.time_front.Goals as goal

relative : (reference : Option ℕ) (digits : List ℕ) → 0 < length digits → list_all is_digit digits ≡ true → length digits ≤ 12 → time_at reference (43 ∷ digits) ≡ after_reference reference (digits_value 10 digits)
unfolding time_at
relative reference digits some all few =
    let is : relative_of (43 ∷ digits) ≡ Some (digits_value 10 digits) = rw (lt-ltb 0 (length digits) some, all, le-leb _ _ few) refl in
    ap (λ o. elim o [ Some seconds ↦ after_reference reference seconds | None ↦ absolute_time (43 ∷ digits) ]) is

pub returns-in-Some-clause-word : goal.returns-in-Some-clause-word
returns-in-Some-clause-word c =
    let d = c.leading_digits-seconds.ensures in
    let digits = c.leading_digits-seconds.result.1.now in
    let some : 0 < length digits = grind (arith, nat_tests) in
    record {
      word = 43 ∷ digits;
      parts = c.in-Some.ensures.parts ∙ ap (λ s. 43 ∷ s) d.parts;
      graphic = graphic_behind 43 digits refl (graphic_digits digits d.digits.digits);
      holds = relative c.args.reference.now digits some d.digits.digits c.if-digits-gt12.false ∙ ap (after_reference c.args.reference.now) (sym d.digits.stands) ∙ sym c.after.ensures ∙ c.in-Ok.is;
    }

pub returns-clause-word : goal.returns-clause-word
returns-clause-word c =
    let reference = c.args.reference.now in
    let h = c.in_ok-time.ensures in
    record {
      word = _;
      parts = c.split_at.ensures.by_index.0;
      graphic = rw h.0 (graphic_time c.in_ok-time.time h.1);
      holds = ap (time_at reference) h.0 ∙ time_at-text reference c.in_ok-time.time h.1;
    }
