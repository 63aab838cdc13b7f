use Rattle.std.proofs.Common.{◌≡◌, ℕ, Some, [], ◌∷◌, ◌++◌, length-append, List, ap, sym, ◌∙◌, arith}
use Rattle.std.specs.List.{list_any}
use Rattle.std.specs.Option.{option_copied}
use Rattle.sabr_session.specs.SessionWords.{words_after, is_slash, before_slash, after_slash, most_number}
use Rattle.sabr_plan.specs.Numbers.{number_within}
use Rattle.sabr_session.proofs.WordLemmas.ReadLists.{with_front-on, with_front-full, before-on, after-on, has-on, number_no_slash}
use Rattle.sabr_session.proofs.reading.lists.numbers_to_slash.Goals as goal

pub returns-then-len-eq-MAX_RECORDS : goal.returns-then-len-eq-MAX_RECORDS
returns-then-len-eq-MAX_RECORDS g c =
    let word : List ℕ = c.first_number-number.result.0.now in
    let others : List (List ℕ) = words_after (option_copied c.first_number-number.result.2) in
    let here : words_after (option_copied c.loop-left.left) ≡ word ∷ others = ap (λ o. words_after (option_copied o)) c.in-Some.is ∙ c.first_number-number.ensures.words in
    let read : number_within 1 most_number word ≡ Some c.in-Some-number.number = sym c.first_number-number.ensures.number ∙ c.in-Some-number.is in
    with_front-full (number_within 1 most_number) 20000 _ _ _ (before_slash others) word c.in-Some-number.number c.loop-left.invariant.read
    (ap before_slash here ∙ before-on word others (number_no_slash 1 most_number c.in-Some-number.number word (omega arith) read))
    read
    (omega (arith, c.len.ensures, c.if-len-eq-MAX_RECORDS.true))

pub loop-left-preserved : goal.loop-left-preserved
loop-left-preserved g c =
    let word : List ℕ = c.first_number-number.result.0.now in
    let others : List (List ℕ) = words_after (option_copied c.first_number-number.result.2) in
    let here : words_after (option_copied c.loop-left.left) ≡ word ∷ others = ap (λ o. words_after (option_copied o)) c.in-Some.is ∙ c.first_number-number.ensures.words in
    let read : number_within 1 most_number word ≡ Some c.in-Some-number.number = sym c.first_number-number.ensures.number ∙ c.in-Some-number.is in
    let other = number_no_slash 1 most_number c.in-Some-number.number word (omega arith) read in
    let pushed : c.push.new.self.items ≡ c.loop-left.numbers.items ++ c.in-Some-number.number ∷ [] = c.in_ok-push.ensures.items in
    record {
      few = rw pushed (omega (arith, length-append c.loop-left.numbers.items (c.in-Some-number.number ∷ []), c.loop-left.invariant.few, c.len.ensures, c.if-len-eq-MAX_RECORDS.false));
      read = rw pushed (with_front-on (number_within 1 most_number) _ _ _ (before_slash others) word c.in-Some-number.number c.loop-left.invariant.read
          (ap before_slash here ∙ before-on word others other)
          read);
      after = c.loop-left.invariant.after ∙ ap after_slash here ∙ after-on word others other;
      has = c.loop-left.invariant.has ∙ ap (λ ws. list_any is_slash ws) here ∙ has-on word others other;
    }
