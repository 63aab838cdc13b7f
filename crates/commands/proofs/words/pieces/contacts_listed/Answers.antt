use Rattle.std.proofs.Common.{Some, ap, sym, ◌∙◌, arith}
use Rattle.std.specs.Option.{option_copied}
use Rattle.commands.specs.words.Values.{numbers_within}
use Rattle.sabr_plan.specs.Pieces.{pieces_after}
use Rattle.sabr_plan.specs.Numbers.{number_within}
use Rattle.sabr_session.proofs.WordLemmas.ReadLists.{with_front-bad, with_front-end}
use Rattle.sabr_plan.proofs.SpelledNumbers.{number_within-range}
use Rattle.sabr_session.specs.SessionWords.{most_number}
use Rattle.commands.proofs.words.pieces.contacts_listed.Goals as goal

pub returns-in_default-number_within : goal.returns-in_default-number_within
unfolding numbers_within
returns-in_default-number_within g c =
    sym (with_front-bad (number_within 1 most_number) _ _ _ _ _ c.loop-rest.invariant (ap (λ o. pieces_after 44 (option_copied o)) c.in-Some.is ∙ c.first_piece.ensures.pieces) (sym c.number_within.ensures.value ∙ c.in_default-number_within.is))

pub overflow_cast-number : goal.overflow_cast-number
overflow_cast-number g c =
    let range = number_within-range 1 most_number c.first_piece.result.0.now c.in-Some-number_within.number (sym c.number_within.ensures.value ∙ c.in-Some-number_within.is) in
    omega (arith, range.1)

pub returns : goal.returns
unfolding numbers_within
returns g c =
    ap Some c.new.ensures ∙ sym (with_front-end (number_within 1 most_number) _ _ _ c.loop-rest.invariant (ap (λ o. pieces_after 44 (option_copied o)) c.in_default.is))
