use Rattle.std.proofs.Common.{not, sym, ap, ◌∙◌}
use Rattle.std.specs.Option.{option_copied}
use Rattle.sabr_plan.specs.Pieces.{pieces_after}
use Rattle.commands.proofs.WordLemmas.RequestWords.{Turns, copied_some, too_few, too_many, they_fit}
use Rattle.commands.proofs.words.request_line.texts_of.Goals as goal
use Rattle.commands.proofs.words.request_line.texts_of.Goals.{then-is_none-via-then-is_none, then-is_none-via-else-is_none+then-is_some}

pub returns-then-is_none : goal.returns-then-is_none
returns-then-is_none c =
    let turns : Turns (pieces_after 32 (option_copied c.args.text)) _ _ _ _ _ _ _ _ _ _ _ _ = record { first = c.next_word.ensures; second = c.next_word-2.ensures; third = c.next_word-3.ensures; fourth = c.next_word-4.ensures; fifth = c.next_word-5.ensures; sixth = c.next_word-6.ensures } in
    elim c.then-is_none.branch [
      | then-is_none-via-then-is_none w ↦ too_few _ _ _ _ _ _ _ _ _ _ _ _ (option_copied c.next_word-6.result.1) turns (copied_some c.next_word-3.result.0 ∙ c.is_none.ensures ∙ ap not w.if-is_none.true)
      | then-is_none-via-else-is_none+then-is_some w ↦ too_many _ _ _ _ _ _ _ _ _ _ _ _ (option_copied c.next_word-6.result.1) turns (copied_some c.next_word-6.result.1 ∙ sym w.is_some.ensures ∙ w.if-is_some.true)
    ]

pub returns : goal.returns
returns c =
    let turns : Turns (pieces_after 32 (option_copied c.args.text)) _ _ _ _ _ _ _ _ _ _ _ _ = record { first = c.next_word.ensures; second = c.next_word-2.ensures; third = c.next_word-3.ensures; fourth = c.next_word-4.ensures; fifth = c.next_word-5.ensures; sixth = c.next_word-6.ensures } in
    they_fit _ _ _ _ _ _ _ _ _ _ _ _ (option_copied c.next_word-6.result.1) turns (copied_some c.next_word-3.result.0 ∙ c.is_none.ensures ∙ ap not c.if-is_none.false) (copied_some c.next_word-6.result.1 ∙ sym c.is_some.ensures ∙ c.if-is_some.false)
