use Rattle.std.proofs.Common.{◌≡◌, ◌<◌, ◌∷◌, [], length, ap, ◌∙◌, arith}
use Rattle.std.specs.Option.{option_copied}
use Rattle.std.proofs.lemmas.Grind.{common_steps}
use Rattle.sabr_plan.specs.Pieces.{pieces_of, pieces_after}
use Rattle.commands.proofs.WordLemmas.TextLines.{no_lines, one_line, next_line}
use Rattle.commands.proofs.words.pieces.first_line.Goals as goal

pub returns-then-is_empty-clause-lines : goal.returns-then-is_empty-clause-lines
returns-then-is_empty-clause-lines c =
    let none : length c.args.text.now ≡ 0 = grind (arith, common_steps, c.is_empty.ensures, c.if-is_empty.true) in
    no_lines c.args.text.now none

pub returns-in-Some-clause-lines : goal.returns-in-Some-clause-lines
returns-in-Some-clause-lines c = next_line c.args.text.now c.first_piece.result.0.now c.in-Some.rest.now (c.first_piece.ensures.pieces ∙ ap (λ o. c.first_piece.result.0.now ∷ pieces_after 10 (option_copied o)) c.in-Some.is)

pub returns-in-None-clause-lines : goal.returns-in-None-clause-lines
returns-in-None-clause-lines c =
    let some : 0 < length c.args.text.now = grind (arith, common_steps, c.is_empty.ensures, c.if-is_empty.false) in
    let pieces : pieces_of 10 c.args.text.now ≡ c.first_piece.result.0.now ∷ [] = c.first_piece.ensures.pieces ∙ ap (λ o. c.first_piece.result.0.now ∷ pieces_after 10 (option_copied o)) c.in-None.is in
    let whole = rw c.in-None.is at c.first_piece.ensures.whole in
    one_line c.args.text.now c.first_piece.result.0.now some pieces whole
