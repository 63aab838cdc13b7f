use Rattle.std.proofs.Common.{◌≡◌, ℕ, ◌<◌, false, List, [], ◌∷◌, length, refl, sym, ap, ◌∙◌, arith}
use Rattle.std.specs.Option.{option_copied}
use Rattle.sabr_session.specs.SessionWords.{words_of, words_after, is_dash}
use Rattle.sabr_plan.proofs.TextPieces.{some_piece}
use Rattle.sabr_session.proofs.reading.lists.is_dash.Goals as goal

-- a second word is one too many
two : (w : List ℕ) (ws : List (List ℕ)) → 0 < length ws → is_dash (w ∷ ws) ≡ false
two w [] some = absurd (omega arith)
two w (v ∷ ws) some = refl

pub returns-in-Some : goal.returns-in-Some
returns-in-Some c =
    let h = c.first_piece.ensures.pieces ∙ ap (λ o. c.first_piece.result.0.now ∷ words_after (option_copied o)) c.in-Some.is in
    rw h (sym (two c.first_piece.result.0.now (words_of c.in-Some._after.now) (some_piece 32 c.in-Some._after.now)))
