use Rattle.std.proofs.Common.{◌≡◌, ℕ, ◌<◌, List, [], ◌∷◌, length, refl, sym, ap, arith}
use Rattle.std.specs.Option.{option_copied}
use Rattle.std.specs.declared.option.Option.TheVariants.{None}
use Rattle.sabr_session.specs.SessionWords.{words_of, words_after}
use Rattle.sabr_session.specs.SessionLines.{unlimited_of}
use Rattle.sabr_plan.proofs.TextPieces.{some_piece}
use Rattle.sabr_session.proofs.reading.first_lines.unlimited_of.Goals as goal

-- a fifth word is one too many
five : (a b c d : List ℕ) (ws : List (List ℕ)) → 0 < length ws → unlimited_of (a ∷ b ∷ c ∷ d ∷ ws) ≡ None
five a b c d [] some = absurd (omega arith)
five a b c d (w ∷ ws) some = refl

pub returns-in-Some : goal.returns-in-Some
returns-in-Some c =
    let h = c.in_ok-from.ensures in
    let after = ap (λ o. words_after (option_copied o)) c.in-Some.is in
    rw (h, after) (sym (five c.in_ok-from.from.now c.in_ok-from.to.now c.in_ok-from.time.now c.in_ok-from.margin.now (words_of c.in-Some._after.now) (some_piece 32 c.in-Some._after.now)))
