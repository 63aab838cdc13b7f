use Rattle.std.proofs.Common.{◌≡◌, ℕ, List, [], ◌∷◌, refl, sym, ap, ◌∙◌, true}
use Rattle.std.specs.Option.{option_copied}
use Rattle.std.specs.declared.option.Option.TheVariants.{None}
use Rattle.sabr_session.specs.SessionWords.{words_after, is_slash, list_within, nodes_of}
use Rattle.sabr_session.specs.SessionLines.{limited_of}
use Rattle.sabr_session.proofs.reading.first_lines.limited_of.Goals as goal

-- no words are no list
no_nodes : nodes_of [] ≡ None
unfolding list_within
no_nodes = refl

unlisted : (a b c d h s : List ℕ) → is_slash s ≡ true → limited_of (a ∷ b ∷ c ∷ d ∷ h ∷ s ∷ []) ≡ None
unlisted a b c d h s e = rw (e, no_nodes) refl

pub returns-in_err-rest-3 : goal.returns-in_err-rest-3
returns-in_err-rest-3 c =
    let a = c.in_ok-from.ensures in
    let b = ap (λ o. words_after (option_copied o)) (c.in_ok-rest.was {u = tt}) in
    let d = c.first_piece.ensures.pieces in
    let e = ap (λ o. words_after (option_copied o)) (c.in_ok-rest-2.was {u = tt}) in
    let f = c.first_piece-2.ensures.pieces in
    let k = ap (λ o. words_after (option_copied o)) c.in_err-rest-3.was in
    let slash = sym c.is_word.ensures ∙ c.if-not-is_word.false in
    rw (c.from_residual-in_err-rest-3.ensures, a, b, d, e, f, k) (sym (unlisted c.in_ok-from.from.now c.in_ok-from.to.now c.in_ok-from.time.now c.in_ok-from.margin.now c.first_piece.result.0.now c.first_piece-2.result.0.now slash))
