-- Digits that a space or the text's end ends are the first word.
use Rattle.std.proofs.Common.{◌≡◌, ℕ, true, List, [], ◌∷◌, ◌++◌, length, take, drop, append-nil, ap, sym, ◌∙◌, arith}
use Rattle.std.specs.Prelude.{nat_eq}
use Rattle.std.specs.Cmp.Lexicographic.{pointwise, same_text}
use Rattle.std.proofs.lemmas.Bool.Decides.{nat_tests}
use Rattle.std.proofs.lemmas.List.{nil_from_length, take-append-drop}
use Rattle.sabr_session.specs.SessionWords.{words_of}
use Rattle.sabr_session.proofs.WordLemmas.SpelledWords.{digits-alone, digits-ahead}
use Rattle.sabr_session.proofs.reading.words.plain_number.Goals as goal

-- what comes after a front that was tested
after_front : (s p rest : List ℕ) → pointwise nat_eq (take (length p) s) p ≡ true → rest ≡ drop (length p) s → s ≡ p ++ rest
after_front s p rest same is =
    sym (take-append-drop (length p) s) ∙ ap (λ l. l ++ drop (length p) s) (same_text (take (length p) s) p (sym same)) ∙ ap (λ l. p ++ l) (sym is)

pub returns-then-is_empty-clause-words : goal.returns-then-is_empty-clause-words
returns-then-is_empty-clause-words c =
    let d = c.in_ok-value.ensures in
    let word = c.in_ok-value.word.now in
    let none = nil_from_length c.in_ok-value.after.now (grind (arith, nat_tests)) in
    ap words_of (d.parts ∙ ap (λ (t : List ℕ). word ++ t) none ∙ append-nil word) ∙ digits-alone word d.digits.1

pub returns-clause-words : goal.returns-clause-words
returns-clause-words c =
    let d = c.in_ok-value.ensures in
    let word = c.in_ok-value.word.now in
    let rest = c.in_ok-rest.rest.now in
    let space = after_front c.in_ok-value.after.now (32 ∷ []) rest c.in_ok-rest.ensures.cases.0 c.in_ok-rest.ensures.cases.1 in
    ap words_of (d.parts ∙ ap (λ (t : List ℕ). word ++ t) space) ∙ digits-ahead word rest d.digits.1
