-- Bytes that are read in turn, and what they are of a reader's text.
use Rattle.sabr_model.proofs.ListLemmas.Names.{◌≡◌, ℕ, true, List, [], ◌∷◌, ◌++◌, length, ◌<◌, arith, refl, ap, ◌∙◌, sym, subst, append_assoc, append-nil, inl, inr, Option, Some, None, eqb, append_cancel_left, Consumes-nil, Consumes-trans, Consumes-kept, Input, Output, Gives, GivesNone, HasEnded, IsTextOf, Takes, TakesAll, none_given}
use Rattle.std.specs.Io.KnownBytes.{Consumes, IsAtEnd}

-- no byte is given by doing nothing
pub Gives-nil : (a : Input) → Gives a [] a
Gives-nil a = (sym (append-nil a.given), Consumes-nil a.remaining)

-- bytes given in turn are the joined bytes given
pub Gives-append : (a b c : Input) (xs ys : List ℕ) → Gives a xs b → Gives b ys c → Gives a (xs ++ ys) c
Gives-append a b c xs ys p q =
    (q.0 ∙ ap (λ zs. zs ++ ys) p.0 ∙ append_assoc a.given xs ys, Consumes-trans a.remaining b.remaining c.remaining xs ys p.1 q.1)

-- and then none
pub Gives-kept : (a b c : Input) (xs : List ℕ) → Gives a xs b → GivesNone b c → Gives a xs c
Gives-kept a b c xs p q = (q.0 ∙ p.0, Consumes-kept a.remaining b.remaining c.remaining xs p.1 q.1)

-- a read that gave no byte though there was room told the end
pub end_told : (n : ℕ) (buf : List ℕ) (new : Input) → new.ended ≡ none_given n buf → (n ≡ 0 → 0 < length buf → IsAtEnd new.remaining) → n ≡ 0 → 0 < length buf → HasEnded new
end_told n [] new is left none room = absurd (omega arith)
end_told n (b ∷ bs) new is left none room =
    let tells : eqb n 0 ≡ true = rw none refl in
    (is ∙ tells, left none room)

-- a reader's text begins with what was read, and is that if the reader ended
pub record BeginsWith (text given : List ℕ) (new : Input) : Type 0 where
  pub rest : List ℕ
  pub parts : given ++ rest ≡ text
  pub all : HasEnded new → given ≡ text

known_begins : (text given : List ℕ) (new : Input) (left : Option (List ℕ)) → new.remaining ≡ left → Consumes (Some text) left given → BeginsWith text given new
known_begins text given new None is taken = absurd taken
known_begins text given new (Some rest) is taken = record {
  rest = rest;
  parts = sym taken;
  all = λ ended.
      let none : rest ≡ [] = subst IsAtEnd is ended.1 in
      sym (append-nil given) ∙ ap (λ b. given ++ b) (sym none) ∙ sym taken;
}

pub begins_with : (old new : Input) (text given : List ℕ) → IsTextOf old text new → Gives old given new → BeginsWith text given new
begins_with old new text given (inl known) gives =
    known_begins text given new new.remaining refl (subst (λ left. Consumes left new.remaining given) known gives.1)
begins_with old new text given (inr of) gives =
    let same : of.begins ≡ given = append_cancel_left old.given of.begins given (sym of.gives ∙ gives.0) in
    let parts : given ++ of.rest ≡ text = ap (λ b. b ++ of.rest) (sym same) ∙ sym of.parts in
    record {
      rest = of.rest;
      parts = parts;
      all = λ ended. sym (append-nil given) ∙ ap (λ b. given ++ b) (sym (of.all ended.0)) ∙ parts;
    }

-- a writer that took these bytes and no others took the bytes that it was given
pub all_taken : (old new : Output) (bytes text : List ℕ) → TakesAll old bytes new → Takes old text new → bytes ≡ text
all_taken old new bytes text (inl logged) takes = append_cancel_left old.taken bytes text (sym logged ∙ takes.0)
all_taken old new bytes text (inr (before, was, is)) takes = append_cancel_left before bytes text (rw (was, is) at takes.1)
