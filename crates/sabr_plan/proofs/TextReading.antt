-- Reading a text piece after piece, to its end or as far as it is read.
use Rattle.sabr_plan.proofs.Names.{◌≡◌, ℕ, ◌+◌, Bool, true, List, [], ◌++◌, ◌⊎◌, inl, inr, sym, ap, subst, ◌∙◌, append_assoc, append-nil, Result, Ok, Err, IfErr, Input, Gives, HasEnded}
use Rattle.sabr_plan.specs.TextReading.{AreRefused, ContinuesAs, ReadsToEnd}
use Rattle.sabr_model.proofs.ListLemmas.ReadTexts.{Gives-nil, Gives-append}

-- a text continues over one piece more
pub continued_on : {R : Type 0} (text mid rest : List ℕ → Bool → R) (given piece : List ℕ) → ContinuesAs text given mid → ContinuesAs mid piece rest → ContinuesAs text (given ++ piece) rest
continued_on text mid rest given piece one two = λ more ended. ap (λ bytes. text bytes ended) (append_assoc given piece more) ∙ one (piece ++ more) ended ∙ two more ended

-- what bytes come to if nothing is after them
pub continued_end : {R : Type 0} (text rest : List ℕ → Bool → R) (given : List ℕ) (ended : Bool) → ContinuesAs text given rest → text given ended ≡ rest [] ended
continued_end text rest given ended same = ap (λ bytes. text bytes ended) (sym (append-nil given)) ∙ same [] ended

-- these bytes were read, and with any bytes after them the text comes to the same as one that goes on after them
pub record HasRead {R : Type 0} (text rest : List ℕ → Bool → R) (old new : Input) : Type 0 where
  pub given : List ℕ
  pub gives : Gives old given new
  pub same : ContinuesAs text given rest

-- nothing was read at first
pub nothing_read : {R : Type 0} (text rest : List ℕ → Bool → R) (old : Input) → ContinuesAs text [] rest → HasRead text rest old old
nothing_read text rest old same = record { given = []; gives = Gives-nil old; same = same }

-- one piece more
pub piece_read : {R : Type 0} {text mid_text : List ℕ → Bool → R} {old mid : Input} (rest : List ℕ → Bool → R) (new : Input) (piece : List ℕ)
    → HasRead text mid_text old mid → Gives mid piece new → ContinuesAs mid_text piece rest → HasRead text rest old new
piece_read {text = text} {mid_text = mid_text} {old = old} {mid = mid} rest new piece was gives same = record {
  given = was.given ++ piece;
  gives = Gives-append old mid new was.given piece was.gives gives;
  same = continued_on text mid_text rest was.given piece was.same same;
}

module _ {A X F : Type 0} {text rest : List ℕ → Bool → Result X F} (Answers : Result X F → Result A F → Type 0) (IsRead IsNoMemory : F → Type 0) {old mid : Input} (new : Input) (was : HasRead text rest old mid) where
  -- the reader ended
  pub text_ended : (answer : Result A F) → Gives mid [] new → HasEnded new → new.failures ≡ old.failures → Answers (rest [] true) answer → ReadsToEnd text Answers IsRead IsNoMemory old answer new
  text_ended answer gives end fine answers = record {
    given = was.given ++ [];
    gives = Gives-append old mid new was.given [] was.gives gives;
    told = inl (end, fine, subst (λ come. Answers come answer) (sym (was.same [] true)) answers);
  }

  -- a piece is refused
  pub piece_refused : (piece : List ℕ) (f : F) → Gives mid piece new → new.failures ≡ old.failures → IsNoMemory f ⊎ ((IsRead f → ⊥) × AreRefused rest piece f) → ReadsToEnd {A = A} text Answers IsRead IsNoMemory old (Err f) new
  piece_refused piece f gives fine refused = record {
    given = was.given ++ piece;
    gives = Gives-append old mid new was.given piece was.gives gives;
    told = inr (inr (fine, elim refused [ inl memory ↦ inl memory | inr (other, all) ↦ inr (other, continued_on text rest (λ _ _. Err f) was.given piece was.same all) ]));
  }

-- if neither a text that ends nor a failed allocation is taken for a failure of the reader, such a fault comes only if the reader failed
pub read_failed : {A X F : Type 0} (text : List ℕ → Bool → Result X F) (Answers : Result X F → Result A F → Type 0) (IsRead IsNoMemory : F → Type 0) (old new : Input) (answer : Result A F)
    → ((f : F) → IsNoMemory f → IsRead f → ⊥) → ((given : List ℕ) (f : F) → Answers (text given true) (Err f) → IsRead f → ⊥)
    → ReadsToEnd text Answers IsRead IsNoMemory old answer new → IfErr answer (λ f. IsRead f → new.failures ≡ old.failures + 1)
read_failed text Answers IsRead IsNoMemory old new (Ok a) memory_not text_not reads = tt
read_failed text Answers IsRead IsNoMemory old new (Err f) memory_not text_not reads = λ is.
    elim reads.told [
      | inl (end, fine, answer) ↦ absurd (text_not reads.given f answer is)
      | inr (inl (failed, so, broken)) ↦ failed
      | inr (inr (fine, inl memory)) ↦ absurd (memory_not f memory is)
      | inr (inr (fine, inr (other, refused))) ↦ absurd (other is)
    ]
