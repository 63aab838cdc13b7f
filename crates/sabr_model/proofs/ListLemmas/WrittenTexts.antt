-- Texts that are written in turn, and what this says about the joined text.
use Rattle.sabr_model.proofs.ListLemmas.Names.{ℕ, ◌+◌, List, [], ◌++◌, Result, Ok, Err, refl, ap, ◌∙◌, sym, append_assoc, append-nil, Appends-nil, Appends-trans, Appends-kept, Output, Takes, TakesNone, Written, WrittenInPart, WritesText}

-- no byte is taken by doing nothing
pub Takes-nil : (a : Output) → Takes a [] a
Takes-nil a = (sym (append-nil a.taken), Appends-nil a.contents)

-- bytes taken in turn are the joined bytes taken
pub Takes-append : (a b c : Output) (xs ys : List ℕ) → Takes a xs b → Takes b ys c → Takes a (xs ++ ys) c
Takes-append a b c xs ys p q =
    (q.0 ∙ ap (λ zs. zs ++ ys) p.0 ∙ append_assoc a.taken xs ys, Appends-trans a.contents b.contents c.contents xs ys p.1 q.1)

-- and then none
pub Takes-kept : (a b c : Output) (xs : List ℕ) → Takes a xs b → TakesNone b c → Takes a xs c
Takes-kept a b c xs p q = (q.0 ∙ p.0, Appends-kept a.contents b.contents c.contents xs p.1 q.1)

-- the empty text is written by doing nothing
pub Written-nil : (a : Output) → Written a [] a
Written-nil a = (Takes-nil a, refl)

-- two texts written in turn are the joined text written
pub Written-append : (a b c : Output) (xs ys : List ℕ) → Written a xs b → Written b ys c → Written a (xs ++ ys) c
Written-append a b c xs ys p q = (Takes-append a b c xs ys p.0 q.0, q.1 ∙ p.1)

-- the first text was written, and then a beginning of the second
pub WrittenInPart-after : (a b c : Output) (xs ys : List ℕ) → Written a xs b → WrittenInPart b ys c → WrittenInPart a (xs ++ ys) c
WrittenInPart-after a b c xs ys p q =
    let (front, back, taken) = q.0 in (
      (xs ++ front, (back.0, ap (λ zs. xs ++ zs) back.1 ∙ sym (append_assoc xs front back.0)), Takes-append a b c xs front p.0 taken),
      q.1 ∙ ap (λ j. j + 1) p.1,
    )

-- a beginning of the first text is one of both
pub WrittenInPart-more : (a c : Output) (xs ys : List ℕ) → WrittenInPart a xs c → WrittenInPart a (xs ++ ys) c
WrittenInPart-more a c xs ys ((front, back, taken), failed) =
    ((front, (back.0 ++ ys, ap (λ zs. zs ++ ys) back.1 ∙ append_assoc front back.0 ys), taken), failed)

-- the first text is written, and then the second is written or fails
pub WritesText-after : {A E : Type 0} (a b c : Output) (xs ys : List ℕ) (r : Result A E) → Written a xs b → WritesText b ys r c → WritesText a (xs ++ ys) r c
WritesText-after a b c xs ys (Ok _) p q = Written-append a b c xs ys p q
WritesText-after a b c xs ys (Err _) p q = WrittenInPart-after a b c xs ys p q
