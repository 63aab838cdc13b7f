-- A text of lines of numbers is that of one list of records.
use Rattle.std.proofs.Common.{◌≡◌, ℕ, ◌<◌, ◌≤◌, ◌^◌, List, [], ◌∷◌, ◌++◌, refl, sym, ap, ◌∙◌, arith, append_assoc, decimal, lit<}
use Rattle.std.specs.Prelude.{◌≢◌}
use Rattle.std.specs.List.{AllByRecursion, flat_map}
use Rattle.std.proofs.lemmas.Fmt.{decimal_injective}
use Rattle.std.proofs.lemmas.List.Concat.{flat_map-cons}
use Rattle.sabr_plan.specs.Canonical.{spaced_numbers, record_line}
use Rattle.sabr_session.proofs.WordLemmas.SpelledWords.{IsWord, decimal_is_word}

-- the text goes on with a space or LF
abbrev EndsWord : List ℕ → Type 0
EndsWord [] = ⊥
EndsWord (b ∷ text) = b ≤ 32

-- a word and what follows it
word_and_rest : (w v s t : List ℕ) → IsWord w → IsWord v → EndsWord s → EndsWord t → w ++ s ≡ v ++ t → (w ≡ v) × (s ≡ t)
word_and_rest [] [] s t one other low end e = (refl, e)
word_and_rest [] (b ∷ v) [] t one other low end e = absurd low
word_and_rest [] (b ∷ v) (c ∷ s) t one other low end e = let same : c ≡ b = cc in absurd (omega (arith, low, other.0, same))
word_and_rest (a ∷ w) [] s [] one other low end e = absurd end
word_and_rest (a ∷ w) [] s (c ∷ t) one other low end e = let same : a ≡ c = cc in absurd (omega (arith, end, one.0, same))
word_and_rest (a ∷ w) (b ∷ v) s t one other low end e =
    let first : a ≡ b = cc in
    let rest : w ++ s ≡ v ++ t = cc in
    let both = word_and_rest w v s t one.1 other.1 low end rest in
    (ap (λ x. x ∷ w) first ∙ ap (λ x. b ∷ x) both.0, both.1)

-- numbers that are all below 2^64
abbrev pub AreSmall : List ℕ → Type 0
AreSmall ns = AllByRecursion (λ n. n < 2 ^ 64) ns

small_word : (n : ℕ) → n < 2 ^ 64 → IsWord (decimal n)
small_word n h = decimal_is_word n (let top : 2 ^ 64 < 10 ^ 64 = lit< tt in omega arith)

-- the numbers of a line, and what follows them
numbers_end : (ns rest : List ℕ) → EndsWord (spaced_numbers ns ++ 10 ∷ rest)
numbers_end [] rest = omega arith
numbers_end (n ∷ ns) rest = omega arith

numbers_and_rest : (ns ms s t : List ℕ) → AreSmall ns → AreSmall ms → spaced_numbers ns ++ 10 ∷ s ≡ spaced_numbers ms ++ 10 ∷ t → (ns ≡ ms) × (s ≡ t)
numbers_and_rest [] [] s t one other e = (refl, let same : s ≡ t = cc in same)
numbers_and_rest [] (m ∷ ms) s t one other e = let off : ◌≡◌ {A = ℕ} 10 32 = cc in absurd (omega (arith, off))
numbers_and_rest (n ∷ ns) [] s t one other e = let off : ◌≡◌ {A = ℕ} 32 10 = cc in absurd (omega (arith, off))
numbers_and_rest (n ∷ ns) (m ∷ ms) s t one other e =
    let rest : decimal n ++ (spaced_numbers ns ++ 10 ∷ s) ≡ decimal m ++ (spaced_numbers ms ++ 10 ∷ t) =
    sym (append_assoc (decimal n) (spaced_numbers ns) (10 ∷ s)) ∙ tail_same e ∙ append_assoc (decimal m) (spaced_numbers ms) (10 ∷ t) in
    let first = word_and_rest (decimal n) (decimal m) (spaced_numbers ns ++ 10 ∷ s) (spaced_numbers ms ++ 10 ∷ t) (small_word n one.0) (small_word m other.0) (numbers_end ns s) (numbers_end ms t) rest in
    let behind = numbers_and_rest ns ms s t one.1 other.1 first.1 in
    (ap (λ k. k ∷ ns) (decimal_injective n m one.0 other.0 first.0) ∙ ap (λ ks. m ∷ ks) behind.0, behind.1)
  where
    tail_same : {xs ys : List ℕ} → 32 ∷ xs ≡ 32 ∷ ys → xs ≡ ys
    tail_same q = cc

-- the text doesn't go on with this letter
abbrev pub GoesOnWithout : ℕ → List ℕ → Type 0
GoesOnWithout letter [] = Unit {0}
GoesOnWithout letter (b ∷ text) = b ≢ letter

module _ {X : Type 0} (letter : ℕ) (fields : X → List ℕ) (made : List ℕ → X) (is : (x : X) → made (fields x) ≡ x) where
  -- the lines of records
  abbrev lines : List X → List ℕ
  lines xs = flat_map (λ x. record_line letter (fields x)) xs

  -- the first line, and what follows it
  first_and_rest : (x : X) (xs : List X) (s : List ℕ) → lines (x ∷ xs) ++ s ≡ letter ∷ (spaced_numbers (fields x) ++ 10 ∷ (lines xs ++ s))
  first_and_rest x xs s =
      ap (λ t. t ++ s) (flat_map-cons (λ y. record_line letter (fields y)) x xs)
      ∙ append_assoc (record_line letter (fields x)) (lines xs) s
      ∙ ap (λ t. letter ∷ t) (append_assoc (spaced_numbers (fields x)) (10 ∷ []) (lines xs ++ s))

  pub records_and_rest : (xs ys : List X) (s t : List ℕ) → AllByRecursion (λ x. AreSmall (fields x)) xs → AllByRecursion (λ x. AreSmall (fields x)) ys
      → GoesOnWithout letter s → GoesOnWithout letter t → lines xs ++ s ≡ lines ys ++ t → (xs ≡ ys) × (s ≡ t)
  records_and_rest [] [] s t one other after behind e = (refl, e)
  records_and_rest [] (y ∷ ys) [] t one other after behind e = let q = e ∙ first_and_rest y ys t in absurd cc
  records_and_rest [] (y ∷ ys) (b ∷ s) t one other after behind e = let q = e ∙ first_and_rest y ys t in absurd (after (let same : b ≡ letter = cc in same))
  records_and_rest (x ∷ xs) [] s [] one other after behind e = let q = sym e ∙ first_and_rest x xs s in absurd cc
  records_and_rest (x ∷ xs) [] s (b ∷ t) one other after behind e = let q = sym e ∙ first_and_rest x xs s in absurd (behind (let same : b ≡ letter = cc in same))
  records_and_rest (x ∷ xs) (y ∷ ys) s t one other after behind e =
      let whole = sym (first_and_rest x xs s) ∙ e ∙ first_and_rest y ys t in
      let rest : spaced_numbers (fields x) ++ 10 ∷ (lines xs ++ s) ≡ spaced_numbers (fields y) ++ 10 ∷ (lines ys ++ t) = cc (whole) in
      let first = numbers_and_rest (fields x) (fields y) (lines xs ++ s) (lines ys ++ t) one.0 other.0 rest in
      let same : x ≡ y = sym (is x) ∙ ap made first.0 ∙ is y in
      let others = records_and_rest xs ys s t one.1 other.1 after behind first.1 in
      (ap (λ z. z ∷ xs) same ∙ ap (λ zs. y ∷ zs) others.0, others.1)
