-- The text of a plan, piece by piece.
use Rattle.std.proofs.Common.{◌≡◌, ℕ, zero, suc, ◌+◌, ◌-◌, ◌<◌, ◌≤◌, true, false, eqb, List, [], ◌∷◌, ◌++◌, map, length, take, drop, get_or, refl, sym, ap, ◌∙◌, arith, append_assoc, append-nil, codes}
use Rattle.std.specs.List.{flat_map, list_any}
use Rattle.std.proofs.Math.ListN.{drop_of_length-le}
use Rattle.std.proofs.Math.Numerals.{add-one}
use Rattle.std.proofs.Math.Seq.{drop-cons}
use Rattle.std.proofs.lemmas.List.{flat_map_more, take_more}
use Rattle.sabr_model.specs.declared.contact.Contact.{Contact}
use Rattle.sabr_model.specs.plan.Plan.{has}
use Rattle.libcgrlist.specs.PlanTexts.{addition_line, contact_line, contacts_text, deletion_line, free_from, gap_text, spaced_words}

-- words, and what comes after them
spaced_then : List (List ℕ) → List ℕ → List ℕ
spaced_then [] rest = rest
spaced_then (w ∷ ws) rest = (32 ∷ w) ++ spaced_then ws rest

spaced_behind : (ws : List (List ℕ)) (rest : List ℕ) → spaced_then ws rest ≡ spaced_words ws ++ rest
unfolding spaced_then
spaced_behind [] rest = refl
spaced_behind (w ∷ ws) rest = ap (λ t. (32 ∷ w) ++ t) (spaced_behind ws rest) ∙ sym (append_assoc (32 ∷ w) (spaced_words ws) rest)

-- a word was put, before the others
word_put : (t u w : List ℕ) (ws : List (List ℕ)) (rest : List ℕ) → u ≡ t ++ (32 ∷ w) → u ++ spaced_then ws rest ≡ t ++ spaced_then (w ∷ ws) rest
unfolding spaced_then
word_put t u w ws rest e = ap (λ s. s ++ spaced_then ws rest) e ∙ append_assoc t (32 ∷ w) (spaced_then ws rest)

-- a letter was, before the words and LF
letter_put : (letter : ℕ) (t u : List ℕ) (ws : List (List ℕ)) → u ≡ t ++ letter ∷ [] → u ++ spaced_then ws (10 ∷ []) ≡ t ++ (letter ∷ (spaced_words ws ++ 10 ∷ []))
letter_put letter t u ws e =
    ap (λ s. s ++ spaced_then ws (10 ∷ [])) e ∙ append_assoc t (letter ∷ []) (spaced_then ws (10 ∷ [])) ∙ ap (λ s. t ++ (letter ∷ s)) (spaced_behind ws (10 ∷ []))

-- LF was, at the end
end_put : (t u : List ℕ) → u ≡ t ++ 10 ∷ [] → u ≡ t ++ spaced_then [] (10 ∷ [])
unfolding spaced_then
end_put t u e = e

-- a letter, six words and LF
module _ (letter : ℕ) (a b c d e f : List ℕ) where
  pub six_words : (t0 t1 t2 t3 t4 t5 t6 t7 t8 : List ℕ) → t1 ≡ t0 ++ letter ∷ [] → t2 ≡ t1 ++ (32 ∷ a) → t3 ≡ t2 ++ (32 ∷ b) → t4 ≡ t3 ++ (32 ∷ c) → t5 ≡ t4 ++ (32 ∷ d) → t6 ≡ t5 ++ (32 ∷ e) → t7 ≡ t6 ++ (32 ∷ f) → t8 ≡ t7 ++ 10 ∷ []
      → t8 ≡ t0 ++ (letter ∷ (spaced_words (a ∷ b ∷ c ∷ d ∷ e ∷ f ∷ []) ++ 10 ∷ []))
  six_words t0 t1 t2 t3 t4 t5 t6 t7 t8 e1 e2 e3 e4 e5 e6 e7 e8 =
      let end = 10 ∷ [] in
      end_put t7 t8 e8 ∙ word_put t6 t7 f [] end e7 ∙ word_put t5 t6 e (f ∷ []) end e6 ∙ word_put t4 t5 d (e ∷ f ∷ []) end e5 ∙ word_put t3 t4 c (d ∷ e ∷ f ∷ []) end e4
      ∙ word_put t2 t3 b (c ∷ d ∷ e ∷ f ∷ []) end e3 ∙ word_put t1 t2 a (b ∷ c ∷ d ∷ e ∷ f ∷ []) end e2 ∙ letter_put letter t0 t1 (a ∷ b ∷ c ∷ d ∷ e ∷ f ∷ []) e1

-- a letter, four words and LF
module _ (letter : ℕ) (a b c d : List ℕ) where
  pub four_words : (t0 t1 t2 t3 t4 t5 t6 : List ℕ) → t1 ≡ t0 ++ letter ∷ [] → t2 ≡ t1 ++ (32 ∷ a) → t3 ≡ t2 ++ (32 ∷ b) → t4 ≡ t3 ++ (32 ∷ c) → t5 ≡ t4 ++ (32 ∷ d) → t6 ≡ t5 ++ 10 ∷ []
      → t6 ≡ t0 ++ (letter ∷ (spaced_words (a ∷ b ∷ c ∷ d ∷ []) ++ 10 ∷ []))
  four_words t0 t1 t2 t3 t4 t5 t6 e1 e2 e3 e4 e5 e6 =
      let end = 10 ∷ [] in
      end_put t5 t6 e6 ∙ word_put t4 t5 d [] end e5 ∙ word_put t3 t4 c (d ∷ []) end e4 ∙ word_put t2 t3 b (c ∷ d ∷ []) end e3 ∙ word_put t1 t2 a (b ∷ c ∷ d ∷ []) end e2
      ∙ letter_put letter t0 t1 (a ∷ b ∷ c ∷ d ∷ []) e1

-- one number more
gap_more : (s n : ℕ) → gap_text s (n + 1) ≡ gap_text s n ++ (addition_line (codes "contact") s (s + 1) 1 2 0 ++ deletion_line s 1 2)
unfolding gap_text
gap_more s zero = ap (λ t. addition_line (codes "contact") s (s + 1) 1 2 0 ++ t) (append-nil (deletion_line s 1 2))
gap_more s (suc n) =
    let first = addition_line (codes "contact") s (s + 1) 1 2 0 in
    let second = deletion_line s 1 2 in
    let count : suc n + 1 ≡ suc (n + 1) = omega arith in
    ap (gap_text s) count ∙ ap (λ t. first ++ (second ++ t)) (gap_more s n)
    ∙ ap (λ t. first ++ t) (sym (append_assoc second (gap_text s n) (first ++ second))) ∙ sym (append_assoc first (second ++ gap_text s n) (first ++ second))

pub gap_put : (s n : ℕ) (t0 t1 t2 t3 : List ℕ) → t1 ≡ t0 ++ gap_text s n → t2 ≡ t1 ++ addition_line (codes "contact") s (s + 1) 1 2 0 → t3 ≡ t2 ++ deletion_line s 1 2 → t3 ≡ t0 ++ gap_text s (n + 1)
gap_put s n t0 t1 t2 t3 e1 e2 e3 =
    let first = addition_line (codes "contact") s (s + 1) 1 2 0 in
    let second = deletion_line s 1 2 in
    rw (e3, e2, e1) (append_assoc (t0 ++ gap_text s n) first second ∙ append_assoc t0 (gap_text s n) (first ++ second) ∙ ap (λ t. t0 ++ t) (sym (gap_more s n)))

pub no_gap : (s : ℕ) (t : List ℕ) → t ≡ t ++ gap_text s 0
unfolding gap_text
no_gap s t = sym (append-nil t)

-- one contact more
module _ (s largest low : ℕ) (cs : List Contact) where
  pub contact_put : (i : ℕ) (d : Contact) (t0 t1 t2 u : List ℕ) → i < length cs → t1 ≡ t0 ++ gap_text s ((get_or cs i d).number - 1 - low) → t2 ≡ t1 ++ contact_line (get_or cs i d)
      → t0 ++ contacts_text s largest low (drop i cs) ≡ u → t2 ++ contacts_text s largest (get_or cs i d).number (drop (i + 1) cs) ≡ u
  unfolding contacts_text
  contact_put i d t0 t1 t2 u within e1 e2 so_far =
      let c = get_or cs i d in
      let gap = gap_text s (c.number - 1 - low) in
      let rest = contacts_text s largest c.number (drop (i + 1) cs) in
      let parts : drop i cs ≡ c ∷ drop (i + 1) cs = drop-cons cs i d within ∙ ap (λ k. c ∷ drop k cs) (sym (add-one i)) in
      rw (e2, e1) (append_assoc (t0 ++ gap) (contact_line c) rest ∙ append_assoc t0 gap (contact_line c ++ rest) ∙ ap (λ ds. t0 ++ contacts_text s largest low ds) (sym parts) ∙ so_far)

  -- and none
  pub contacts_end : (i : ℕ) (t0 t1 u : List ℕ) → length cs ≤ i → t1 ≡ t0 ++ gap_text s (largest - low) → t0 ++ contacts_text s largest low (drop i cs) ≡ u → t1 ≡ u
  unfolding contacts_text
  contacts_end i t0 t1 u all e1 so_far =
      let none : drop i cs ≡ [] = drop_of_length-le cs all in
      e1 ∙ ap (λ ds. t0 ++ contacts_text s largest low ds) (sym none) ∙ so_far

-- one record more
pub record_put : {X : Type 0} (line : X → List ℕ) (xs : List X) (i : ℕ) (d : X) (t0 t1 t2 : List ℕ) → i < length xs → t1 ≡ t0 ++ flat_map line (take i xs) → t2 ≡ t1 ++ line (get_or xs i d) → t2 ≡ t0 ++ flat_map line (take (i + 1) xs)
record_put line xs i d t0 t1 t2 within e1 e2 =
    rw (e2, e1) (flat_map_more line t0 (take i xs) (get_or xs i d) ∙ ap (λ ys. t0 ++ flat_map line ys) (sym (take_more xs i d within)))

-- a contact has this start
pub any_start : (s : ℕ) (cs : List Contact) → list_any (λ c. eqb s c.start) cs ≡ has s (map (λ c. c.start) cs)
any_start s [] = refl
any_start s (c ∷ cs) = rw (any_start s cs) refl

-- the first free number is this one, or one after it
pub free_here : (n q : ℕ) (xs : List ℕ) → has q xs ≡ false → free_from n q xs ≡ q
unfolding free_from
free_here zero q xs absent = refl
free_here (suc n) q xs absent = rw absent refl

pub free_next : (n m q : ℕ) (xs : List ℕ) → has q xs ≡ true → n ≡ suc m → free_from n q xs ≡ free_from m (q + 1) xs
unfolding free_from
free_next n m q xs taken more = ap (λ k. free_from k q xs) more ∙ rw taken refl

pub free_last : (n q : ℕ) (xs : List ℕ) → n ≡ 0 → free_from n q xs ≡ q
unfolding free_from
free_last n q xs none = ap (λ k. free_from k q xs) none
