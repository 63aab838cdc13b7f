-- The words of a line, and graphic words, each after blanks.
use Rattle.sabr_plan.proofs.Names.{◌≡◌, ℕ, ◌<◌, true, false, List, [], ◌∷◌, ◌++◌, length, take, drop, get_or, refl, sym, ap, ◌∙◌, arith, add-zero, append-nil, Bool, eqb, append_assoc, get_or-take, get_or-drop, length-append, length-take, length-drop, not, Option, Some, None, unwrap_or, All, list_all, position, position_or_len, lt-ltb, ltb-true, and_parts, not-false, not-true, nat_tests, list_all-append, drop_all, take-append-drop, AllPass-from_list_all, list_all-from_AllPass, fails_before_first, passes_at_first, prefix_len-le-length}
use Rattle.std.proofs.lemmas.List.Splits.{slice_split-cons_yes, slice_split_none, slice_split_at}
use Rattle.sabr_plan.specs.Words.{is_blank, words_of, is_plain, is_comment, has_bytes, is_one_line}
use Rattle.std.proofs.lemmas.List.Quantifiers.{position-Some}
use Rattle.sabr_plan.specs.Digits.{is_digit}
use Rattle.sabr_plan.specs.PlainWords.{is_graphic, is_graphic_word, IsAfterBlanks, IsFront, IsAhead}

-- ---- the words of a line, one after another

-- a blank before a text changes no word
pub words_of-blank : (b : ℕ) (s : List ℕ) → is_blank b ≡ true → words_of (b ∷ s) ≡ words_of s
unfolding words_of
words_of-blank b s h = rw (slice_split-cons_yes is_blank b s h) refl

-- no bytes have no word
pub words_of-nil : words_of [] ≡ []
unfolding words_of
words_of-nil = refl

last_word : (w : List ℕ) → 0 < length w → All (λ b. is_blank b ≡ false) w → words_of w ≡ w ∷ []
unfolding words_of
last_word w some all = rw (slice_split_none is_blank w all) (rw (lt-ltb _ _ some) refl)

word_before : (w : List ℕ) (b : ℕ) (s : List ℕ) → 0 < length w → All (λ b. is_blank b ≡ false) w → is_blank b ≡ true → words_of (w ++ b ∷ s) ≡ w ∷ words_of s
unfolding words_of
word_before w b s some all blank = rw (slice_split_at is_blank w b s all blank) (rw (lt-ltb _ _ some) refl)

-- a word is the first if a blank or the end of the text follows it
pub first_is : (w rest : List ℕ) → 0 < length w → All (λ b. is_blank b ≡ false) w → (0 < length rest → is_blank (get_or rest 0 0) ≡ true) → words_of (w ++ rest) ≡ w ∷ words_of rest
first_is w [] some all ends = rw (append-nil w, words_of-nil) (last_word w some all)
first_is w (b ∷ s) some all ends =
    let blank : is_blank b ≡ true = ends (omega arith) in
    word_before w b s some all blank ∙ ap (λ ws. w ∷ ws) (sym (words_of-blank b s blank))

-- ---- a text of graphic words, each after blanks, has those words

-- if each byte that passes one test passes another
all_weaker : (p q : ℕ → Bool) (w : List ℕ) → ((b : ℕ) → p b ≡ true → q b ≡ true) → list_all p w ≡ true → list_all q w ≡ true
all_weaker p q w weaker h = list_all-from_AllPass q w (λ k d within. weaker (get_or w k d) (AllPass-from_list_all p w h k d within))

-- a graphic byte is no blank
no_blanks : (w : List ℕ) → list_all is_graphic w ≡ true → All (λ b. is_blank b ≡ false) w
no_blanks w all k d h = let yes = AllPass-from_list_all is_graphic w all k d h in grind (arith, nat_tests, yes)

-- a graphic byte is plain
plain_word : (w : List ℕ) → list_all is_graphic w ≡ true → list_all is_plain w ≡ true
plain_word w h = all_weaker is_graphic is_plain w (λ b h. grind (arith, nat_tests)) h

-- digits are graphic
pub graphic_digits : (w : List ℕ) → list_all is_digit w ≡ true → list_all is_graphic w ≡ true
graphic_digits w h = all_weaker is_digit is_graphic w (λ b h. grind (arith, nat_tests)) h

pub graphic_number : (w : List ℕ) → (0 < length w) × (list_all is_digit w ≡ true) → is_graphic_word w ≡ true
graphic_number w is = rw (lt-ltb 0 (length w) is.0, graphic_digits w is.1) refl

pub graphic_behind : (b : ℕ) (w : List ℕ) → is_graphic b ≡ true → list_all is_graphic w ≡ true → is_graphic_word (b ∷ w) ≡ true
graphic_behind b w one all = rw (lt-ltb 0 (length (b ∷ w)) (omega arith), one, all) refl

-- plain bytes are one line
pub plain_one : (w : List ℕ) → list_all is_plain w ≡ true → is_one_line w ≡ true
plain_one w h = all_weaker is_plain (λ b. not (eqb b 10)) w (λ b h. grind (arith, nat_tests)) h

-- blanks are plain
pub plain_blanks : (bs : List ℕ) → list_all is_blank bs ≡ true → list_all is_plain bs ≡ true
plain_blanks bs h = all_weaker is_blank is_plain bs (λ b h. grind (arith, nat_tests)) h

-- blanks before a text change no word
words_of-blanks : (bs text : List ℕ) → list_all is_blank bs ≡ true → words_of (bs ++ text) ≡ words_of text
words_of-blanks [] text h = refl
words_of-blanks (b ∷ bs) text h = let p = and_parts (is_blank b) (list_all is_blank bs) h in words_of-blank b (bs ++ text) p.0 ∙ words_of-blanks bs text p.1

-- the index of the first byte that passes, or the length
first_or_len : (p : ℕ → Bool) (text : List ℕ) → unwrap_or (position p text) (length text) ≡ position_or_len p text
first_or_len p text = grind (arith, nat_tests, prefix_len-le-length (λ b. not (p b)) text)

-- the blanks before the first other byte
words_of-from : (text : List ℕ) (o : Option ℕ) → position (λ b. not (is_blank b)) text ≡ o → words_of (drop (unwrap_or o (length text)) text) ≡ words_of text
words_of-from text o is =
    let n = unwrap_or o (length text) in
    let at : n ≡ position_or_len (λ b. not (is_blank b)) text = sym (ap (λ o. unwrap_or o (length text)) is) ∙ first_or_len (λ b. not (is_blank b)) text in
    let blank = list_all-from_AllPass is_blank (take n text) (λ k d less.
    let low : k < n = omega (arith, less, length-take n text) in
    rw (get_or-take n text k d low) (not-false _ (fails_before_first (λ b. not (is_blank b)) text k d (omega (arith, low, at))))) in
    sym (words_of-blanks (take n text) (drop n text) blank) ∙ ap words_of (take-append-drop n text)

-- without one there is no word
pub no_word : (text : List ℕ) → position (λ b. not (is_blank b)) text ≡ None → words_of text ≡ []
no_word text none = sym (words_of-from text None none) ∙ ap words_of (drop_all (length text) text (omega arith)) ∙ words_of-nil

-- the bytes from there up to the next blank are a word
pub first_word : (text start : List ℕ) (at : ℕ) → position (λ b. not (is_blank b)) text ≡ Some at → start ≡ drop at text
    → words_of text ≡ take (unwrap_or (position is_blank start) (length start)) start ∷ words_of (drop (unwrap_or (position is_blank start) (length start)) start)
first_word text start at found is =
    let p = position-Some (λ b. not (is_blank b)) text at 0 found in
    let first : is_blank (get_or start 0 0) ≡ false = rw (is, get_or-drop, add-zero) (not-true _ p.1) in
    let n = position_or_len is_blank start in
    let long = length-take n start in
    let some : 0 < length start = omega (arith, p.0, ap length is, length-drop at text) in
    let more : 0 < n = grind (arith, passes_at_first is_blank start 0) in
    rw (first_or_len is_blank start) (sym (words_of-from text (Some at) found) ∙ ap words_of (sym is ∙ sym (take-append-drop n start))
    ∙ first_is (take n start) (drop n start) (omega (arith, more, some, long))
    (λ k d less. let low : k < n = omega (arith, less, long) in rw (get_or-take n start k d low) (fails_before_first is_blank start k d low))
    (λ left. rw (get_or-drop, add-zero) (passes_at_first is_blank start 0 (omega (arith, left, length-drop n start)))))

-- the first of them
first_blank : (bs text : List ℕ) → 0 < length bs → list_all is_blank bs ≡ true → is_blank (get_or (bs ++ text) 0 0) ≡ true
first_blank [] text some h = absurd (omega arith)
first_blank (b ∷ bs) text some h = (and_parts (is_blank b) (list_all is_blank bs) h).0

-- a graphic word is the first of a text that continues with a space
pub first_of : (w text : List ℕ) → is_graphic_word w ≡ true → (0 < length text → is_blank (get_or text 0 0) ≡ true) → words_of (w ++ text) ≡ w ∷ words_of text
first_of w text h ends =
    let p = and_parts (has_bytes w) (list_all is_graphic w) h in
    first_is w text (ltb-true 0 (length w) p.0) (no_blanks w p.1) ends

-- an LF that comes after plain bytes
pub still_ended : (front rest : List ℕ) → list_all is_plain front ≡ true → is_one_line (front ++ rest) ≡ false → is_one_line rest ≡ false
still_ended front rest plain lf = grind (arith, list_all-append (λ b. not (eqb b 10)) front rest, plain_one front plain)

pub ended_blanks : {text rest : List ℕ} → IsAfterBlanks text rest → is_one_line text ≡ false → is_one_line rest ≡ false
ended_blanks {text} {rest} after lf = still_ended after.blanks rest (plain_blanks after.blanks after.blank) (rw after.parts at lf)

-- one space
pub one_space : {text rest : List ℕ} → text ≡ 32 ∷ rest → IsAfterBlanks text rest × (length rest < length text)
one_space {text} {rest} parts = (record { blanks = 32 ∷ []; parts = parts; blank = refl }, omega (arith, ap length parts))

pub ended_front : {Holds : List ℕ → Type 0} {text rest : List ℕ} → IsFront Holds text rest → is_one_line text ≡ false → is_one_line rest ≡ false
ended_front {Holds} {text} {rest} front lf =
    still_ended front.word rest (plain_word front.word (and_parts (has_bytes front.word) (list_all is_graphic front.word) front.graphic).1) (rw front.parts at lf)

pub ended_ahead : {Holds : List ℕ → Type 0} {text rest : List ℕ} → IsAhead Holds text rest → is_one_line text ≡ false → is_one_line rest ≡ false
ended_ahead ahead lf = ended_front ahead.front (ended_blanks ahead.gap lf)

-- a text begins with a line of these words, its LF and the rest; the line is empty or begins with a blank
pub record HasLine (words : List (List ℕ)) (text rest : List ℕ) : Type 0 where
  pub line : List ℕ
  pub parts : text ≡ line ++ 10 ∷ rest
  pub plain : list_all is_plain line ≡ true
  pub apart : 0 < length line → is_blank (get_or line 0 0) ≡ true
  pub has : words_of line ≡ words

-- blanks and an LF
pub no_words : {text rest : List ℕ} → IsAfterBlanks text (10 ∷ rest) → HasLine [] text rest
no_words {text} {rest} end =
    let blanks = end.blanks in
    record {
      line = blanks;
      parts = end.parts;
      plain = plain_blanks blanks end.blank;
      apart = λ some. rw append-nil at (first_blank blanks [] some end.blank);
      has = sym (ap words_of (append-nil blanks)) ∙ words_of-blanks blanks [] end.blank ∙ words_of-nil;
    }

-- one more word before them
pub more_words : {Holds : List ℕ → Type 0} {text start rest : List ℕ} {words : List (List ℕ)} (ahead : IsAhead Holds text start) → HasLine words start rest → HasLine (ahead.front.word ∷ words) text rest
more_words {Holds} {text} {start} {rest} {words} ahead back =
    let blanks = ahead.gap.blanks in
    let word = ahead.front.word in
    let graphic = and_parts (has_bytes word) (list_all is_graphic word) ahead.front.graphic in
    let plain : list_all is_plain (blanks ++ (word ++ back.line)) ≡ true = rw (list_all-append is_plain blanks (word ++ back.line), list_all-append is_plain word back.line, plain_blanks blanks ahead.gap.blank, plain_word word graphic.1, back.plain) refl in
    record {
      line = blanks ++ (word ++ back.line);
      parts = ahead.gap.parts ∙ ap (λ r. blanks ++ r) (ahead.front.parts ∙ ap (λ r. word ++ r) back.parts) ∙ rw (append_assoc, append_assoc) refl;
      plain = plain;
      apart = λ _. first_blank blanks (word ++ back.line) (omega (arith, ahead.some, ap length ahead.gap.parts, length-append blanks ahead.start)) ahead.gap.blank;
      has = words_of-blanks blanks (word ++ back.line) ahead.gap.blank ∙ first_of word back.line ahead.front.graphic back.apart ∙ ap (λ ws. word ∷ ws) back.has;
    }

-- `a` before them, where a line begins
pub first_a : {text start rest : List ℕ} {words : List (List ℕ)} (after : IsAfterBlanks text (97 ∷ start)) (back : HasLine words start rest) → (text ≡ (after.blanks ++ 97 ∷ back.line) ++ 10 ∷ rest) × (list_all is_plain (after.blanks ++ 97 ∷ back.line) ≡ true) × (words_of (after.blanks ++ 97 ∷ back.line) ≡ (97 ∷ []) ∷ words)
first_a {text} {start} {rest} {words} after back = (
  after.parts ∙ ap (λ r. after.blanks ++ 97 ∷ r) back.parts ∙ rw append_assoc refl,
  rw (list_all-append is_plain after.blanks (97 ∷ back.line), plain_blanks after.blanks after.blank, back.plain) refl,
  words_of-blanks after.blanks (97 ∷ back.line) after.blank ∙ first_of (97 ∷ []) back.line refl back.apart ∙ ap (λ ws. (97 ∷ []) ∷ ws) back.has,
)

-- a line of plain bytes with a first word `a` is no comment
pub no_comment : (bs text : List ℕ) → list_all is_blank bs ≡ true → is_comment (bs ++ 97 ∷ text) ≡ false
no_comment [] text h = refl
no_comment (b ∷ bs) text h = grind (arith, nat_tests)
