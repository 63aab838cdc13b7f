-- The words in which numbers, lists, times and digests are spelled, digits as the first word of a text, and that words which
-- are read so are the spelling of it.
use Rattle.std.proofs.Common.{◌≡◌, ◌==◌, ℕ, ◌+◌, ◌%◌, ◌<◌, ◌≤◌, ◌^◌, Bool, true, false, cond, eqb, List, [], ◌∷◌, ◌++◌, length, map, refl, ap, ◌∙◌, arith, append-nil, decimal, codes, option_map, zero, suc, ◌*◌, ◌/◌, leb, ◌&&◌, ltb, sym, append_assoc, Option, None}
use Rattle.std.specs.List.{slice_split, onto_first, list_all, join_with_byte}
use Rattle.std.specs.Str.{bytes_eq}
use Rattle.std.proofs.lemmas.Bool.Decides.{nat_tests}
use Rattle.std.proofs.lemmas.Fmt.{decimal_by_steps_wide}
use Rattle.std.proofs.lemmas.List.Splits.{length-slice_split, join_with_byte-slice_split}
use Rattle.std.specs.declared.option.Option.TheVariants.{Some}
use Rattle.sabr_session.specs.SessionText.{spaced_by, list_text}
use Rattle.sabr_session.specs.SessionWords.{words_of, all_of, counted, is_dash, list_within, is_slash, before_slash, after_slash, contacts_of, most_number}
use Rattle.sabr_plan.specs.Numbers.{number_within}
use Rattle.sabr_plan.specs.Pieces.{pieces_of}
use Rattle.sabr_plan.proofs.SpelledNumbers.{number_within-spelled_within}
use Rattle.sabr_session.proofs.WordLemmas.ReadLists.{counted-some}
use Rattle.std.specs.Prelude.{slice_index}
use Rattle.std.specs.Int.{w32, to_be_bytes}
use Rattle.std.proofs.lemmas.Bool.{and_parts, leb-true}
use Rattle.std.proofs.lemmas.List.Folds.{list_all_at}
use Rattle.hex.specs.Hex.{lower_digits, encode_with, encode_lower}
use Rattle.sha2.specs.Sha256.{sha256, digest_bytes}
use Rattle.sha2.proofs.Facts256.{length-sha256}
use Rattle.sabr_session.specs.SessionLines.{is_digest_digit, is_digest}
use Rattle.sabr_plan.specs.Digits.{is_digit}
use Rattle.std.specs.Str.Parse.{digits_value}
use Rattle.std.proofs.lemmas.Slice.Eq.{bytes_eq-Decides}

-- bytes after the space: neither a space nor LF is one of them
abbrev pub IsWord : List ℕ → Type 0
IsWord [] = Unit {0}
IsWord (b ∷ w) = (32 < b) × IsWord w

-- digits, and what comes after them
abbrev pub AreDigits : List ℕ → Type 0
AreDigits [] = Unit {0}
AreDigits (d ∷ ds) = (48 ≤ d) × AreDigits ds

-- one digit or more
abbrev pub IsNumeric : List ℕ → Type 0
IsNumeric [] = ⊥
IsNumeric (d ∷ ds) = (48 ≤ d) × AreDigits ds

digits-append : (ds es : List ℕ) → AreDigits ds → AreDigits es → AreDigits (ds ++ es)
digits-append [] es h k = k
digits-append (d ∷ ds) es h k = (h.0, digits-append ds es h.1 k)

one_more : (ds : List ℕ) (d : ℕ) → 48 ≤ d → IsNumeric ds → IsNumeric (ds ++ d ∷ [])
one_more [] d h bad = absurd bad
one_more (e ∷ ds) d h is = (is.0, digits-append ds (d ∷ []) is.1 (h, tt))

pub decimal_is_numeric : (n : ℕ) → n < 10 ^ 64 → IsNumeric (decimal n)
decimal_is_numeric n h = decimal_by_steps_wide (λ n ds. IsNumeric ds) (λ n l. (omega arith, tt)) (λ n ds l is. one_more ds (48 + n % 10) (omega arith) is) n h

digits_are_word : (ds : List ℕ) → AreDigits ds → IsWord ds
digits_are_word [] h = tt
digits_are_word (d ∷ ds) h = (omega (arith, h.0), digits_are_word ds h.1)

numeric_is_word : (ds : List ℕ) → IsNumeric ds → IsWord ds
numeric_is_word [] bad = absurd bad
numeric_is_word (d ∷ ds) h = (omega (arith, h.0), digits_are_word ds h.1)

pub decimal_is_word : (n : ℕ) → n < 10 ^ 64 → IsWord (decimal n)
decimal_is_word n h = numeric_is_word (decimal n) (decimal_is_numeric n h)

-- a number isn't a smaller one
pub other_number : (a b : ℕ) → b < a → eqb a b ≡ false
other_number a b h = grind (arith, nat_tests)

-- a number isn't one byte before `0`
numeric_apart : (ds : List ℕ) (c : ℕ) → IsNumeric ds → c < 48 → bytes_eq ds (c ∷ []) ≡ false
numeric_apart [] c bad l = absurd bad
numeric_apart (d ∷ ds) c is l = let first : eqb d c ≡ false = other_number d c (omega (arith, is.0)) in rw first refl

pub not_dash : (n : ℕ) → n < 10 ^ 64 → bytes_eq (decimal n) (codes "-") ≡ false
not_dash n h = numeric_apart (decimal n) 45 (decimal_is_numeric n h) (omega arith)

pub not_slash : (n : ℕ) → n < 10 ^ 64 → is_slash (decimal n) ≡ false
not_slash n h = numeric_apart (decimal n) 47 (decimal_is_numeric n h) (omega arith)

-- ---- the words of a text

-- a space separates words
abbrev is_space : ℕ → Bool
is_space b = b == 32

onto-more : (b : ℕ) (xs ys : List (List ℕ)) → 0 < length xs → onto_first b (xs ++ ys) ≡ onto_first b xs ++ ys
onto-more b [] ys h = absurd (omega arith)
onto-more b (x ∷ xs) ys h = refl

split-apart : (u v : List ℕ) → slice_split is_space (u ++ 32 ∷ v) ≡ slice_split is_space u ++ slice_split is_space v
split-apart [] v = refl
split-apart (b ∷ u) v = elim (is_space b) as (λ (t : Bool). cond t ([] ∷ slice_split is_space (u ++ 32 ∷ v)) (onto_first b (slice_split is_space (u ++ 32 ∷ v))) ≡ cond t ([] ∷ slice_split is_space u) (onto_first b (slice_split is_space u)) ++ slice_split is_space v) [
  | true ↦ ap (λ ws. [] ∷ ws) (split-apart u v)
  | false ↦ ap (onto_first b) (split-apart u v) ∙ onto-more b (slice_split is_space u) (slice_split is_space v) (omega (arith, length-slice_split is_space u))
]

-- the words before a space, and those after it
pub words-apart : (u v : List ℕ) → words_of (u ++ 32 ∷ v) ≡ words_of u ++ words_of v
unfolding pieces_of
words-apart u v = split-apart u v

split-word : (w : List ℕ) → IsWord w → slice_split is_space w ≡ w ∷ []
split-word [] h = refl
split-word (b ∷ w) h =
    ap (λ (t : Bool). cond t ([] ∷ slice_split is_space w) (onto_first b (slice_split is_space w))) (other_number b 32 h.0)
    ∙ ap (onto_first b) (split-word w h.1)

-- a word
pub words-word : (w : List ℕ) → IsWord w → words_of w ≡ w ∷ []
unfolding pieces_of
words-word w h = split-word w h

-- ---- lists of numbers

-- each lies within these bounds
abbrev pub AreWithin : ℕ → ℕ → List ℕ → Type 0
AreWithin low high [] = Unit {0}
AreWithin low high (n ∷ ns) = ((low ≤ n) × (n ≤ high)) × AreWithin low high ns

-- the words of a list
abbrev pub list_words : List ℕ → List (List ℕ)
list_words [] = codes "-" ∷ []
list_words (n ∷ ns) = map decimal (n ∷ ns)

module _ (low high : ℕ) (short : high < 10 ^ 64) where
  words-numbers : (n : ℕ) (ns : List ℕ) → AreWithin low high (n ∷ ns) → words_of (decimal n ++ spaced_by decimal ns) ≡ map decimal (n ∷ ns)
  words-numbers n [] h = ap words_of (append-nil (decimal n)) ∙ words-word (decimal n) (decimal_is_word n (omega (arith, h.0.1)))
  words-numbers n (m ∷ ns) h =
      words-apart (decimal n) (decimal m ++ spaced_by decimal ns)
      ∙ ap (λ ws. ws ++ words_of (decimal m ++ spaced_by decimal ns)) (words-word (decimal n) (decimal_is_word n (omega (arith, h.0.1))))
      ∙ ap (λ ws. decimal n ∷ ws) (words-numbers m ns h.1)

  -- the words of a list's text
  pub words-list : (ns : List ℕ) → AreWithin low high ns → words_of (list_text ns) ≡ list_words ns
  words-list [] h = words-word (codes "-") (omega arith, tt)
  words-list (n ∷ ns) h = words-numbers n ns h

  numbers-read : (ns : List ℕ) → AreWithin low high ns → all_of (map (number_within low high) (map decimal ns)) ≡ Some ns
  numbers-read [] h = refl
  numbers-read (n ∷ ns) h =
      ap (λ o. all_of (o ∷ map (number_within low high) (map decimal ns))) (number_within-spelled_within low high (decimal n) n (omega (arith, h.0.1)) refl h.0.0 h.0.1)
      ∙ ap (option_map (λ ms. n ∷ ms)) (numbers-read ns h.1)

  undashed : (n : ℕ) (ns : List ℕ) → n ≤ high → is_dash (map decimal (n ∷ ns)) ≡ false
  undashed n [] h = not_dash n (omega arith)
  undashed n (m ∷ ns) h = refl

  -- they are read as the list
  pub list-read : (most : ℕ) (ns : List ℕ) → AreWithin low high ns → length ns ≤ most → list_within most low high (list_words ns) ≡ Some ns
  unfolding list_within
  list-read most [] h l = refl
  list-read most (n ∷ ns) h l =
      ap (λ (t : Bool). cond t (Some []) (counted most (all_of (map (number_within low high) (map decimal (n ∷ ns)))))) (undashed n ns h.0.1)
      ∙ counted-some most (all_of (map (number_within low high) (map decimal (n ∷ ns)))) (n ∷ ns) (numbers-read (n ∷ ns) h) (omega arith) l

  -- a list's words, `/`, and further words
  before-numbers : (ns : List ℕ) (ws : List (List ℕ)) → AreWithin low high ns → before_slash (map decimal ns ++ codes "/" ∷ ws) ≡ map decimal ns
  before-numbers [] ws h = refl
  before-numbers (n ∷ ns) ws h =
      ap (λ (t : Bool). cond t [] (decimal n ∷ before_slash (map decimal ns ++ codes "/" ∷ ws))) (not_slash n (omega (arith, h.0.1)))
      ∙ ap (λ vs. decimal n ∷ vs) (before-numbers ns ws h.1)

  after-numbers : (ns : List ℕ) (ws : List (List ℕ)) → AreWithin low high ns → after_slash (map decimal ns ++ codes "/" ∷ ws) ≡ ws
  after-numbers [] ws h = refl
  after-numbers (n ∷ ns) ws h =
      ap (λ (t : Bool). cond t (map decimal ns ++ codes "/" ∷ ws) (after_slash (map decimal ns ++ codes "/" ∷ ws))) (not_slash n (omega (arith, h.0.1)))
      ∙ after-numbers ns ws h.1

  pub before-list : (ns : List ℕ) (ws : List (List ℕ)) → AreWithin low high ns → before_slash (list_words ns ++ codes "/" ∷ ws) ≡ list_words ns
  before-list [] ws h = refl
  before-list (n ∷ ns) ws h = before-numbers (n ∷ ns) ws h

  pub after-list : (ns : List ℕ) (ws : List (List ℕ)) → AreWithin low high ns → after_slash (list_words ns ++ codes "/" ∷ ws) ≡ ws
  after-list [] ws h = refl
  after-list (n ∷ ns) ws h = after-numbers (n ∷ ns) ws h

-- ---- a digest's digits: there are 64, and each is one of a session text's

-- bytes
abbrev AreBytes : List ℕ → Type 0
AreBytes [] = Unit {0}
AreBytes (b ∷ bs) = (b < 256) × AreBytes bs

bytes-append : (xs ys : List ℕ) → AreBytes xs → AreBytes ys → AreBytes (xs ++ ys)
bytes-append [] ys h k = k
bytes-append (x ∷ xs) ys h k = (h.0, bytes-append xs ys h.1 k)

digest_bytes_are : (h : List ℕ) (n : ℕ) → AreBytes (digest_bytes h n)
unfolding digest_bytes
digest_bytes_are h zero = tt
digest_bytes_are h (suc n) =
    bytes-append (digest_bytes h n) (to_be_bytes w32 (slice_index h n)) (digest_bytes_are h n) (omega arith, (omega arith, (omega arith, (omega arith, tt))))

sha256_are : (m : List ℕ) → AreBytes (sha256 m)
unfolding sha256
sha256_are m = digest_bytes_are _ 8

-- a digit of the table
a_digit : (k : ℕ) → k < 16 → is_digest_digit (slice_index lower_digits k) ≡ true
a_digit k l = by_test (is_digest_digit (slice_index lower_digits k)) refl
  where
    by_test : (b : Bool) → is_digest_digit (slice_index lower_digits k) ≡ b → b ≡ true
    by_test true e = refl
    by_test false e = let none : true ≡ false = list_all_at is_digest_digit lower_digits k 0 l e in cc

encoded_digits : (bs : List ℕ) → AreBytes bs → list_all is_digest_digit (encode_lower bs) ≡ true
unfolding encode_with
encoded_digits [] h = refl
encoded_digits (b ∷ bs) h = rw (a_digit (b / 16) (omega (arith, h.0)), a_digit (b % 16) (omega arith)) (encoded_digits bs h.1)

encoded_length : (bs : List ℕ) → length (encode_lower bs) ≡ 2 * length bs
unfolding encode_with
encoded_length [] = omega arith
encoded_length (b ∷ bs) = let rest = encoded_length bs in omega (arith, rest)

pub digest_length : (m : List ℕ) → length (encode_lower (sha256 m)) ≡ 64
digest_length m = encoded_length (sha256 m) ∙ ap (λ n. 2 * n) (length-sha256 m)

-- a digest
pub digest_is : (m : List ℕ) → is_digest (encode_lower (sha256 m)) ≡ true
digest_is m = rw (digest_length m) (encoded_digits (sha256 m) (sha256_are m))

digit_word : (b : ℕ) → is_digest_digit b ≡ true → 32 < b
digit_word b e = grind (arith, nat_tests)

digits_word : (ds : List ℕ) → list_all is_digest_digit ds ≡ true → IsWord ds
digits_word [] e = tt
digits_word (d ∷ ds) e =
    let both = and_parts (is_digest_digit d) (list_all is_digest_digit ds) e in
    (digit_word d both.0, digits_word ds both.1)

pub digest_word : (m : List ℕ) → IsWord (encode_lower (sha256 m))
digest_word m = digits_word (encode_lower (sha256 m)) (encoded_digits (sha256 m) (sha256_are m))

-- ---- digits at the front of a text, as its first word

digits_make_word : (ds : List ℕ) → list_all is_digit ds ≡ true → IsWord ds
digits_make_word [] all = tt
digits_make_word (d ∷ ds) all =
    let p = and_parts (is_digit d) (list_all is_digit ds) all in
    let low : 48 ≤ d = leb-true 48 d (and_parts (leb 48 d) (leb d 57) p.0).0 in
    (omega arith, digits_make_word ds p.1)

-- with nothing after them
pub digits-alone : (ds : List ℕ) → list_all is_digit ds ≡ true → words_of ds ≡ ds ∷ []
digits-alone ds all = words-word ds (digits_make_word ds all)

-- with a space after them
pub digits-ahead : (ds rest : List ℕ) → list_all is_digit ds ≡ true → words_of (ds ++ 32 ∷ rest) ≡ ds ∷ words_of rest
digits-ahead ds rest all = words-apart ds rest ∙ ap (λ ws. ws ++ words_of rest) (digits-alone ds all)

-- ---- words that are read as a number or a list are the spelling of it

-- words, separated by single spaces
abbrev pub joined : List (List ℕ) → List ℕ
joined words = join_with_byte 32 words

-- a text is its words
pub words-joined : (text : List ℕ) → joined (words_of text) ≡ text
unfolding pieces_of
words-joined text = join_with_byte-slice_split 32 text

-- two lists of words in turn
pub joined-append : (w : List ℕ) (ws : List (List ℕ)) (v : List ℕ) (vs : List (List ℕ)) → joined ((w ∷ ws) ++ v ∷ vs) ≡ joined (w ∷ ws) ++ 32 ∷ joined (v ∷ vs)
joined-append w [] v vs = refl
joined-append w (u ∷ ws) v vs =
    ap (λ (t : List ℕ). w ++ 32 ∷ t) (joined-append u ws v vs) ∙ sym (append_assoc w (32 ∷ joined (u ∷ ws)) (32 ∷ joined (v ∷ vs)))

-- a number
pub number_told : (low high : ℕ) (text : List ℕ) (n : ℕ) → number_within low high text ≡ Some n → text ≡ decimal n
unfolding number_within
number_told low high text n e = by_tests (bytes_eq text (decimal m)) refl (leb low m) (leb m high) e
  where
    m : ℕ
    m = digits_value 10 text

    same : bytes_eq text (decimal m) ≡ true → text ≡ decimal m
    same is = (bytes_eq-Decides text (decimal m)).0 is

    by_tests : (a : Bool) → bytes_eq text (decimal m) ≡ a → (b c : Bool) → cond (a && b && c) (Some m) None ≡ Some n → text ≡ decimal n
    by_tests false is b c e = absurd cc
    by_tests true is false c e = absurd cc
    by_tests true is true false e = absurd cc
    by_tests true is true true e = let value : m ≡ n = cc in same is ∙ ap decimal value

-- the first value, and the others
all_first : (o : Option ℕ) (os : List (Option ℕ)) (ns : List ℕ) → all_of (o ∷ os) ≡ Some ns
    → (n : ℕ) × (ms : List ℕ) × (o ≡ Some n) × (all_of os ≡ Some ms) × (ns ≡ n ∷ ms)
all_first None os ns e = absurd cc
all_first (Some n) os ns e = by_rest (all_of os) refl e
  where
    by_rest : (r : Option (List ℕ)) → all_of os ≡ r → option_map (λ (ms : List ℕ). n ∷ ms) r ≡ Some ns
        → (m : ℕ) × (ms : List ℕ) × (Some n ≡ Some m) × (all_of os ≡ Some ms) × (ns ≡ m ∷ ms)
    by_rest None is e = absurd cc
    by_rest (Some ms) is e = let same : ns ≡ n ∷ ms = cc in (n, ms, refl, is, same)

-- numbers, one or more
numbers_told : (low high : ℕ) (w : List ℕ) (ws : List (List ℕ)) (ns : List ℕ) → all_of (map (number_within low high) (w ∷ ws)) ≡ Some ns → joined (w ∷ ws) ≡ list_text ns
numbers_told low high w [] ns e =
    let h = all_first (number_within low high w) [] ns e in
    let none : h.1 ≡ [] = (let i : Some [] ≡ Some h.1 = h.3 in cc) in
    number_told low high w h.0 h.2 ∙ sym (append-nil (decimal h.0)) ∙ ap (λ (ms : List ℕ). list_text (h.0 ∷ ms)) (sym none) ∙ ap list_text (sym h.4)
numbers_told low high w (v ∷ ws) ns e =
    let h = all_first (number_within low high w) (map (number_within low high) (v ∷ ws)) ns e in
    let k = all_first (number_within low high v) (map (number_within low high) ws) h.1 h.3 in
    ap (λ (t : List ℕ). t ++ 32 ∷ joined (v ∷ ws)) (number_told low high w h.0 h.2)
    ∙ ap (λ (t : List ℕ). decimal h.0 ++ 32 ∷ t) (numbers_told low high v ws h.1 h.3 ∙ ap list_text k.4)
    ∙ ap (λ (ms : List ℕ). list_text (h.0 ∷ ms)) (sym k.4) ∙ ap list_text (sym h.4)

-- not too many
counted_told : (most : ℕ) (found : Option (List ℕ)) (ns : List ℕ) → counted most found ≡ Some ns → found ≡ Some ns
counted_told most None ns e = absurd cc
counted_told most (Some ms) ns e = by_test (ltb 0 (length ms) && leb (length ms) most) e
  where
    by_test : (b : Bool) → cond b (Some ms) None ≡ Some ns → Some ms ≡ Some ns
    by_test true e = e
    by_test false e = absurd cc

numbered_told : (most low high : ℕ) (words : List (List ℕ)) (ns : List ℕ) → counted most (all_of (map (number_within low high) words)) ≡ Some ns → joined words ≡ list_text ns
numbered_told most low high [] ns e = absurd cc
numbered_told most low high (w ∷ ws) ns e =
    numbers_told low high w ws ns (counted_told most (all_of (map (number_within low high) (w ∷ ws))) ns e)

dash_told : (words : List (List ℕ)) → is_dash words ≡ true → joined words ≡ codes "-"
dash_told [] e = absurd cc
dash_told (w ∷ []) e = (bytes_eq-Decides w (codes "-")).0 e
dash_told (w ∷ v ∷ ws) e = absurd cc

-- a list
pub list_told : (most low high : ℕ) (words : List (List ℕ)) (ns : List ℕ) → list_within most low high words ≡ Some ns → joined words ≡ list_text ns
unfolding list_within
list_told most low high words ns e = by_dash (is_dash words) refl e
  where
    by_dash : (b : Bool) → is_dash words ≡ b → cond b (Some []) (counted most (all_of (map (number_within low high) words))) ≡ Some ns → joined words ≡ list_text ns
    by_dash true is e = let none : [] ≡ ns = cc in dash_told words is ∙ ap list_text none
    by_dash false is e = numbered_told most low high words ns e

-- a list has a word
pub list_has_word : (most low high : ℕ) (words : List (List ℕ)) (ns : List ℕ) → list_within most low high words ≡ Some ns → (w : List ℕ) × (ws : List (List ℕ)) × (words ≡ w ∷ ws)
unfolding list_within
list_has_word most low high [] ns e = absurd cc
list_has_word most low high (w ∷ ws) ns e = (w, ws, refl)

slash_parted : (ws : List (List ℕ)) (v : List ℕ) (vs : List (List ℕ)) → after_slash ws ≡ v ∷ vs → ws ≡ before_slash ws ++ codes "/" ∷ v ∷ vs
slash_parted [] v vs e = absurd cc
slash_parted (u ∷ us) v vs e = by_first (is_slash u) refl e (slash_parted us v vs)
  where
    by_first : (b : Bool) → is_slash u ≡ b → cond b us (after_slash us) ≡ v ∷ vs
        → (after_slash us ≡ v ∷ vs → us ≡ before_slash us ++ codes "/" ∷ v ∷ vs)
        → u ∷ us ≡ cond b [] (u ∷ before_slash us) ++ codes "/" ∷ v ∷ vs
    by_first true is e rest =
        let same : u ≡ codes "/" = (bytes_eq-Decides u (codes "/")).0 is in
        rw (same, e) refl
    by_first false is e rest = ap (λ (ws : List (List ℕ)). u ∷ ws) (rest e)

-- two lists with `/` between them
pub slash_joined : (words : List (List ℕ)) (x y : List ℕ) → contacts_of (before_slash words) ≡ Some x → (v : List ℕ) (vs : List (List ℕ)) → after_slash words ≡ v ∷ vs → joined (after_slash words) ≡ y
    → joined words ≡ list_text x ++ (codes " / " ++ y)
slash_joined words x y first v vs after e =
    let w = list_has_word 20000 1 most_number (before_slash words) x first in
    let whole : words ≡ (w.0 ∷ w.1) ++ codes "/" ∷ v ∷ vs = slash_parted words v vs after ∙ ap (λ (ws : List (List ℕ)). ws ++ codes "/" ∷ v ∷ vs) w.2 in
    let front : joined (w.0 ∷ w.1) ≡ list_text x = ap joined (sym w.2) ∙ list_told 20000 1 most_number (before_slash words) x first in
    let back : joined (v ∷ vs) ≡ y = ap joined (sym after) ∙ e in
    ap joined whole ∙ joined-append w.0 w.1 (codes "/") (v ∷ vs) ∙ ap (λ (t : List ℕ). t ++ 32 ∷ 47 ∷ 32 ∷ joined (v ∷ vs)) front
    ∙ ap (λ (t : List ℕ). list_text x ++ 32 ∷ 47 ∷ 32 ∷ t) back
