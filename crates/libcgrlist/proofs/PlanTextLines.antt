-- The lines of a plan's text, as they are read.
use Rattle.std.proofs.Common.{◌≡◌, ℕ, ◌+◌, ◌<◌, ◌≤◌, true, List, [], ◌∷◌, ◌++◌, length, get_or, refl, ap, ◌∙◌, arith, length-append, decimal, codes, Option, Some, Ok, ok_or}
use Rattle.std.specs.List.{AllByRecursion, list_all}
use Rattle.std.proofs.lemmas.Bool.{and_parts}
use Rattle.std.proofs.lemmas.Bool.Decides.{nat_tests}
use Rattle.std.proofs.lemmas.Fmt.{decimal_is_IsNumeral, digits_decimal, length-decimal-le}
use Rattle.std.proofs.lemmas.List.Folds.{list_all-append}
use Rattle.sabr_model.specs.plan.Plan.{IsNode, last_time}
use Rattle.sabr_plan.specs.Commands.{addition_of, line_command, command_of}
use Rattle.sabr_plan.specs.Numbers.{number_within}
use Rattle.sabr_plan.specs.Operands.{node_of, value_of, largest_value}
use Rattle.sabr_plan.specs.PlainWords.{is_graphic, is_graphic_word, name_of}
use Rattle.sabr_plan.specs.Times.{time_text_of}
use Rattle.sabr_plan.specs.Words.{has_bytes, is_blank, is_plain, is_one_line, words_of}
use Rattle.sabr_plan.specs.declared.command.Addition.{Addition}
use Rattle.sabr_plan.specs.declared.command.Command.{Command}
use Rattle.sabr_plan.specs.declared.command.Command.TheVariants.{Add, Delete}
use Rattle.sabr_plan.specs.declared.command.Deletion.{Deletion}
use Rattle.sabr_plan.specs.declared.command.Target.{Target}
use Rattle.sabr_plan.specs.declared.command.Target.TheVariants.{Contact, Range}
use Rattle.sabr_plan.specs.declared.fault.PlanKind.TheVariants.{BadNode, BadNumber}
use Rattle.sabr_plan.proofs.SpelledNumbers.{numerals, number_within-spelled_within, short128}
use Rattle.sabr_plan.proofs.PlainWords.{words_of-blank, words_of-nil, first_of, graphic_number, plain_one}
use Rattle.sabr_plan.proofs.Spelling.{graphic_time, time_at-text}
use Rattle.libcgrlist.specs.PlanTexts.{spaced_words, addition_line, deletion_line}

-- ---- words after spaces

-- each of them is a graphic word
abbrev AreWords : List (List ℕ) → Type 0
AreWords ws = AllByRecursion (λ w. is_graphic_word w ≡ true) ws

plain_byte : (b : ℕ) → is_graphic b ≡ true → is_plain b ≡ true
plain_byte b h = grind (arith, nat_tests)

plain_word : (w : List ℕ) → list_all is_graphic w ≡ true → list_all is_plain w ≡ true
plain_word [] h = refl
plain_word (b ∷ w) h = let p = and_parts (is_graphic b) (list_all is_graphic w) h in rw (plain_byte b p.0, plain_word w p.1) refl

plain_words : (ws : List (List ℕ)) → AreWords ws → list_all is_plain (spaced_words ws) ≡ true
plain_words [] all = refl
plain_words (w ∷ ws) all =
    let p = and_parts (has_bytes w) (list_all is_graphic w) all.0 in
    rw (list_all-append is_plain w (spaced_words ws), plain_word w p.1, plain_words ws all.1) refl

first_blank : (ws : List (List ℕ)) → 0 < length (spaced_words ws) → is_blank (get_or (spaced_words ws) 0 0) ≡ true
first_blank [] some = absurd (omega (arith, some))
first_blank (w ∷ ws) some = refl

words_are : (ws : List (List ℕ)) → AreWords ws → words_of (spaced_words ws) ≡ ws
words_are [] all = words_of-nil
words_are (w ∷ ws) all = words_of-blank 32 (w ++ spaced_words ws) refl ∙ first_of w (spaced_words ws) all.0 (first_blank ws) ∙ ap (λ rest. w ∷ rest) (words_are ws all.1)

-- ---- a letter, and words

module _ (ws : List (List ℕ)) (all : AreWords ws) where
  plain_line : (letter : ℕ) → is_plain letter ≡ true → list_all is_plain (letter ∷ spaced_words ws) ≡ true
  plain_line letter plain = rw (plain, plain_words ws all) refl

  words_line : (letter : ℕ) → is_graphic_word (letter ∷ []) ≡ true → words_of (letter ∷ spaced_words ws) ≡ (letter ∷ []) ∷ ws
  words_line letter graphic = first_of (letter ∷ []) (spaced_words ws) graphic (first_blank ws) ∙ ap (λ rest. (letter ∷ []) ∷ rest) (words_are ws all)

  addition_command : (reference : Option ℕ) → line_command reference (97 ∷ spaced_words ws) ≡ command_of reference ((97 ∷ []) ∷ ws)
  unfolding line_command
  addition_command reference = rw (plain_line 97 refl, words_line 97 refl) refl

  deletion_command : (reference : Option ℕ) → line_command reference (100 ∷ spaced_words ws) ≡ command_of reference ((100 ∷ []) ∷ ws)
  unfolding line_command
  deletion_command reference = rw (plain_line 100 refl, words_line 100 refl) refl

  one_line : (letter : ℕ) → is_plain letter ≡ true → is_one_line (letter ∷ spaced_words ws) ≡ true
  one_line letter plain = plain_one (letter ∷ spaced_words ws) (plain_line letter plain)

-- ---- numbers and nodes as words

graphic_decimal : (n : ℕ) → n < 18446744073709551616 → is_graphic_word (decimal n) ≡ true
graphic_decimal n h = graphic_number (decimal n) ((decimal_is_IsNumeral n (omega (arith, h))).0.0, digits_decimal numerals n (omega (arith, h)))

short_decimal : (n : ℕ) → n < 18446744073709551616 → length (decimal n) ≤ 20
short_decimal n h = length-decimal-le 20 n (omega arith) (omega (arith, h)) (omega (arith, h))

within : (low high n : ℕ) → low ≤ n → n ≤ high → n < 18446744073709551616 → number_within low high (decimal n) ≡ Some n
within low high n a b h = number_within-spelled_within low high (decimal n) n (short128 n (omega (arith, h))) refl a b

node_word : (n : ℕ) → 0 < n → n < 18446744073709551616 → node_of (decimal n) ≡ Ok n
node_word n some h = ap (λ o. ok_or o BadNode) (within 1 18446744073709551615 n (omega (arith, some)) (omega (arith, h)) h)

largest_small : (target : Target) → largest_value target < 18446744073709551616
largest_small Contact = omega arith
largest_small Range = omega arith

value_word : (target : Target) (n : ℕ) → n ≤ largest_value target → value_of target (decimal n) ≡ Ok n
value_word target n most = ap (λ o. ok_or o BadNumber) (within 0 (largest_value target) n (omega arith) most (let top = largest_small target in omega (arith, most, top)))

-- ---- the lines

-- a line that ends with LF has this command, whatever the reference
pub record IsLineOf (bytes : List ℕ) (command : Command) : Type 0 where
  pub line : List ℕ
  pub parts : bytes ≡ line ++ 10 ∷ []
  pub one : is_one_line line ≡ true
  pub short : length line ≤ 255
  pub has : (reference : Option ℕ) → line_command reference line ≡ Ok command

graphic_name : (target : Target) → is_graphic_word (name_of target) ≡ true
graphic_name Contact = refl
graphic_name Range = refl

short_name : (target : Target) → length (name_of target) ≤ 7
short_name Contact = omega arith
short_name Range = omega arith

short_time : (t : ℕ) → length (time_text_of t) ≤ 19
unfolding time_text_of
short_time t = omega arith

longer : (w : List ℕ) (ws : List (List ℕ)) (k m : ℕ) → length w ≤ k → length (spaced_words ws) ≤ m → length (spaced_words (w ∷ ws)) ≤ k + m + 1
longer w ws k m one rest = omega (arith, length-append w (spaced_words ws), one, rest)

-- the operands of an addition are within their limits
pub record HasLimits (target : Target) (a : Addition) : Type 0 where
  pub start : a.start ≤ last_time
  pub end : a.end ≤ last_time
  pub first : IsNode a.first
  pub second : IsNode a.second
  pub value : a.value ≤ largest_value target

addition_words : Target → Addition → List (List ℕ)
addition_words target a = name_of target ∷ time_text_of a.start ∷ time_text_of a.end ∷ decimal a.first ∷ decimal a.second ∷ decimal a.value ∷ []

module _ (target : Target) (a : Addition) (h : HasLimits target a) where
  small : a.value < 18446744073709551616
  small = let v = h.value in let top = largest_small target in omega (arith, v, top)

  addition_are_words : AreWords (addition_words target a)
  unfolding addition_words
  addition_are_words = (graphic_name target, (graphic_time a.start h.start, (graphic_time a.end h.end, (graphic_decimal a.first h.first.1, (graphic_decimal a.second h.second.1, (graphic_decimal a.value small, tt))))))

  addition_operands : (reference : Option ℕ) → addition_of reference target (time_text_of a.start ∷ time_text_of a.end ∷ decimal a.first ∷ decimal a.second ∷ decimal a.value ∷ []) ≡ Ok (Add target a)
  addition_operands reference = rw (time_at-text reference a.start h.start, time_at-text reference a.end h.end, node_word a.first h.first.0 h.first.1, node_word a.second h.second.0 h.second.1, value_word target a.value h.value) refl

  addition_targeted : (reference : Option ℕ) → command_of reference ((97 ∷ []) ∷ addition_words target a) ≡ addition_of reference target (time_text_of a.start ∷ time_text_of a.end ∷ decimal a.first ∷ decimal a.second ∷ decimal a.value ∷ [])
  unfolding addition_words
  addition_targeted reference = named target
    where
      named : (t : Target) → command_of reference ((97 ∷ []) ∷ name_of t ∷ time_text_of a.start ∷ time_text_of a.end ∷ decimal a.first ∷ decimal a.second ∷ decimal a.value ∷ []) ≡ addition_of reference t (time_text_of a.start ∷ time_text_of a.end ∷ decimal a.first ∷ decimal a.second ∷ decimal a.value ∷ [])
      named Contact = refl
      named Range = refl

  addition_short : length (97 ∷ spaced_words (addition_words target a)) ≤ 255
  unfolding addition_words
  addition_short =
      let value = longer (decimal a.value) [] 20 0 (short_decimal a.value small) (omega arith) in
      let second = longer (decimal a.second) (decimal a.value ∷ []) 20 21 (short_decimal a.second h.second.1) value in
      let first = longer (decimal a.first) (decimal a.second ∷ decimal a.value ∷ []) 20 42 (short_decimal a.first h.first.1) second in
      let end = longer (time_text_of a.end) (decimal a.first ∷ decimal a.second ∷ decimal a.value ∷ []) 19 63 (short_time a.end) first in
      let start = longer (time_text_of a.start) (time_text_of a.end ∷ decimal a.first ∷ decimal a.second ∷ decimal a.value ∷ []) 19 83 (short_time a.start) end in
      let all = longer (name_of target) (time_text_of a.start ∷ time_text_of a.end ∷ decimal a.first ∷ decimal a.second ∷ decimal a.value ∷ []) 7 103 (short_name target) start in
      omega (arith, all)

  pub addition_line_is : IsLineOf (addition_line (name_of target) a.start a.end a.first a.second a.value) (Add target a)
  unfolding addition_line addition_words
  addition_line_is = record {
    line = 97 ∷ spaced_words (addition_words target a);
    parts = refl;
    one = one_line (addition_words target a) addition_are_words 97 refl;
    short = addition_short;
    has = λ reference. addition_command (addition_words target a) addition_are_words reference ∙ addition_targeted reference ∙ addition_operands reference;
  }

deletion_words : Deletion → List (List ℕ)
deletion_words d = codes "contact" ∷ time_text_of d.start ∷ decimal d.first ∷ decimal d.second ∷ []

module _ (d : Deletion) (start : d.start ≤ last_time) (first : IsNode d.first) (second : IsNode d.second) where
  deletion_are_words : AreWords (deletion_words d)
  unfolding deletion_words
  deletion_are_words = (refl, (graphic_time d.start start, (graphic_decimal d.first first.1, (graphic_decimal d.second second.1, tt))))

  deletion_operands : (reference : Option ℕ) → command_of reference ((100 ∷ []) ∷ deletion_words d) ≡ Ok (Delete Contact d)
  unfolding deletion_words
  deletion_operands reference = rw (time_at-text reference d.start start, node_word d.first first.0 first.1, node_word d.second second.0 second.1) refl

  deletion_short : length (100 ∷ spaced_words (deletion_words d)) ≤ 255
  unfolding deletion_words
  deletion_short =
      let second_word = longer (decimal d.second) [] 20 0 (short_decimal d.second second.1) (omega arith) in
      let first_word = longer (decimal d.first) (decimal d.second ∷ []) 20 21 (short_decimal d.first first.1) second_word in
      let start_word = longer (time_text_of d.start) (decimal d.first ∷ decimal d.second ∷ []) 19 42 (short_time d.start) first_word in
      let all = longer (codes "contact") (time_text_of d.start ∷ decimal d.first ∷ decimal d.second ∷ []) 7 62 (omega arith) start_word in
      omega (arith, all)

  pub deletion_line_is : IsLineOf (deletion_line d.start d.first d.second) (Delete Contact d)
  unfolding deletion_line deletion_words
  deletion_line_is = record {
    line = 100 ∷ spaced_words (deletion_words d);
    parts = refl;
    one = one_line (deletion_words d) deletion_are_words 100 refl;
    short = deletion_short;
    has = λ reference. deletion_command (deletion_words d) deletion_are_words reference ∙ deletion_operands reference;
  }
