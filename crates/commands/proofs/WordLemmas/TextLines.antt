-- The lines of a text of requests or of lists, and how they are judged while the text is read.
use Rattle.std.proofs.Common.{◌≡◌, ℕ, ◌<◌, List, [], ◌∷◌, length, refl, ap, sym, ◌∙◌, arith, ◌++◌, inr, Result, Ok, Err, None, Some, ◌==◌, nat_lt, ◌&&◌, ◌||◌, ◌+◌, ◌-◌, ◌≤◌, Bool, true, false, not, take, drop, ◌⊎◌, inl, append_assoc, append-nil, length-take, length-drop, length-append, if◌then◌else◌}
use Rattle.sabr_plan.specs.Pieces.{pieces_of}
use Rattle.commands.specs.words.Lines.{lines_in, without_last_empty, Asked, AskedLine, IsRefused, IsGoodSoFar, ReadsLines, asked_by, fault_of, put_first, IsJudged, after_contacts, asked_at, asked_from, fault_in, is_bad_rest, list_in, most_bytes, most_line_bytes, most_lines, most_list_bytes, request_in}
use Rattle.sabr_plan.proofs.TextPieces.{some_piece}
use Rattle.sabr_model.specs.Devices.{Input, Gives}
use Rattle.commands.specs.declared.words.lines.LinesFault.{LinesFault}
use Rattle.commands.specs.declared.words.lines.LinesFault.TheVariants.{Line, Read}
use Rattle.commands.specs.declared.words.lines.LineForm.{LineForm}
use Rattle.commands.specs.declared.words.lines.LineKind.{LineKind}
use Rattle.std.specs.List.{onto_first, slice_split}
use Rattle.std.proofs.lemmas.Bool.{lt-ltb, ltb-true}
use Rattle.std.proofs.lemmas.Bool.Decides.{nat_tests}
use Rattle.std.proofs.lemmas.Grind.{common_steps}
use Rattle.std.proofs.lemmas.List.{take-append-drop, drop-append-le, take_rest}
use Rattle.std.proofs.lemmas.List.Sums.{AllPass-from_list_all}
use Rattle.std.proofs.lemmas.List.Splits.{slice_split_none, slice_split_at, slice_split-cons_no}
use Rattle.std.proofs.Math.Seq.{drop-append-add}
use Rattle.sabr_plan.specs.Words.{is_one_line}
use Rattle.sabr_plan.proofs.Held.{one_line-append}
use Rattle.commands.specs.declared.words.lines.Judged.{Judged}
use Rattle.commands.specs.declared.words.lines.LineForm.TheVariants.{Requests, Lists}
use Rattle.commands.specs.declared.words.lines.LineKind.TheVariants.{BadLine}

-- an empty text has no lines
pub no_lines : (text : List ℕ) → length text ≡ 0 → lines_in text ≡ []
unfolding lines_in pieces_of
no_lines [] e = refl
no_lines (b ∷ text) e = absurd (omega arith)

-- a text without LF is a line
pub one_line : (text line : List ℕ) → 0 < length text → pieces_of 10 text ≡ line ∷ [] → line ≡ text → lines_in text ≡ line ∷ lines_in []
unfolding lines_in pieces_of
one_line [] line some e is = absurd (omega arith)
one_line (b ∷ text) line some e is = ap without_last_empty (e ∙ ap (λ l. l ∷ []) is) ∙ ap (λ l. l ∷ []) (sym is)

before : (line : List ℕ) (pieces : List (List ℕ)) → 0 < length pieces → without_last_empty (line ∷ pieces) ≡ line ∷ without_last_empty pieces
before line [] some = absurd (omega arith)
before [] (p ∷ ps) some = refl
before (b ∷ line) (p ∷ ps) some = refl

-- LF ends a line
pub next_line : (text line rest : List ℕ) → pieces_of 10 text ≡ line ∷ pieces_of 10 rest → lines_in text ≡ line ∷ lines_in rest
unfolding lines_in
next_line text line rest e =
    ap without_last_empty e ∙ before line (pieces_of 10 rest) (some_piece 10 rest)

-- ---- what reading leaves

-- the answer that has a fault is that fault
pub fault_requested : (requested : Result (List AskedLine) LinesFault) (f : LinesFault) → fault_of requested ≡ Some f → requested ≡ Err f
fault_requested (Ok xs) f e = absurd cc
fault_requested (Err g) f e = cc

-- no text has a fault of its reader
never_read : (form : LineForm) (n : ℕ) (lines : List (List ℕ)) → fault_of (asked_from form n lines) ≡ Some Read → ⊥
never_read form n [] e = absurd cc
never_read form n (line ∷ lines) e = by_parts (asked_at form n line) (asked_from form (n + 1) lines) e (never_read form (n + 1) lines)
  where
    by_parts : (a : Result Asked LineKind) (rest : Result (List AskedLine) LinesFault) → fault_of (put_first n line a rest) ≡ Some Read → (fault_of rest ≡ Some Read → ⊥) → ⊥
    by_parts (Err kind) rest e below = absurd cc
    by_parts (Ok a) (Err f) e below = below e
    by_parts (Ok a) (Ok xs) e below = absurd cc

-- a bad line was read, and what follows can't make it a good one
pub line_refused : (form : LineForm) (old new : Input) (text : List ℕ) (f : LinesFault) → Gives old text new → new.failures ≡ old.failures → IsRefused form text f → ReadsLines form old (Err f) new
line_refused form old new text f gives fine refused = record {
  given = text;
  gives = gives;
  told = inr (inr (fine, inr ((λ is. never_read form 1 (lines_in (text ++ [])) (refused [] ∙ ap Some is)), (λ more ended. fault_requested (asked_by form (text ++ more)) f (refused more)))));
}

-- the reader failed, and no line that it gave is bad
pub reader_failed : (form : LineForm) (old new : Input) (text : List ℕ) (j : Judged) → Gives old text new → new.failures ≡ old.failures + 1 → IsGoodSoFar form text j → ReadsLines form old (Err Read) new
reader_failed form old new text j gives fails good = record { given = text; gives = gives; told = inr (inl (refl, fails, (j, good))) }

-- a bad line is the first bad one before all others
pub bad_first : (n : ℕ) (line : List ℕ) (a : Result Asked LineKind) (rest : Result (List AskedLine) LinesFault) (kind : LineKind) → fault_of a ≡ Some kind → fault_of (put_first n line a rest) ≡ Some (Line n kind)
bad_first n line (Ok a) rest kind e = absurd cc
bad_first n line (Err k) rest kind e =
    let same : k ≡ kind = cc in
    ap (λ j. Some (Line n j)) same

-- a good line leaves the first bad one to the others
pub good_first : (n : ℕ) (line : List ℕ) (a : Result Asked LineKind) (rest : Result (List AskedLine) LinesFault) → fault_of a ≡ None → fault_of (put_first n line a rest) ≡ fault_of rest
good_first n line (Ok a) (Ok xs) e = refl
good_first n line (Ok a) (Err fault) e = refl
good_first n line (Err k) rest e = absurd cc

-- ---- judging the lines of a text that grows

abbrev is_end : ℕ → Bool
is_end b = b == 10

no_end : (b : ℕ) → not (b == 10) ≡ true → (b == 10) ≡ false
no_end b h = grind (arith, nat_tests)

-- LF ends a line, whatever follows
ended : (line rest more : List ℕ) → is_one_line line ≡ true → lines_in ((line ++ 10 ∷ rest) ++ more) ≡ line ∷ lines_in (rest ++ more)
unfolding pieces_of
ended line rest more h =
    ap lines_in (append_assoc line (10 ∷ rest) more)
    ∙ next_line (line ++ 10 ∷ (rest ++ more)) line (rest ++ more) (slice_split_at is_end line 10 (rest ++ more) (λ k d below. no_end _ (AllPass-from_list_all (λ b. not (b == 10)) line h k d below)) refl)

-- a line that LF ends, the first one that wasn't judged
module _ (form : LineForm) (text : List ℕ) (j : Judged) (line rest : List ℕ) (is : IsJudged form text j) (parts : take (length text - j.bytes) (drop j.bytes text) ≡ line ++ 10 ∷ rest) (one : is_one_line line ≡ true) where
  front : drop j.bytes text ≡ line ++ 10 ∷ rest
  front = sym (take_rest text j.bytes) ∙ parts

  here : (more : List ℕ) → fault_in form 1 (text ++ more) ≡ fault_of (put_first j.number line (asked_at form j.number line) (asked_from form (j.number + 1) (lines_in (rest ++ more))))
  here more = is.same more ∙ ap (λ (b : List ℕ). fault_in form j.number (b ++ more)) front ∙ ap (λ (ls : List (List ℕ)). fault_of (asked_from form j.number ls)) (ended line rest more one)

  -- if it is bad, it is the first bad one
  pub bad_line : (kind : LineKind) → fault_of (asked_at form j.number line) ≡ Some kind → IsRefused form text (Line j.number kind)
  bad_line kind e more = here more ∙ bad_first j.number line (asked_at form j.number line) _ kind e

  behind : drop (j.bytes + length line + 1) text ≡ rest
  behind =
      let count : j.bytes + length line + 1 ≡ length (take j.bytes text) + (length line + 1) = omega (arith, length-take j.bytes text, is.within) in
      ap (λ (xs : List ℕ). drop (j.bytes + length line + 1) xs) (sym (take-append-drop j.bytes text))
      ∙ ap (λ k. drop k (take j.bytes text ++ drop j.bytes text)) count
      ∙ drop-append-add (take j.bytes text) (drop j.bytes text) (length line + 1)
      ∙ ap (λ (xs : List ℕ). drop (length line + 1) xs) front
      ∙ drop-append-add line (10 ∷ rest) 1

  -- if it isn't, the first bad one is found after it
  pub good_line : fault_of (asked_at form j.number line) ≡ None → j.number ≤ most_lines → IsJudged form text (record { number = j.number + 1; bytes = j.bytes + length line + 1 })
  good_line e few = record {
    few = omega (arith, few);
    within = omega (arith, length-drop j.bytes text, ap length front, length-append line (10 ∷ rest), is.within);
    same = λ more. here more ∙ good_first j.number line (asked_at form j.number line) _ e ∙ ap (λ (b : List ℕ). fault_in form (j.number + 1) (b ++ more)) (sym behind);
  }

-- the first line of a text that begins with these bytes
record FirstLine (front more : List ℕ) : Type 0 where
  tail : List ℕ
  others : List (List ℕ)
  is : slice_split is_end (front ++ more) ≡ (front ++ tail) ∷ others

first_piece_of : (pieces : List (List ℕ)) (more : List ℕ) → slice_split is_end more ≡ pieces → 0 < length pieces → FirstLine [] more
first_piece_of [] more e some = absurd (omega arith)
first_piece_of (piece ∷ pieces) more e some = record { tail = piece; others = pieces; is = e }

first_line_of : (front more : List ℕ) → is_one_line front ≡ true → FirstLine front more
unfolding pieces_of
first_line_of [] more h = first_piece_of (slice_split is_end more) more refl (some_piece 10 more)
first_line_of (b ∷ front) more h =
    let l = first_line_of front more (grind (arith, common_steps, h)) in
    let first : not (b == 10) ≡ true = grind (arith, common_steps, h) in
    record { tail = l.tail; others = l.others; is = slice_split-cons_no is_end b (front ++ more) (no_end b first) ∙ ap (λ (ps : List (List ℕ)). onto_first b ps) l.is }

some_line : (line : List ℕ) (others : List (List ℕ)) → 0 < length line → without_last_empty (line ∷ others) ≡ line ∷ without_last_empty others
some_line [] others some = absurd (omega arith)
some_line (b ∷ line) [] some = refl
some_line (b ∷ line) (other ∷ others) some = refl

choose : (b : Bool) (r : Result Asked LineKind) → fault_of r ≡ Some BadLine → fault_of (if b then Err BadLine else r) ≡ Some BadLine
choose true r e = refl
choose false r e = e

-- a line that is too long, or comes after the last that a text may have, is bad
too_much : (form : LineForm) (n : ℕ) (line : List ℕ) → (most_bytes form < length line) ⊎ (most_lines < n) → fault_of (asked_at form n line) ≡ Some BadLine
unfolding request_in list_in
too_much Requests n line (inl h) = choose (nat_lt most_lines n) (after_contacts [] (request_in line)) (rw (lt-ltb most_line_bytes (length line) h) refl)
too_much Lists n line (inl h) = choose (nat_lt most_lines n) (list_in line) (rw (lt-ltb most_list_bytes (length line) h) refl)
too_much form n line (inr h) = rw (lt-ltb most_lines n h) refl

either : (a b : Bool) → (a || b) ≡ true → (a ≡ true) ⊎ (b ≡ true)
either true b e = inl refl
either false b e = inr e

both : (a b : Bool) → (a && b) ≡ true → (a ≡ true) × (b ≡ true)
both true b e = (refl, e)
both false b e = absurd cc

bad_rest : (form : LineForm) (n bytes : ℕ) → is_bad_rest form n bytes ≡ true → (0 < bytes) × ((most_bytes form < bytes) ⊎ (most_lines < n))
bad_rest form n bytes e = elim (either (nat_lt (most_bytes form) bytes) (nat_lt 0 bytes && nat_lt most_lines n) e) [
  | inl long ↦ let h = ltb-true (most_bytes form) bytes long in (omega (arith, h), inl h)
  | inr late ↦ let h = both (nat_lt 0 bytes) (nat_lt most_lines n) late in (ltb-true 0 bytes h.0, inr (ltb-true most_lines n h.1))
]

-- a line that has no LF yet
module _ (form : LineForm) (text : List ℕ) (j : Judged) (is : IsJudged form text j) (one : is_one_line (drop j.bytes text) ≡ true) where
  rest_size : length (drop j.bytes text) ≡ length text - j.bytes
  rest_size = length-drop j.bytes text

  -- if it is too long, or comes after the last, no byte that follows makes it a good one
  pub rest_refused : is_bad_rest form j.number (length text - j.bytes) ≡ true → IsRefused form text (Line j.number BadLine)
  unfolding lines_in pieces_of
  rest_refused bad more =
      let l = first_line_of (drop j.bytes text) more one in
      let line = drop j.bytes text ++ l.tail in
      let size : length line ≡ length (drop j.bytes text) + length l.tail = length-append (drop j.bytes text) l.tail in
      let how = bad_rest form j.number (length text - j.bytes) bad in
      let worse : (most_bytes form < length line) ⊎ (most_lines < j.number) = elim how.1 [ inl h ↦ inl (omega (arith, h, size, rest_size)) | inr h ↦ inr h ] in
      is.same more
      ∙ ap (λ (ps : List (List ℕ)). fault_of (asked_from form j.number (without_last_empty ps))) l.is
      ∙ ap (λ (ls : List (List ℕ)). fault_of (asked_from form j.number ls)) (some_line line l.others (omega (arith, size, rest_size, how.0)))
      ∙ bad_first j.number line (asked_at form j.number line) _ BadLine (too_much form j.number line worse)

  at_end : fault_in form 1 text ≡ fault_in form j.number (drop j.bytes text)
  at_end = ap (λ (b : List ℕ). fault_in form 1 b) (sym (append-nil text)) ∙ is.same [] ∙ ap (λ (b : List ℕ). fault_in form j.number b) (append-nil (drop j.bytes text))

  -- at the end of the text, it is the last line; if there is none, no line is bad
  pub none_left : length text - j.bytes ≡ 0 → fault_in form 1 text ≡ None
  none_left e = at_end ∙ ap (λ (ls : List (List ℕ)). fault_of (asked_from form j.number ls)) (no_lines (drop j.bytes text) (omega (arith, e, rest_size)))

  last_line : 0 < length text - j.bytes → fault_in form 1 text ≡ fault_of (put_first j.number (drop j.bytes text) (asked_at form j.number (drop j.bytes text)) (asked_from form (j.number + 1) (lines_in [])))
  unfolding pieces_of
  last_line some = at_end ∙ ap (λ (ls : List (List ℕ)). fault_of (asked_from form j.number ls)) (one_line (drop j.bytes text) (drop j.bytes text) (omega (arith, some, rest_size)) (slice_split_none is_end (drop j.bytes text) (λ k d below. no_end _ (AllPass-from_list_all (λ b. not (b == 10)) (drop j.bytes text) one k d below))) refl)

  pub last_bad : (kind : LineKind) → 0 < length text - j.bytes → fault_of (asked_at form j.number (drop j.bytes text)) ≡ Some kind → fault_in form 1 text ≡ Some (Line j.number kind)
  last_bad kind some e = last_line some ∙ bad_first j.number (drop j.bytes text) (asked_at form j.number (drop j.bytes text)) _ kind e

  pub last_good : 0 < length text - j.bytes → fault_of (asked_at form j.number (drop j.bytes text)) ≡ None → fault_in form 1 text ≡ None
  last_good some e = last_line some ∙ good_first j.number (drop j.bytes text) (asked_at form j.number (drop j.bytes text)) _ e ∙ ap (λ (ls : List (List ℕ)). fault_of (asked_from form (j.number + 1) ls)) (no_lines [] refl)

-- no line of an empty text is bad
pub none_bad_so_far : (form : LineForm) → IsGoodSoFar form [] (record { number = 1; bytes = 0 })
none_bad_so_far Requests = record { judged = record { few = omega arith; within = omega arith; same = λ more. refl }; rest = refl; fits = refl }
none_bad_so_far Lists = record { judged = record { few = omega arith; within = omega arith; same = λ more. refl }; rest = refl; fits = refl }

-- the line that has no LF yet goes on with a piece that has none
pub one_line_on : (text piece : List ℕ) (j : Judged) → j.bytes ≤ length text → is_one_line (drop j.bytes text) ≡ true → is_one_line piece ≡ true → is_one_line (drop j.bytes (text ++ piece)) ≡ true
one_line_on text piece j within rest more = ap is_one_line (drop-append-le j.bytes text piece within) ∙ one_line-append (drop j.bytes text) piece rest more

-- what was judged stays so if the text grows
pub judged_on : (form : LineForm) (text piece : List ℕ) (j : Judged) → IsJudged form text j → IsJudged form (text ++ piece) j
judged_on form text piece j is = record {
  few = is.few;
  within = omega (arith, is.within, length-append text piece);
  same = λ more.
      ap (λ (b : List ℕ). fault_in form 1 b) (append_assoc text piece more)
      ∙ is.same (piece ++ more)
      ∙ ap (λ (b : List ℕ). fault_in form j.number b) (sym (append_assoc (drop j.bytes text) piece more))
      ∙ ap (λ (b : List ℕ). fault_in form j.number (b ++ more)) (sym (drop-append-le j.bytes text piece is.within));
}
