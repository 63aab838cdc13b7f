-- What comes of a session text, one piece after the other.
use Rattle.std.proofs.Common.{◌≡◌, ℕ, ◌+◌, ◌<◌, Bool, true, false, ◌&&◌, ◌||◌, not, ltb, List, [], ◌∷◌, ◌++◌, length, refl, ap, ◌∙◌, arith, append_assoc, length-append, Result, Ok, Err}
use Rattle.sabr_session.proofs.WordLemmas.SpelledWords.{other_number}
use borrow.Author.Tests.{lt-ltb, ltb-true, ltb-false}
use Rattle.std.proofs.lemmas.Bool.{le-ltb}
use Rattle.std.specs.Prelude.{if◌then◌else◌}
use Rattle.sabr_model.specs.plan.Plan.{ContactPlan}
use Rattle.sabr_plan.specs.Steps.{and_then}
use Rattle.sabr_plan.specs.Words.{is_one_line, has_bytes, lines_of}
use Rattle.sabr_plan.proofs.Outcomes.{TakeInTurn, text_outcome-line, text_outcome-end, text_outcome-refused}
use Rattle.sabr_session.specs.declared.session_fault.SessionFault.{SessionFault}
use Rattle.sabr_session.specs.declared.session_fault.SessionFault.TheVariants as fault
use Rattle.sabr_session.specs.SessionRead.{Said, nothing_said, misspelled, line_said, read_line, read_lines, is_after, last_line, said_of}
use Rattle.sabr_session.specs.SessionFed.{SessionFed, nothing_fed, outcome, is_bad_front}

or-true : (b : Bool) → (b || true) ≡ true
or-true true = refl
or-true false = refl

module _ (p : ContactPlan) (h : List ℕ) where
  in_turn : TakeInTurn (read_lines p h) (read_line p h)
  unfolding read_lines
  in_turn = record { none = λ n s. refl; more = λ n s first rest. refl }

  -- nothing was fed at first
  pub said_of-outcome : (bytes : List ℕ) (ended : Bool) → said_of p h bytes ended ≡ outcome p h nothing_fed bytes ended
  unfolding said_of outcome
  said_of-outcome bytes ended =
      let count : length (lines_of bytes).ended + 1 ≡ 1 + length (lines_of bytes).ended = omega arith in
      ap (λ k. and_then (read_lines p h 1 nothing_said (lines_of bytes).ended) (last_line ended k (lines_of bytes).open_line)) count

  -- a line ends in a piece
  pub outcome-line : (s : SessionFed) (front rest more : List ℕ) (ended : Bool) → is_one_line s.held ≡ true → is_one_line front ≡ true → outcome p h s ((front ++ 10 ∷ rest) ++ more) ended ≡ and_then (read_line p h (s.lines + 1) s.said (s.held ++ front)) (λ r. outcome p h (record { lines = s.lines + 1; said = r; held = [] }) (rest ++ more) ended)
  unfolding outcome
  outcome-line s front rest more ended held one = text_outcome-line (read_lines p h) (read_line p h) last_line in_turn (s.lines + 1) s.said s.held front rest more ended held one

  -- bytes are held
  pub outcome-held : (s : SessionFed) (bytes more : List ℕ) (ended : Bool) → outcome p h s (bytes ++ more) ended ≡ outcome p h (record { lines = s.lines; said = s.said; held = s.held ++ bytes }) more ended
  unfolding outcome
  outcome-held s bytes more ended = rw append_assoc refl

  -- a text ends, or breaks off, after what is held
  pub outcome-end : (s : SessionFed) (ended : Bool) → is_one_line s.held ≡ true → outcome p h s [] ended ≡ last_line ended (s.lines + 1) s.held s.said
  unfolding outcome
  outcome-end s ended one = text_outcome-end (read_lines p h) (read_line p h) last_line in_turn (s.lines + 1) s.said s.held ended one

  -- what is bad stays bad
  bad_more : (n : ℕ) (s : Said) (front back : List ℕ) → is_bad_front n s front ≡ true → is_bad_front n s (front ++ back) ≡ true
  bad_more n s front back bad =
      by_length (is_after n s) (has_bytes front) refl (ltb 660008 (length front)) refl bad
    where
      more : (m : ℕ) → ltb m (length front) ≡ true → ltb m (length (front ++ back)) ≡ true
      more m some = let k = ltb-true m (length front) some in lt-ltb m (length (front ++ back)) (omega (arith, length-append front back))

      by_length : (b some : Bool) → has_bytes front ≡ some → (long : Bool) → ltb 660008 (length front) ≡ long
          → ((b && some) || long) ≡ true → ((b && has_bytes (front ++ back)) || ltb 660008 (length (front ++ back))) ≡ true
      by_length true true some long is q = rw (more 0 some) refl
      by_length b false some true long q = rw (more 660008 long) (or-true (b && has_bytes (front ++ back)))
      by_length false true some true long q = more 660008 long
      by_length true false some false long q = absurd cc
      by_length false some is false long q = absurd cc

  -- a line after `end` is refused
  said_after : (n : ℕ) (s : Said) (line : List ℕ) → is_after n s ≡ true → line_said p h n s line ≡ Err (misspelled n)
  unfolding line_said
  said_after n s line beyond =
      let far : 7 + s.count < n = ltb-true (7 + s.count) n beyond in
      rw (
        other_number n 1 (omega arith),
        other_number n 2 (omega arith),
        other_number n 3 (omega arith),
        other_number n 4 (omega arith),
        other_number n 5 (omega arith),
        other_number n 6 (omega arith),
        le-ltb n (7 + s.count) (omega (arith, far)),
        other_number n (7 + s.count) far,
      ) refl

  -- a line with a bad beginning is refused
  bad_line : (n : ℕ) (s : Said) (line : List ℕ) → is_bad_front n s line ≡ true → read_line p h n s line ≡ Err (misspelled n)
  bad_line n s line bad = by_length (ltb 660008 (length line)) refl (is_after n s) refl bad
    where
      by_length : (long : Bool) → ltb 660008 (length line) ≡ long → (beyond : Bool) → is_after n s ≡ beyond
          → ((beyond && has_bytes line) || long) ≡ true → (if long then Err (misspelled n) else line_said p h n s line) ≡ Err (misspelled n)
      by_length true e beyond is q = refl
      by_length false e true is q = said_after n s line is
      by_length false e false is q = absurd cc

  -- and so is a last one
  bad_last : (n : ℕ) (s : Said) (line : List ℕ) (ended : Bool) → is_bad_front n s line ≡ true → last_line ended n line s ≡ Err (misspelled n)
  bad_last n s line ended bad = by_length (is_after n s) (has_bytes line) refl (ltb 660008 (length line)) refl ended bad
    where
      by_length : (beyond some : Bool) → has_bytes line ≡ some → (long : Bool) → ltb 660008 (length line) ≡ long → (ended : Bool) → ((beyond && some) || long) ≡ true
          → (if beyond && not some then (if ended then Ok s else Err fault.Read) else if ended || beyond || long then Err (misspelled n) else Err fault.Read) ≡ Err (misspelled n)
      by_length true true e long is true q = refl
      by_length true true e long is false q = refl
      by_length true false e true is ended q =
          let k = ltb-true 660008 (length line) is in
          let none = ltb-false 0 (length line) e in
          absurd (omega arith)
      by_length false some e true is true q = refl
      by_length false some e true is false q = refl
      by_length true false e false is ended q = absurd cc
      by_length false some e false is ended q = absurd cc

  -- bytes that are refused, whatever comes after them
  pub outcome-refused : (s : SessionFed) (bytes more : List ℕ) (ended : Bool) → is_one_line s.held ≡ true → is_one_line bytes ≡ true
      → is_bad_front (s.lines + 1) s.said (s.held ++ bytes) ≡ true → outcome p h s (bytes ++ more) ended ≡ Err (misspelled (s.lines + 1))
  unfolding outcome
  outcome-refused s bytes more ended held one bad =
      let n = s.lines + 1 in
      let front = s.held ++ bytes in
      text_outcome-refused (read_lines p h) (read_line p h) last_line in_turn n s.said s.held bytes more ended (misspelled n) held one
      (λ back. bad_line n s.said (front ++ back) (bad_more n s.said front back bad)) (λ back. bad_last n s.said (front ++ back) ended (bad_more n s.said front back bad))

  -- bytes that aren't refused, after which the reader fails
  pub outcome-read : (s : SessionFed) → is_one_line s.held ≡ true → is_bad_front (s.lines + 1) s.said s.held ≡ false → outcome p h s [] false ≡ Err fault.Read
  outcome-read s one good = outcome-end s false one ∙ by_bytes (is_after (s.lines + 1) s.said) (has_bytes s.held) (ltb 660008 (length s.held)) good
    where
      by_bytes : (beyond some long : Bool) → ((beyond && some) || long) ≡ false
          → ◌≡◌ {A = Result Said SessionFault} (if beyond && not some then Err fault.Read else if false || beyond || long then Err (misspelled (s.lines + 1)) else Err fault.Read) (Err fault.Read)
      by_bytes true false long q = refl
      by_bytes true true long q = absurd cc
      by_bytes false some true q = absurd cc
      by_bytes false some false q = refl
