-- A session text that is read without a fault begins no other.
use Rattle.std.proofs.Common.{◌≡◌, ℕ, ◌+◌, ◌<◌, Bool, true, false, cond, ◌&&◌, not, ltb, List, [], ◌∷◌, ◌++◌, length, refl, sym, ap, subst, ◌∙◌, arith, Result, Ok, Err, eqb}
use Rattle.std.proofs.lemmas.Bool.{le-ltb}
use borrow.Author.Tests.{ltb-true, ltb-false}
use Rattle.sabr_model.specs.plan.Plan.{ContactPlan}
use Rattle.sabr_model.specs.routes.Arrival.{RouteRequest}
use Rattle.sabr_plan.specs.Words.{TextLines, has_bytes, lines_of, before_lines}
use Rattle.sabr_frontier.specs.listing.State.{State}
use Rattle.sabr_session.specs.SessionRead.{Said, nothing_said, misspelled, line_said, read_line, read_lines, is_after, last_line, said_of, ComesTo, IsSessionOf}
use Rattle.sabr_session.specs.declared.session_fault.SessionFault.{SessionFault}
use Rattle.sabr_session.proofs.ReadingLemmas.StepsTaken.{and_then_ok}
use Rattle.sabr_session.proofs.TextLemmas.SaidLines.{other_line}
use Rattle.sabr_session.proofs.WordLemmas.SpelledWords.{other_number}
use Rattle.sabr_laws.specs.CutTexts.{NoTextBeginsAnother, CutTextsAreRefused}
use Rattle.sabr_plan.specs.Canonical.{digest_of}
use Rattle.sabr_session.proofs.TextLemmas.TextsRead.{is_read_back}
use Rattle.sabr_session.specs.declared.session_fault.SessionFault.TheVariants as fault

-- The lines of a text that begins with whole lines.
-- the lines of a text, and those of another
abbrev pub followed_by : TextLines → TextLines → TextLines
followed_by t u = record { ended = t.ended ++ u.ended; open_line = u.open_line }

-- the lines with one more byte in front
abbrev byte_onto : ℕ → Bool → TextLines → TextLines
byte_onto b is_end t = cond is_end (record { ended = [] ∷ t.ended; open_line = t.open_line }) (before_lines b t)

byte_more : (b : ℕ) (is_end : Bool) (ended : List (List ℕ)) (rest : List ℕ) (whole more : TextLines)
    → (rest ≡ [] → whole ≡ followed_by (record { ended = ended; open_line = rest }) more)
    → (byte_onto b is_end (record { ended = ended; open_line = rest })).open_line ≡ []
    → byte_onto b is_end whole ≡ followed_by (byte_onto b is_end (record { ended = ended; open_line = rest })) more
byte_more b true ended rest whole more so none = ap (byte_onto b true) (so none)
byte_more b false [] rest whole more so none = absurd cc
byte_more b false (line ∷ lines) rest whole more so none = ap (before_lines b) (so none)

-- what follows whole lines begins a line
pub lines_of-append : (bytes more : List ℕ) → (lines_of bytes).open_line ≡ [] → lines_of (bytes ++ more) ≡ followed_by (lines_of bytes) (lines_of more)
unfolding lines_of
lines_of-append [] more none = refl
lines_of-append (b ∷ bytes) more none = byte_more b (eqb b 10) (lines_of bytes).ended (lines_of bytes).open_line (lines_of (bytes ++ more)) (lines_of more) (lines_of-append bytes more) none

some_line : (b : ℕ) (is_end : Bool) (ended : List (List ℕ)) (rest : List ℕ) → (byte_onto b is_end (record { ended = ended; open_line = rest })).ended ≡ []
    → (byte_onto b is_end (record { ended = ended; open_line = rest })).open_line ≡ [] → ⊥
some_line b true ended rest none empty = cc
some_line b false [] rest none empty = cc
some_line b false (line ∷ lines) rest none empty = cc

-- a text with no line is empty
pub no_lines : (bytes : List ℕ) → (lines_of bytes).ended ≡ [] → (lines_of bytes).open_line ≡ [] → bytes ≡ []
unfolding lines_of
no_lines [] none empty = refl
no_lines (b ∷ bytes) none empty = absurd (some_line b (eqb b 10) (lines_of bytes).ended (lines_of bytes).open_line none empty)

-- a text may end after the line `end` alone
ends_well : (n : ℕ) (line : List ℕ) (s t : Said) → last_line true n line s ≡ Ok t → (7 + s.count < n) × (line ≡ [])
ends_well n line s t e = by_tests (is_after n s) refl (has_bytes line) refl e
  where
    empty : (line : List ℕ) → has_bytes line ≡ false → line ≡ []
    empty [] none = refl
    empty (b ∷ line) none = let few = ltb-false 0 (length (b ∷ line)) none in absurd (omega arith)

    by_tests : (a : Bool) → is_after n s ≡ a → (b : Bool) → has_bytes line ≡ b → cond (a && not b) (Ok s) (Err (misspelled n)) ≡ Ok t → (7 + s.count < n) × (line ≡ [])
    by_tests true after false none e = (ltb-true (7 + s.count) n after, empty line none)
    by_tests true after true some e = absurd cc
    by_tests false before b any e = absurd cc

module _ (p : ContactPlan) (h : List ℕ) where
  -- no line may follow it
  line_refused : (n : ℕ) (s t : Said) (line : List ℕ) → 7 + s.count < n → read_line p h n s line ≡ Ok t → ⊥
  line_refused n s t line after e = by_length (ltb 660008 (length line)) e
    where
      said : line_said p h n s line ≡ Err (fault.BadLine n)
      said = other_line p h n s line (omega arith) ∙ rw (le-ltb n (7 + s.count) (omega arith), other_number n (7 + s.count) after) refl

      by_length : (b : Bool) → cond b (Err (misspelled n)) (line_said p h n s line) ≡ Ok t → ⊥
      by_length true e = cc
      by_length false e = let none : ◌≡◌ {A = Result Said SessionFault} (Err (fault.BadLine n)) (Ok t) = sym said ∙ e in cc

  none_after : (n : ℕ) (s t : Said) (lines : List (List ℕ)) → 7 + s.count < n → read_lines p h n s lines ≡ Ok t → lines ≡ []
  unfolding read_lines
  none_after n s t [] after e = refl
  none_after n s t (line ∷ lines) after e =
      let first = and_then_ok (λ (u : Said). read_lines p h (n + 1) u lines) (read_line p h n s line) t e in
      absurd (line_refused n s first.0 line after first.1)

  -- the lines behind others are read after them
  read_behind : (n m : ℕ) (s t u : Said) (front back : List (List ℕ)) → m ≡ n + length front → read_lines p h n s front ≡ Ok t → read_lines p h n s (front ++ back) ≡ Ok u → read_lines p h m t back ≡ Ok u
  unfolding read_lines
  read_behind n m s t u [] back is one whole =
      let same : s ≡ t = cc in
      let place : n ≡ m = omega arith in
      subst (λ k. read_lines p h k t back ≡ Ok u) place (subst (λ (v : Said). read_lines p h n v back ≡ Ok u) same whole)
  read_behind n m s t u (line ∷ lines) back is one whole =
      let a = and_then_ok (λ (v : Said). read_lines p h (n + 1) v lines) (read_line p h n s line) t one in
      let b = and_then_ok (λ (v : Said). read_lines p h (n + 1) v (lines ++ back)) (read_line p h n s line) u whole in
      let both : ◌≡◌ {A = Result Said SessionFault} (Ok b.0) (Ok a.0) = sym b.1 ∙ a.1 in
      let same : b.0 ≡ a.0 = cc in
      read_behind (n + 1) m a.0 t u lines back (omega arith) a.2 (subst (λ (v : Said). read_lines p h (n + 1) v (lines ++ back) ≡ Ok u) same b.2)

  -- two texts without a fault, one of which begins the other, are the same
  nothing_behind : (begins rest : List ℕ) (s u : Said) → said_of p h begins true ≡ Ok s → said_of p h (begins ++ rest) true ≡ Ok u → rest ≡ []
  unfolding said_of
  nothing_behind begins rest s u one whole =
      let t = lines_of begins in
      let all = lines_of (begins ++ rest) in
      let a = and_then_ok (last_line true (length t.ended + 1) t.open_line) (read_lines p h 1 nothing_said t.ended) s one in
      let b = and_then_ok (last_line true (length all.ended + 1) all.open_line) (read_lines p h 1 nothing_said all.ended) u whole in
      let ends = ends_well (length t.ended + 1) t.open_line a.0 s a.2 in
      let parted = lines_of-append begins rest ends.1 in
      let read : read_lines p h 1 nothing_said (t.ended ++ (lines_of rest).ended) ≡ Ok b.0 = subst (λ (x : TextLines). read_lines p h 1 nothing_said x.ended ≡ Ok b.0) parted b.1 in
      let behind = read_behind 1 (length t.ended + 1) nothing_said a.0 b.0 t.ended (lines_of rest).ended (omega arith) a.1 read in
      no_lines rest (none_after (length t.ended + 1) a.0 b.0 (lines_of rest).ended ends.0 behind)
      (sym (ap (λ (x : TextLines). x.open_line) parted) ∙ (ends_well (length all.ended + 1) all.open_line b.0 u b.2).1)

-- what spells a session has no fault
said_well : (p : ContactPlan) (said : Result Said SessionFault) (x : RouteRequest × State) → ComesTo p said (Ok x) → (s : Said) × (said ≡ Ok s)
said_well p (Ok s) x comes = (s, refl)
said_well p (Err f) x comes = absurd cc

pub no_text_begins_another : NoTextBeginsAnother
no_text_begins_another p h begins rest x whole more y one =
    let a = said_well p (said_of p h begins true) y one in
    let b = said_well p (said_of p h (begins ++ rest) true) x whole in
    more (nothing_behind p h begins rest a.0 b.0 a.1 b.1)

-- No proper beginning of a session's text spells a session.
pub cut_texts_are_refused : CutTextsAreRefused
cut_texts_are_refused p r s plan told =
    let h = digest_of p in
    let read = is_read_back p plan r s told in
    record {
      text = λ begins rest parted more. no_text_begins_another p h begins rest (r, s) (subst (λ (b : List ℕ). IsSessionOf p h b true (Ok (r, s))) (sym parted) read.text) more;
      old = λ free begins rest parted more. no_text_begins_another p h begins rest (r, s) (subst (λ (b : List ℕ). IsSessionOf p h b true (Ok (r, s))) (sym parted) (read.old free)) more;
    }
