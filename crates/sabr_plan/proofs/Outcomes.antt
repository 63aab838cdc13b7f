-- The lines of a text that is given in parts, and its outcome.
use Rattle.sabr_plan.proofs.Names.{◌≡◌, ℕ, suc, ◌<◌, true, false, not, eqb, List, [], ◌∷◌, ◌++◌, ◌+◌, ◌-◌, length, get_or, refl, sym, ap, ◌∙◌, arith, append-nil, length-append, ◌≢◌, Bool, append_assoc, Result, Ok, Err, and_parts, get_or-append-add, not-true, nat_tests, list_all-append}
use Rattle.sabr_plan.specs.Words.{TextLines, is_one_line, before_lines, lines_of, has_bytes}
use Rattle.sabr_plan.specs.Steps.{and_then}
use Rattle.sabr_plan.specs.Reading.{Reading, nothing_read, limited, read_line, read_lines, broken_line, last_line, plan_of}
use Rattle.sabr_plan.specs.Feeding.{Fed, nothing_fed, outcome}
use Rattle.sabr_plan.specs.declared.fault.PlanKind.TheVariants as kind

-- ---- the lines of a text that is given in parts

-- bytes before the first line
abbrev pub in_front : List ℕ → TextLines → TextLines
in_front bytes t = elim t.ended [
  | [] ↦ record { ended = []; open_line = bytes ++ t.open_line }
  | line ∷ lines ↦ record { ended = (bytes ++ line) ∷ lines; open_line = t.open_line }
]

no_bytes : (ended : List (List ℕ)) (rest : List ℕ) → in_front [] (record { ended = ended; open_line = rest }) ≡ record { ended = ended; open_line = rest }
no_bytes [] rest = refl
no_bytes (line ∷ lines) rest = refl

one_more : (b : ℕ) (bytes : List ℕ) (ended : List (List ℕ)) (rest : List ℕ) → before_lines b (in_front bytes (record { ended = ended; open_line = rest })) ≡ in_front (b ∷ bytes) (record { ended = ended; open_line = rest })
one_more b bytes [] rest = refl
one_more b bytes (line ∷ lines) rest = refl

-- bytes without LF are put before the first line
pub lines_of-front : (bytes more : List ℕ) → is_one_line bytes ≡ true → lines_of (bytes ++ more) ≡ in_front bytes (lines_of more)
unfolding lines_of
lines_of-front [] more one = sym (no_bytes (lines_of more).ended (lines_of more).open_line)
lines_of-front (b ∷ bytes) more one =
    let both = and_parts (not (eqb b 10)) (is_one_line bytes) one in
    let other : eqb b 10 ≡ false = not-true (eqb b 10) both.0 in
    let t = lines_of more in
    rw (other, lines_of-front bytes more both.1) (one_more b bytes t.ended t.open_line)

-- bytes without LF are one line
pub lines_of-one : (line : List ℕ) → is_one_line line ≡ true → lines_of line ≡ record { ended = []; open_line = line }
unfolding lines_of
lines_of-one line one = sym (ap lines_of (append-nil line)) ∙ lines_of-front line [] one ∙ ap (λ (rest : List ℕ). record { ended = []; open_line = rest }) (append-nil line)

-- LF ends the first line
pub lines_of-line : (line more : List ℕ) → is_one_line line ≡ true → lines_of (line ++ 10 ∷ more) ≡ record { ended = line ∷ (lines_of more).ended; open_line = (lines_of more).open_line }
unfolding lines_of
lines_of-line line more one =
    lines_of-front line (10 ∷ more) one ∙ ap (λ (first : List ℕ). record { ended = first ∷ (lines_of more).ended; open_line = (lines_of more).open_line }) (append-nil line)

-- what comes after a line of a text that ends with LF is empty or ends with LF
pub still_lf_at_end : (text line rest : List ℕ) → text ≡ line ++ 10 ∷ rest → (0 < length text → get_or text (length text - 1) 0 ≡ 10) → 0 < length rest → get_or rest (length rest - 1) 0 ≡ 10
still_lf_at_end text line rest parts lf some =
    let many : length text ≡ length line + suc (length rest) = ap length parts ∙ length-append line (10 ∷ rest) in
    let at : length text - 1 ≡ length line + suc (length rest - 1) = omega (arith, many, some) in
    sym (ap (λ t. get_or t (length text - 1) 0) parts ∙ ap (λ k. get_or (line ++ 10 ∷ rest) k 0) at ∙ get_or-append-add line (10 ∷ rest) (suc (length rest - 1)) 0) ∙ lf (omega (arith, many))

-- ---- the outcome of a text, one piece after another

-- a step after two steps
pub and_then-and_then : {A B C E : Type 0} (r : Result A E) (f : A → Result B E) (g : B → Result C E) → and_then (and_then r f) g ≡ and_then r (λ x. and_then (f x) g)
and_then-and_then (Ok x) f g = refl
and_then-and_then (Err e) f g = refl

-- such steps take the lines of a text in turn
pub record TakeInTurn {R F : Type 0} (lines : ℕ → R → List (List ℕ) → Result R F) (line : ℕ → R → List ℕ → Result R F) : Type 0 where
  pub none : (n : ℕ) (r : R) → lines n r [] ≡ Ok r
  pub more : (n : ℕ) (r : R) (first : List ℕ) (rest : List (List ℕ)) → lines n r (first ∷ rest) ≡ and_then (line n r first) (λ r₁. lines (n + 1) r₁ rest)

module _ {R X F : Type 0} (lines : ℕ → R → List (List ℕ) → Result R F) (line : ℕ → R → List ℕ → Result R F) (last : Bool → ℕ → List ℕ → R → Result X F) where
  -- the outcome of the lines of a text, from number n on
  abbrev lines_outcome : ℕ → R → TextLines → Bool → Result X F
  lines_outcome n r t ended = and_then (lines n r t.ended) (last ended (n + length t.ended) t.open_line)

  -- of the bytes after those held of line n
  abbrev pub text_outcome : ℕ → R → List ℕ → List ℕ → Bool → Result X F
  text_outcome n r held bytes ended = lines_outcome n r (lines_of (held ++ bytes)) ended

  module _ (steps : TakeInTurn lines line) where
    outcome_more : (n : ℕ) (r : R) (first : List ℕ) (more : List (List ℕ)) (rest : List ℕ) (ended : Bool) → lines_outcome n r (record { ended = first ∷ more; open_line = rest }) ended ≡ and_then (line n r first) (λ r₁. lines_outcome (n + 1) r₁ (record { ended = more; open_line = rest }) ended)
    outcome_more n r first more rest ended =
        let count : n + suc (length more) ≡ n + 1 + length more = omega arith in
        rw (count, steps.more n r first more) (and_then-and_then (line n r first) (λ r₁. lines (n + 1) r₁ more) (last ended (n + 1 + length more) rest))

    outcome_last : (n : ℕ) (r : R) (rest : List ℕ) (ended : Bool) → lines_outcome n r (record { ended = []; open_line = rest }) ended ≡ last ended n rest r
    outcome_last n r rest ended =
        let count : n + 0 ≡ n = omega arith in
        rw (steps.none n r) (ap (λ k. last ended k rest r) count)

    -- a line ends in a piece
    pub text_outcome-line : (n : ℕ) (r : R) (held front rest more : List ℕ) (ended : Bool) → is_one_line held ≡ true → is_one_line front ≡ true → text_outcome n r held ((front ++ 10 ∷ rest) ++ more) ended ≡ and_then (line n r (held ++ front)) (λ r₁. text_outcome (n + 1) r₁ [] (rest ++ more) ended)
    text_outcome-line n r held front rest more ended one_held one =
        let whole : is_one_line (held ++ front) ≡ true = grind (arith, list_all-append (λ b. not (eqb b 10)) held front) in
        let parts : held ++ ((front ++ 10 ∷ rest) ++ more) ≡ (held ++ front) ++ 10 ∷ (rest ++ more) = simp append_assoc in
        let t = lines_of (rest ++ more) in
        ap (λ t. lines_outcome n r t ended) (ap lines_of parts ∙ lines_of-line (held ++ front) (rest ++ more) whole) ∙ outcome_more n r (held ++ front) t.ended t.open_line ended

    -- a text ends, or breaks off, after what is held
    pub text_outcome-end : (n : ℕ) (r : R) (held : List ℕ) (ended : Bool) → is_one_line held ≡ true → text_outcome n r held [] ended ≡ last ended n held r
    text_outcome-end n r held ended one = ap (λ t. lines_outcome n r t ended) (ap lines_of (append-nil held) ∙ lines_of-one held one) ∙ outcome_last n r held ended

    -- bytes that are refused, whatever comes after them
    pub text_outcome-refused : (n : ℕ) (r : R) (held bytes more : List ℕ) (ended : Bool) (f : F) → is_one_line held ≡ true → is_one_line bytes ≡ true
        → ((back : List ℕ) → line n r ((held ++ bytes) ++ back) ≡ Err f) → ((back : List ℕ) → last ended n ((held ++ bytes) ++ back) r ≡ Err f) → text_outcome n r held (bytes ++ more) ended ≡ Err f
    text_outcome-refused n r held bytes more ended f one_held one bad_line bad_last =
        let whole : is_one_line (held ++ bytes) ≡ true = rw (list_all-append (λ b. not (eqb b 10)) held bytes, one_held, one) refl in
        let parts : held ++ (bytes ++ more) ≡ (held ++ bytes) ++ more = rw append_assoc refl in
        ap (λ t. lines_outcome n r t ended) (ap lines_of parts ∙ lines_of-front (held ++ bytes) more whole) ∙ by_lines (lines_of more).ended (lines_of more).open_line
      where
        by_lines : (after : List (List ℕ)) (rest : List ℕ) → lines_outcome n r (in_front (held ++ bytes) (record { ended = after; open_line = rest })) ended ≡ Err f
        by_lines [] rest = outcome_last n r ((held ++ bytes) ++ rest) ended ∙ bad_last rest
        by_lines (first ∷ after) rest = outcome_more n r ((held ++ bytes) ++ first) after rest ended ∙ rw (bad_line first) refl

-- the lines of a plan
in_turn : TakeInTurn read_lines read_line
unfolding read_lines
in_turn = record { none = λ n r. refl; more = λ n r first rest. refl }

-- the plan of a text is the outcome from the state in which nothing was fed
pub plan_of-outcome : (bytes : List ℕ) (ended : Bool) → plan_of bytes ended ≡ outcome nothing_fed bytes ended
unfolding plan_of outcome
plan_of-outcome bytes ended =
    let count : length (lines_of bytes).ended + 1 ≡ 1 + length (lines_of bytes).ended = omega arith in
    ap (λ k. and_then (read_lines 1 nothing_read (lines_of bytes).ended) (last_line ended k (lines_of bytes).open_line)) count

-- a line ends in a piece
pub outcome-line : (s : Fed) (front rest more : List ℕ) (ended : Bool) → is_one_line s.held ≡ true → is_one_line front ≡ true → outcome s ((front ++ 10 ∷ rest) ++ more) ended ≡ and_then (read_line (s.lines + 1) s.reading (s.held ++ front)) (λ r. outcome (record { lines = s.lines + 1; reading = r; held = [] }) (rest ++ more) ended)
unfolding outcome
outcome-line s front rest more ended held one = text_outcome-line read_lines read_line last_line in_turn (s.lines + 1) s.reading s.held front rest more ended held one

-- bytes are held
pub outcome-held : (s : Fed) (bytes more : List ℕ) (ended : Bool) → outcome s (bytes ++ more) ended ≡ outcome (record { lines = s.lines; reading = s.reading; held = s.held ++ bytes }) more ended
unfolding outcome
outcome-held s bytes more ended = rw append_assoc refl

-- a text ends, or breaks off, after what is held
pub outcome-end : (s : Fed) (ended : Bool) → is_one_line s.held ≡ true → outcome s [] ended ≡ last_line ended (s.lines + 1) s.held s.reading
unfolding outcome
outcome-end s ended one = text_outcome-end read_lines read_line last_line in_turn (s.lines + 1) s.reading s.held ended one

-- a line with too high a number, or too long, is refused for its beginning; so is a last line
refused_line : (n : ℕ) (r : Reading) (front back : List ℕ) → (broken_line n front).kind ≢ kind.Read → limited n r (front ++ back) ≡ Err (broken_line n front).kind
unfolding limited
refused_line n r front back other = let long = length-append front back in grind (arith, nat_tests)

still_broken : (n : ℕ) (front back : List ℕ) → (broken_line n front).kind ≢ kind.Read → (broken_line n (front ++ back) ≡ broken_line n front) × (has_bytes (front ++ back) ≡ true)
still_broken n front back other = let long = length-append front back in (grind (arith, nat_tests), grind (arith, nat_tests))

last_refused : (n : ℕ) (r : Reading) (front back : List ℕ) (ended : Bool) → (broken_line n front).kind ≢ kind.Read → last_line ended n (front ++ back) r ≡ Err (broken_line n front)
last_refused n r front back true other = rw ((still_broken n front back other).1, refused_line n r front back other) refl
last_refused n r front back false other = ap Err (still_broken n front back other).0

-- bytes that are refused, whatever comes after them
pub outcome-refused : (s : Fed) (bytes more : List ℕ) (ended : Bool) → is_one_line s.held ≡ true → is_one_line bytes ≡ true → (broken_line (s.lines + 1) (s.held ++ bytes)).kind ≢ kind.Read → outcome s (bytes ++ more) ended ≡ Err (broken_line (s.lines + 1) (s.held ++ bytes))
unfolding outcome
outcome-refused s bytes more ended held one other =
    let n = s.lines + 1 in
    let front = s.held ++ bytes in
    text_outcome-refused read_lines read_line last_line in_turn n s.reading s.held bytes more ended (broken_line n front) held one
    (λ back. rw (refused_line n s.reading front back other) refl) (λ back. last_refused n s.reading front back ended other)
