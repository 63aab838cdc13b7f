-- Reading a text piece by piece: the bytes of a line that are held, and where a line ends.
use Rattle.sabr_plan.proofs.Names.{◌≡◌, ℕ, ◌+◌, ◌*◌, ◌-◌, ◌<◌, ◌≤◌, true, Result, Ok, Err, ◌⊎◌, not, eqb, List, [], ◌++◌, length, take, get_or, refl, sym, ap, ◌∙◌, arith, length-take, get_or-take, ◌≢◌, inl, inr, Bool, ◌∷◌, append_assoc, OnOk, IfErr, length-append, subst, nat_tests, get_or_default_zero, list_all-from_AllPass, list_all-append, le-ltb, TabledPlan, Input, Gives}
use Rattle.sabr_plan.specs.declared.fault.PlanKind.{PlanKind}
use Rattle.sabr_plan.specs.Words.{is_one_line}
use Rattle.sabr_plan.specs.Feeding.{Fed, EndsLine, outcome, IsFed, weight, nothing_fed, Answers}
use Rattle.sabr_plan.specs.Reading.{Reading, Leaves, most_line_bytes, most_lines, line_executed, limited, broken_line, read_line, plan_of}
use Rattle.sabr_plan.specs.declared.fault.PlanFault.{PlanFault}
use Rattle.sabr_plan.specs.Steps.{and_then}
use Rattle.sabr_plan.proofs.Outcomes.{outcome-line, outcome-held, outcome-refused, plan_of-outcome}
use Rattle.sabr_plan.specs.TextReading.{AreRefused, ContinuesAs}
use Rattle.sabr_plan.specs.PlanRead.{IsNoMemory, IsRead, ReadsPlan}
use Rattle.sabr_plan.proofs.TextReading as reading
use Rattle.sabr_plan.proofs.SpelledPlans.{ended_not_read}
use Rattle.sabr_plan.specs.declared.fault.PlanKind.TheVariants as kind

pub one_line-append : (a b : List ℕ) → is_one_line a ≡ true → is_one_line b ≡ true → is_one_line (a ++ b) ≡ true
one_line-append a b h k = grind (arith, list_all-append (λ x. not (eqb x 10)) a b)

-- no byte is LF
pub one_line_from : (xs : List ℕ) → ((k : ℕ) → k < length xs → eqb (get_or xs k 0) 10 ≡ true → ⊥) → is_one_line xs ≡ true
one_line_from xs none = list_all-from_AllPass (λ b. not (eqb b 10)) xs (λ k d h. rw (get_or_default_zero xs k d h) (let other = none k h in grind (arith, nat_tests)))

-- nor before the first LF
pub one_line_before : (xs : List ℕ) (end : ℕ) → end < length xs → ((k : ℕ) → k < end → eqb (get_or xs k 0) 10 ≡ true → ⊥) → is_one_line (take end xs) ≡ true
one_line_before xs end h none =
    one_line_from (take end xs) (λ k below e.
    let within : k < end = omega (arith, length-take end xs) in
    none k within (sym (ap (λ b. eqb b 10) (get_or-take end xs k 0 within)) ∙ e))

-- what is held is within the limits, so the reader's failure after it is what is reported
pub broken_held : (lines : ℕ) (held : List ℕ) → lines ≤ most_lines → length held ≤ most_line_bytes * (most_lines - lines) → length held ≤ most_line_bytes → broken_line (lines + 1) held ≡ record { line = lines + 1; kind = kind.Read }
broken_held lines held within room limit = grind (arith, nat_tests)

-- a line within the limits is read
pub limited-line_executed : (n : ℕ) (r : Reading) (line : List ℕ) → n ≤ most_lines → length line ≤ most_line_bytes → limited n r line ≡ line_executed r line
unfolding limited
limited-line_executed n r line few short = rw (le-ltb most_lines n few, le-ltb most_line_bytes (length line) short) refl

-- also when all of it is held
pub held_line_executed : {U : Type 0} (s new : Fed) (back : List ℕ) (r : Result U PlanKind) (after : Reading) → new ≡ record { lines = s.lines; reading = s.reading; held = s.held ++ back } → s.lines < most_lines → length new.held ≤ most_line_bytes → Leaves (line_executed new.reading new.held) r after → Leaves (limited (s.lines + 1) s.reading (s.held ++ back)) r after
held_line_executed s new back r after e few short is =
    let held : new.held ≡ s.held ++ back = ap (λ (s : Fed). s.held) e in
    let reading : new.reading ≡ s.reading = ap (λ (s : Fed). s.reading) e in
    rw (limited-line_executed (s.lines + 1) s.reading (s.held ++ back) (omega arith) (rw held at short)) (rw (reading, held) at is)

-- a line within the limits that is all there is, as it was line_executed
module _ (s new : Fed) (line : List ℕ) (none : s.held ≡ []) (few : s.lines < most_lines) (short : length line ≤ most_line_bytes) where
  told : limited (s.lines + 1) s.reading (s.held ++ line) ≡ line_executed s.reading line
  told = rw none (limited-line_executed (s.lines + 1) s.reading line (omega (arith, few)) short)

  one : is_one_line s.held ≡ true
  one = rw none refl

  pub known_refused : {U : Type 0} (k : PlanKind) → (k ≡ kind.NoMemory) ⊎ (line_executed s.reading line ≡ Err k) → new.lines ≡ s.lines → EndsLine {U = U} s line (Err k) new
  known_refused k is lines = record { value = rw told is; refused = lines; rest = tt; fits = tt; one = one }

  pub known_read : {U : Type 0} (x : U) → line_executed s.reading line ≡ Ok new.reading → new.lines ≡ s.lines + 1 → new.held ≡ [] → EndsLine s line (Ok x) new
  known_read x e lines held = record { value = told ∙ e; refused = tt; rest = (lines, held); fits = omega (arith, ap length none, short); one = one }

-- ---- pieces of a text, fed one after the other

-- a line ends in the first of two parts
pub parted_on : (rest line behind tail : List ℕ) → rest ≡ line ++ 10 ∷ behind → rest ++ tail ≡ line ++ 10 ∷ (behind ++ tail)
parted_on rest line behind tail parts = ap (λ t. t ++ tail) parts ∙ rw append_assoc refl

module _ (first : Fed) (piece : List ℕ) (s : Fed) (rest : List ℕ) (same : (more : List ℕ) (ended : Bool) → outcome first (piece ++ more) ended ≡ outcome s (rest ++ more) ended) (held : is_one_line s.held ≡ true) where
  module _ (front back : List ℕ) (one : is_one_line front ≡ true) (parted : rest ≡ front ++ 10 ∷ back) where
    -- a line ends
    line_ends : (more : List ℕ) (ended : Bool) → outcome first (piece ++ more) ended ≡ and_then (read_line (s.lines + 1) s.reading (s.held ++ front)) (λ r. outcome (record { lines = s.lines + 1; reading = r; held = [] }) (back ++ more) ended)
    line_ends more ended = same more ended ∙ ap (λ t. outcome s (t ++ more) ended) parted ∙ outcome-line s front back more ended held one

    -- it is refused
    pub line_refused : (k : PlanKind) → (k ≡ kind.NoMemory) ⊎ (limited (s.lines + 1) s.reading (s.held ++ front) ≡ Err k) → (k ≡ kind.NoMemory) ⊎ ((more : List ℕ) (ended : Bool) → outcome first (piece ++ more) ended ≡ Err (record { line = s.lines + 1; kind = k }))
    line_refused k (inl memory) = inl memory
    line_refused k (inr e) = inr (λ more ended. line_ends more ended ∙ rw e refl)

    -- or read
    pub line_read : (new : Fed) → limited (s.lines + 1) s.reading (s.held ++ front) ≡ Ok new.reading → new.lines ≡ s.lines + 1 → new.held ≡ [] → (more : List ℕ) (ended : Bool) → outcome first (piece ++ more) ended ≡ outcome new (back ++ more) ended
    line_read new e lines none more ended =
        let made : ◌≡◌ {A = Fed} (record { lines = s.lines + 1; reading = new.reading; held = [] }) new = rw (← lines, ← none) refl in
        line_ends more ended ∙ rw e (ap (λ t. outcome t (back ++ more) ended) made)

    -- which is more than it was
    pub line_grows : (new : Fed) → new.lines ≡ s.lines + 1 → new.held ≡ [] → length s.held + length front ≤ most_line_bytes → weight first + length piece ≤ weight s + length rest → weight first + length piece ≤ weight new + length back
    line_grows new lines none short grows = omega (arith, lines, ap length none, ap length parted, length-append front (10 ∷ back))

  -- what comes after the last LF is held, or refused
  pub rest_held : {U : Type 0} (new : Fed) (r : Result U PlanFault) → is_one_line rest ≡ true → OnOk r (new ≡ record { lines = s.lines; reading = s.reading; held = s.held ++ rest }) → IfErr r (λ f. (f ≡ broken_line (s.lines + 1) (s.held ++ rest)) × (f.kind ≢ kind.Read)) → IsFed first piece r new
  rest_held new (Ok u) one ok err = λ more ended. same more ended ∙ outcome-held s rest more ended ∙ ap (λ t. outcome t more ended) (sym ok)
  rest_held new (Err f) one ok err =
      inr (λ more ended. same more ended ∙ outcome-refused s rest more ended held one (λ e. err.1 (ap (λ (g : PlanFault). g.kind) err.0 ∙ e)) ∙ ap Err (sym err.0))

-- ---- what reading leaves, call by call

-- before the first piece
pub at_first : (feed : Fed) → feed ≡ nothing_fed → ContinuesAs plan_of [] (outcome feed)
at_first feed e = λ more ended. plan_of-outcome more ended ∙ ap (λ s. outcome s more ended) (sym e)

-- a piece is refused
pub piece_refused : {old mid : Input} (feed : Fed) (new : Input) (piece : List ℕ) (f : PlanFault) → reading.HasRead plan_of (outcome feed) old mid → Gives mid piece new → new.failures ≡ old.failures → (f.kind ≡ kind.NoMemory) ⊎ AreRefused (outcome feed) piece f → ReadsPlan old (Err f) new
piece_refused feed new piece f was gives fine refused =
    reading.piece_refused Answers IsRead IsNoMemory new was piece f gives fine (elim refused [
      | inl memory ↦ inl memory
      | inr all ↦ inr (ended_not_read (was.given ++ piece) f (reading.continued_end plan_of (λ _ _. Err f) (was.given ++ piece) true (reading.continued_on plan_of (outcome feed) (λ _ _. Err f) was.given piece was.same all)), all)
    ])

-- `Read` comes only if the reader failed
pub read_failed : (old : Input) (answer : Result TabledPlan PlanFault) (new : Input) → ReadsPlan old answer new → IfErr answer (λ f. f.kind ≡ kind.Read → new.failures ≡ old.failures + 1)
read_failed old answer new reads = reading.read_failed plan_of Answers IsRead IsNoMemory old new answer (λ f memory is. cc) (λ given f h is. elim h [ inl memory ↦ cc | inr refused ↦ ended_not_read given f refused is ]) reads

-- a text that is one piece was read
pub all_was_read : (feed next : Fed) (text : List ℕ) (answer : Result TabledPlan PlanFault) → feed ≡ nothing_fed → ContinuesAs (outcome feed) text (outcome next) → Answers (outcome next [] true) answer → Answers (plan_of text true) answer
all_was_read feed next text answer e same h =
    subst (λ w. Answers w answer) (sym (reading.continued_end plan_of (outcome next) text true (reading.continued_on plan_of (outcome feed) (outcome next) [] text (at_first feed e) same))) h

-- or refused
pub all_is_refused : (feed : Fed) (text : List ℕ) (f : PlanFault) → feed ≡ nothing_fed → (f.kind ≡ kind.NoMemory) ⊎ AreRefused (outcome feed) text f → Answers (plan_of text true) (Err f)
all_is_refused feed text f e (inl memory) = inl memory
all_is_refused feed text f e (inr all) = inr (reading.continued_end plan_of (λ _ _. Err f) text true (reading.continued_on plan_of (outcome feed) (λ _ _. Err f) [] text (at_first feed e) all))
