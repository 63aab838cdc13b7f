-- Steps that are taken, steps that are never refused as if the reader had failed, and texts that go on with a piece.
use Rattle.std.proofs.Common.{◌≡◌, ℕ, refl, Result, Ok, Err, ◌≢◌, ◌+◌, Bool, true, false, List, [], ◌∷◌, ◌++◌, length, IfErr, ◌≤◌, ◌⊎◌, inl, inr, sym, ap, ◌∙◌, arith, append_assoc, length-append}
use Rattle.std.specs.Option.{option_and_then, option_map}
use Rattle.sabr_plan.specs.Steps.{and_then, given_as}
use Rattle.sabr_session.specs.SessionRead.{spelled_at, Said, nothing_said, misspelled, same_plan, asked, rise_strictly, comes_after, may_carry, placed, line_said, read_line, read_lines, is_after, last_line, said_of}
use Rattle.std.specs.Prelude.{nat_lt, ◌==◌, not, ◌&&◌, ◌||◌, is_some, if◌then◌else◌}
use Rattle.std.specs.Str.{bytes_eq}
use Rattle.std.specs.declared.option.Option.{Option}
use Rattle.std.specs.declared.option.Option.TheVariants.{Some, None}
use Rattle.hex.specs.Hex.{encode_lower}
use Rattle.sabr_model.specs.plan.Plan.{ContactPlan}
use Rattle.sabr_model.specs.routes.Arrival.{RouteRequest}
use Rattle.sabr_model.specs.routes.Asking.{request_refusal, limit_refusal, unlimited, with_limits}
use Rattle.sabr_plan.specs.Words.{has_bytes, lines_of, TextLines, is_one_line}
use Rattle.sabr_frontier.specs.listing.State.{PartState}
use Rattle.sabr_session.specs.SessionLines.{header_of, digest_named, request_of, emitted_of, last_listed, count_of, part_of, is_end}
use Rattle.sabr_model.specs.declared.request_values.RequestValues.{RequestValues}
use Rattle.sabr_session.specs.declared.session_fault.SessionFault.{SessionFault}
use Rattle.sabr_plan.specs.Canonical.{digest_of}
use Rattle.sabr_plan.proofs.Held.{one_line-append}
use Rattle.sabr_plan.proofs.Outcomes.{lines_of-one, lines_of-line}
use Rattle.sabr_frontier.specs.session.Session.{Seen}
use Rattle.sabr_session.specs.SessionFed.{SessionFed, IsSessionFrom, OpenText, outcome, outcome_of, is_bad_front, GoesOn, IsRefusedPiece, weight, Leaves}
use Rattle.sabr_session.proofs.ReadingLemmas.SessionOutcomes.{outcome-line, outcome-held, outcome-end, outcome-refused, outcome-read}
use Rattle.sabr_session.specs.declared.session_fault.SessionFault.TheVariants as fault

-- a step that may give nothing, after another
pub and_then_some : {A B : Type 0} (f : A → Option B) (o : Option A) (y : B) → option_and_then f o ≡ Some y → (x : A) × (o ≡ Some x) × (f x ≡ Some y)
and_then_some f None y e = absurd cc
and_then_some f (Some x) y e = (x, refl, e)

-- one that always gives something
pub map_some : {A B : Type 0} (f : A → B) (o : Option A) (y : B) → option_map f o ≡ Some y → (x : A) × (o ≡ Some x) × (f x ≡ y)
map_some f None y e = absurd cc
map_some f (Some x) y e = let same : f x ≡ y = cc in (x, refl, same)

-- the same of steps that may be refused
pub and_then_ok : {A B E : Type 0} (f : A → Result B E) (r : Result A E) (y : B) → and_then r f ≡ Ok y → (x : A) × (r ≡ Ok x) × (f x ≡ Ok y)
and_then_ok f (Err e) y is = absurd cc
and_then_ok f (Ok x) y is = (x, refl, is)

pub given_as_ok : {A B E : Type 0} (f : A → B) (r : Result A E) (y : B) → given_as f r ≡ Ok y → (x : A) × (r ≡ Ok x) × (f x ≡ y)
given_as_ok f (Err e) y is = absurd cc
given_as_ok f (Ok x) y is = let same : f x ≡ y = cc in (x, refl, same)

-- a line that is spelled
pub spelled_at_ok : {A : Type 0} (n : ℕ) (o : Option A) (x : A) → spelled_at n o ≡ Ok x → o ≡ Some x
spelled_at_ok n None x e = absurd cc
spelled_at_ok n (Some y) x e = let same : y ≡ x = cc in rw same refl

-- No line is refused as one whose reader failed, nor is a text whose reader ended.
-- it isn't refused so
abbrev NotRead : {A : Type 0} → Result A SessionFault → Type 0
NotRead r = IfErr r (λ f. f ≢ fault.Read)

then_not : {A B : Type 0} (r : Result A SessionFault) (f : A → Result B SessionFault) → NotRead r → ((x : A) → NotRead (f x)) → NotRead (and_then r f)
then_not (Ok x) f p q = q x
then_not (Err e) f p q = p

given_not : {A B : Type 0} (f : A → B) (r : Result A SessionFault) → NotRead r → NotRead (given_as f r)
given_not f (Ok x) p = tt
given_not f (Err e) p = p

if_not : {A : Type 0} (b : Bool) (r s : Result A SessionFault) → NotRead r → NotRead s → NotRead (if b then r else s)
if_not true r s p q = p
if_not false r s p q = q

pub misspelled_not : (n : ℕ) → misspelled n ≢ fault.Read
misspelled_not n =
    elim (n == 1) as (λ b. (if b then fault.BadHeader else fault.BadLine n) ≢ fault.Read) [
      | true ↦ λ e. cc
      | false ↦ λ e. cc
    ]

spelled_not : {A : Type 0} (n : ℕ) (o : Option A) → NotRead (spelled_at n o)
spelled_not n None = misspelled_not n
spelled_not n (Some x) = tt

asked_not : (v : RequestValues) → NotRead (asked v)
asked_not v =
    let r = unlimited v.from v.to v.at v.margin_ppm in
    if_not {A = RouteRequest} (is_some (request_refusal v.from v.to v.at v.margin_ppm) || is_some (limit_refusal r v.max_hops v.avoid)) (Err fault.BadRequest) (Ok (with_limits r v.max_hops v.avoid)) (λ e. cc) tt

placed_not : (p : ContactPlan) (n : ℕ) (s : Said) (t : PartState) → NotRead (placed p n s t)
placed_not p n s t =
    let added : Result Said SessionFault = Ok (record s { parts = s.parts ++ t ∷ [] }) in
    let judged : Result Said SessionFault = if not (may_carry p s.request t) then Err (fault.BadRoute n) else added in
    if_not (not (rise_strictly t.excluded && comes_after s.parts t.prefix)) (Err (fault.BadLine n)) judged (λ e. cc) (if_not (not (may_carry p s.request t)) (Err (fault.BadRoute n)) added (λ e. cc) tt)

line_not : (p : ContactPlan) (h : List ℕ) (n : ℕ) (s : Said) (line : List ℕ) → NotRead (line_said p h n s line)
unfolding line_said
line_not p h n s line =
    if_not (n == 1) _ _ (given_not _ (spelled_at 1 (header_of line)) (spelled_not 1 (header_of line)))
    (if_not (n == 2) _ _ (then_not (spelled_at 2 (digest_named line)) (same_plan h s) (spelled_not 2 (digest_named line)) (λ digits. if_not (bytes_eq digits (encode_lower h)) (Ok s) (Err fault.OtherPlan) tt (λ e. cc)))
    (if_not (n == 3) _ _ (given_not _ (and_then (spelled_at 3 (request_of s.version line)) asked) (then_not (spelled_at 3 (request_of s.version line)) asked (spelled_not 3 (request_of s.version line)) asked_not))
    (if_not (n == 4) _ _ (given_not _ (spelled_at 4 (emitted_of line)) (spelled_not 4 (emitted_of line)))
    (if_not (n == 5) _ _ (given_not _ (spelled_at 5 (last_listed line)) (spelled_not 5 (last_listed line)))
    (if_not (n == 6) _ _ (given_not _ (spelled_at 6 (count_of line)) (spelled_not 6 (count_of line)))
    (if_not (nat_lt n (7 + s.count)) _ _ (then_not (spelled_at n (part_of line)) (placed p n s) (spelled_not n (part_of line)) (placed_not p n s))
    (if_not (n == 7 + s.count && is_end line) (Ok s) (Err (fault.BadLine n)) tt (λ e. cc))))))))

read_line_not : (p : ContactPlan) (h : List ℕ) (n : ℕ) (s : Said) (line : List ℕ) → NotRead (read_line p h n s line)
read_line_not p h n s line = if_not (nat_lt 660008 (length line)) (Err (misspelled n)) (line_said p h n s line) (misspelled_not n) (line_not p h n s line)

lines_not : (p : ContactPlan) (h : List ℕ) (n : ℕ) (s : Said) (lines : List (List ℕ)) → NotRead (read_lines p h n s lines)
unfolding read_lines
lines_not p h n s [] = tt
lines_not p h n s (line ∷ lines) =
    then_not (read_line p h n s line) (λ s₁. read_lines p h (n + 1) s₁ lines) (read_line_not p h n s line) (λ s₁. lines_not p h (n + 1) s₁ lines)

ended_not : (n : ℕ) (line : List ℕ) (s : Said) → NotRead (last_line true n line s)
ended_not n line s = if_not (is_after n s && not (has_bytes line)) (Ok s) (Err (misspelled n)) tt (misspelled_not n)

text_not : (p : ContactPlan) (h bytes : List ℕ) → NotRead (said_of p h bytes true)
unfolding said_of
text_not p h bytes =
    let text = lines_of bytes in
    then_not (read_lines p h 1 nothing_said text.ended) (last_line true (length text.ended + 1) text.open_line) (lines_not p h 1 nothing_said text.ended) (ended_not (length text.ended + 1) text.open_line)

-- a line is never refused so
pub line_not_read : (p : ContactPlan) (h : List ℕ) (n : ℕ) (s : Said) (line : List ℕ) (f : SessionFault) → read_line p h n s line ≡ Err f → f ≢ fault.Read
line_not_read p h n s line f e = rw e at (read_line_not p h n s line)

-- nor is a text whose reader ended
pub text_not_read : (p : ContactPlan) (h bytes : List ℕ) (f : SessionFault) → said_of p h bytes true ≡ Err f → f ≢ fault.Read
text_not_read p h bytes f e = rw e at (text_not p h bytes)

-- ---- a text that goes on with a piece, or that a piece ends

-- what stands before a piece and after some of it, over one plan
pub record HasTaken (old : OpenText) (piece : List ℕ) (t : OpenText) (rest : List ℕ) : Type 0 where
  pub plan : t.plan ≡ old.plan
  pub calls : t.calls ≡ old.calls
  pub same : (more : List ℕ) (ended : Bool) → outcome old.plan.plan (digest_of old.plan.plan) old.fed (piece ++ more) ended ≡ outcome old.plan.plan (digest_of old.plan.plan) t.fed (rest ++ more) ended
  pub held : (lines_of (old.fed.held ++ piece)).open_line ≡ (lines_of (t.fed.held ++ rest)).open_line
  pub grows : weight old + length piece ≤ weight t + length rest

pub nothing_taken : (t : OpenText) (piece : List ℕ) → HasTaken t piece t piece
nothing_taken t piece = record { plan = refl; calls = refl; same = λ more ended. refl; held = refl; grows = omega arith }

module _ (old : OpenText) (piece : List ℕ) (t : OpenText) (rest : List ℕ) (taken : HasTaken old piece t rest) (held : is_one_line t.fed.held ≡ true) where
  module _ (front back : List ℕ) (one : is_one_line front ≡ true) (parted : rest ≡ front ++ 10 ∷ back) where
    -- a line of the piece ends
    line_ends : (more : List ℕ) (ended : Bool) → outcome old.plan.plan (digest_of old.plan.plan) old.fed (piece ++ more) ended
        ≡ and_then (read_line old.plan.plan (digest_of old.plan.plan) (t.fed.lines + 1) t.fed.said (t.fed.held ++ front)) (λ r. outcome old.plan.plan (digest_of old.plan.plan) (record { lines = t.fed.lines + 1; said = r; held = [] }) (back ++ more) ended)
    line_ends more ended =
        let p = old.plan.plan in
        taken.same more ended ∙ ap (λ (b : List ℕ). outcome p (digest_of p) t.fed (b ++ more) ended) parted ∙ outcome-line p (digest_of p) t.fed front back more ended held one

    -- it is refused
    pub line_then_refused : (f : SessionFault) (new : Said)
        → Leaves {U = Unit {0}} (read_line t.plan.plan (digest_of t.plan.plan) (t.fed.lines + 1) t.fed.said (t.fed.held ++ front)) (Err f) new → IsRefusedPiece old piece f
    line_then_refused f new (inl memory) = inl memory
    line_then_refused f new (inr is) =
        let e : read_line old.plan.plan (digest_of old.plan.plan) (t.fed.lines + 1) t.fed.said (t.fed.held ++ front) ≡ Err f = rw (← taken.plan) is in
        inr (line_not_read _ _ _ _ _ f e, λ more ended. line_ends more ended ∙ rw e refl)

    -- what is open after it
    open_after : (lines_of (t.fed.held ++ rest)).open_line ≡ (lines_of back).open_line
    open_after =
        let whole : is_one_line (t.fed.held ++ front) ≡ true = one_line-append t.fed.held front held one in
        let bytes : t.fed.held ++ rest ≡ (t.fed.held ++ front) ++ 10 ∷ back = ap (λ (b : List ℕ). t.fed.held ++ b) parted ∙ sym (append_assoc t.fed.held front (10 ∷ back)) in
        ap (λ (u : TextLines). u.open_line) (ap lines_of bytes ∙ lines_of-line (t.fed.held ++ front) back whole)

    -- or read
    pub line_then_read : (new : OpenText) → new.plan ≡ t.plan → new.calls ≡ t.calls
        → read_line t.plan.plan (digest_of t.plan.plan) (t.fed.lines + 1) t.fed.said (t.fed.held ++ front) ≡ Ok new.fed.said
        → new.fed.lines ≡ t.fed.lines + 1 → new.fed.held ≡ [] → length t.fed.held + length front ≤ 660008 → HasTaken old piece new back
    line_then_read new plan calls is lines none short =
        let p = old.plan.plan in
        let e : read_line p (digest_of p) (t.fed.lines + 1) t.fed.said (t.fed.held ++ front) ≡ Ok new.fed.said = rw (← taken.plan) is in
        let made : ◌≡◌ {A = SessionFed} (record { lines = t.fed.lines + 1; said = new.fed.said; held = [] }) new.fed = rw (← lines, ← none) refl in
        record {
          plan = plan ∙ taken.plan;
          calls = calls ∙ taken.calls;
          same = λ more ended. line_ends more ended ∙ rw e (ap (λ (s : SessionFed). outcome p (digest_of p) s (back ++ more) ended) made);
          held = taken.held ∙ open_after ∙ ap (λ (b : List ℕ). (lines_of (b ++ back)).open_line) (sym none);
          grows = omega (arith, taken.grows, lines, ap length none, ap length parted, length-append front (10 ∷ back));
        }

  -- what is after the last LF is held
  pub rest_then_held : (new : OpenText) → is_one_line rest ≡ true → new ≡ record t { fed = record t.fed { held = t.fed.held ++ rest } }
      → is_bad_front (t.fed.lines + 1) t.fed.said (t.fed.held ++ rest) ≡ false → GoesOn old piece new
  rest_then_held new one is good =
      let p = old.plan.plan in
      let h = digest_of p in
      let fed : new.fed ≡ record t.fed { held = t.fed.held ++ rest } = ap (λ (t : OpenText). t.fed) is in
      let plan : new.plan ≡ old.plan = ap (λ (t : OpenText). t.plan) is ∙ taken.plan in
      let whole : is_one_line (t.fed.held ++ rest) ≡ true = one_line-append t.fed.held rest held one in
      record {
        plan = plan;
        calls = ap (λ (t : OpenText). t.calls) is ∙ taken.calls;
        held = ap (λ (s : SessionFed). s.held) fed ∙ sym (taken.held ∙ ap (λ (u : TextLines). u.open_line) (lines_of-one (t.fed.held ++ rest) whole));
        same = λ more ended. taken.same more ended ∙ outcome-held p h t.fed rest more ended ∙ ap (λ (s : SessionFed). outcome p h s more ended) (sym fed) ∙ rw plan refl;
        fine = rw (plan, fed) (outcome-read p h (record t.fed { held = t.fed.held ++ rest }) whole good);
      }

  -- or refused
  pub rest_then_refused : (f : SessionFault) → is_one_line rest ≡ true
      → (f ≡ fault.NoMemory) ⊎ ((f ≡ misspelled (t.fed.lines + 1)) × (is_bad_front (t.fed.lines + 1) t.fed.said (t.fed.held ++ rest) ≡ true)) → IsRefusedPiece old piece f
  rest_then_refused f one (inl memory) = inl memory
  rest_then_refused f one (inr (is, bad)) =
      inr (
        rw is (misspelled_not (t.fed.lines + 1)),
        λ more ended. taken.same more ended ∙ outcome-refused old.plan.plan (digest_of old.plan.plan) t.fed rest more ended held one bad ∙ ap Err (sym is),
      )

module _ (s : OpenText) (one : is_one_line s.fed.held ≡ true) where
  -- a text that ends before the LF of `end` is refused
  pub ended_early : (f : SessionFault) (answer : Result Seen SessionFault) → is_after (s.fed.lines + 1) s.fed.said ≡ false → f ≡ misspelled (s.fed.lines + 1) → answer ≡ Err f → IsSessionFrom s.plan (outcome_of s [] true) answer
  ended_early f answer before is told =
      let p = s.plan.plan in
      let end : last_line true (s.fed.lines + 1) s.fed.held s.fed.said ≡ Err (misspelled (s.fed.lines + 1)) = rw before refl in
      rw (told, is, outcome-end p (digest_of p) s.fed true one, end) (inr refl)

  -- after it the text says what its lines say
  pub ended_well : (answer : Result Seen SessionFault) → is_after (s.fed.lines + 1) s.fed.said ≡ true → (is_after (s.fed.lines + 1) s.fed.said && has_bytes s.fed.held) ≡ false
      → IsSessionFrom s.plan (Ok s.fed.said) answer → IsSessionFrom s.plan (outcome_of s [] true) answer
  ended_well answer after none from =
      let p = s.plan.plan in
      let empty : has_bytes s.fed.held ≡ false = rw after at none in
      let end : last_line true (s.fed.lines + 1) s.fed.held s.fed.said ≡ Ok s.fed.said = rw (after, empty) refl in
      rw (outcome-end p (digest_of p) s.fed true one, end) from
