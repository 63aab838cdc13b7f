-- The plan that a text spells obeys the rules of a plan. No text whose reader ended is refused as if it had failed.
use Rattle.sabr_plan.proofs.Names.{◌≡◌, ◌≢◌, ℕ, ◌+◌, ◌≤◌, Bool, true, false, List, [], ◌∷◌, length, refl, arith, Option, Some, None, Result, Ok, Err, ok_or, ◌<◌, ◌++◌, take, drop, get_or, sym, ap, ◌∙◌, append-nil, nat_lt, nat_le, not, codes, MatchResult, if◌then◌else◌, list_all, flat_map, bytes_eq, leb-true, ContactPlan, IsPlan, IsNode, last_time, opens, next_contact, contact_refusal, with_contact, without_contact, new_range, range_refusal, with_range, begins, without_range, IsPlan-empty, IsPlan-push, IsPlan-range, IsPlan-fewer_contacts, IsPlan-fewer_ranges, take_more, take-append-drop, Output, Written, WrittenInPart}
use Rattle.sabr_model.specs.declared.fault.AddFault.{AddFault}
use Rattle.sabr_plan.specs.declared.fault.PlanFault.{PlanFault}
use Rattle.sabr_plan.specs.declared.fault.PlanKind.{PlanKind}
use Rattle.sabr_plan.specs.declared.command.Command.{Command}
use Rattle.sabr_plan.specs.declared.command.Command.TheVariants.{Nothing, SetReference, Add, Delete}
use Rattle.sabr_plan.specs.declared.command.Target.{Target}
use Rattle.sabr_plan.specs.declared.command.Target.TheVariants.{Contact, Range}
use Rattle.sabr_plan.specs.Steps.{and_then, given_as}
use Rattle.sabr_plan.specs.Words.{words_of, is_comment, is_plain, has_bytes, lines_of}
use Rattle.sabr_plan.specs.Numbers.{number_within}
use Rattle.sabr_plan.specs.Times.{time_of}
use Rattle.sabr_plan.specs.Operands.{relative_of, after_reference, absolute_time, time_at, node_of, largest_value, value_of, both_of}
use Rattle.sabr_plan.specs.Commands.{addition_of, deletion_of, target_of, targeted, reference_of, command_of, line_command, HasBounds}
use Rattle.sabr_plan.specs.Reading.{Reading, most_line_bytes, most_lines, nothing_read, kind_of, changed, executed, at_line, limited, line_executed, read_line, read_lines, ended_line, last_line, plan_of}
use Rattle.sabr_plan.proofs.Spelling.{time_of_tells}
use Rattle.sabr_plan.proofs.SpelledNumbers.{number_within-range}
use Rattle.std.proofs.lemmas.List.Concat.{flat_map-append}
use Rattle.sabr_model.proofs.ListLemmas.WrittenTexts.{WrittenInPart-after, WrittenInPart-more}
use Rattle.sabr_model.specs.declared.fault.AddFault.TheVariants as add
use Rattle.sabr_plan.specs.declared.fault.PlanKind.TheVariants as kind

-- ---- what holds of a result of steps, and of its refusal

module _ {A B E : Type 0} where
  then_gives : (R : E → Type 0) (P : A → Type 0) (Q : B → Type 0) (r : Result A E) (f : A → Result B E) → MatchResult r P R → ((x : A) → P x → MatchResult (f x) Q R) → MatchResult (and_then r f) Q R
  then_gives R P Q (Ok x) f p q = q x p
  then_gives R P Q (Err k) f p q = p

  given_gives : (R : E → Type 0) (P : A → Type 0) (Q : B → Type 0) (f : A → B) (r : Result A E) → MatchResult r P R → ((x : A) → P x → Q (f x)) → MatchResult (given_as f r) Q R
  given_gives R P Q f (Ok x) p q = q x p
  given_gives R P Q f (Err k) p q = p

if_gives : {A E : Type 0} (R : E → Type 0) (P : A → Type 0) (b : Bool) (r s : Result A E) → (b ≡ true → MatchResult r P R) → MatchResult s P R → MatchResult (if b then r else s) P R
if_gives R P true r s p q = p refl
if_gives R P false r s p q = q

-- a refusal doesn't say that the reader failed
abbrev NotRead : PlanKind → Type 0
NotRead kind.Read = ⊥
NotRead _ = Unit {0}

-- such a value, or such a refusal
abbrev Gives : {A : Type 0} → (A → Type 0) → Result A PlanKind → Type 0
Gives P r = MatchResult r P NotRead

or_gives : {A : Type 0} (P : A → Type 0) (o : Option A) (k : PlanKind) → NotRead k → ((x : A) → o ≡ Some x → P x) → Gives P (ok_or o k)
or_gives P (Some x) k n p = p x refl
or_gives P None k n p = n

both_give : (P : ℕ → Type 0) (a b : Result ℕ PlanKind) → Gives P a → Gives P b → Gives (λ t. P t.0 × P t.1) (both_of a b)
both_give P (Ok a) (Ok b) p q = (p, q)
both_give P (Err kind.BadTime) b p q = p
both_give P (Err f) (Ok b) p q = p
both_give P a (Err g) p q = q

-- ---- the operands are within their bounds

absolute_gives : (word : List ℕ) → Gives (λ t. t ≤ last_time) (absolute_time word)
absolute_gives word = or_gives (λ t. t ≤ last_time) (time_of word) kind.BadTime tt (λ t e. (time_of_tells word t e).1)

time_gives : (reference : Option ℕ) (word : List ℕ) → Gives (λ t. t ≤ last_time) (time_at reference word)
unfolding time_at
time_gives reference word =
    elim (relative_of word) as (λ o. Gives (λ t. t ≤ last_time) (elim o [ Some seconds ↦ after_reference reference seconds | None ↦ absolute_time word ])) [
      | Some seconds ↦ after_gives reference seconds
      | None ↦ absolute_gives word
    ]
  where
    after_gives : (reference : Option ℕ) (seconds : ℕ) → Gives (λ t. t ≤ last_time) (after_reference reference seconds)
    after_gives None seconds = tt
    after_gives (Some t) seconds = if_gives NotRead (λ t. t ≤ last_time) (nat_le (t + seconds) last_time) (Ok (t + seconds)) (Err kind.BadTime) (λ e. leb-true (t + seconds) last_time e) tt

node_gives : (word : List ℕ) → Gives IsNode (node_of word)
node_gives word =
    or_gives IsNode (number_within 1 18446744073709551615 word) kind.BadNode tt
    (λ n e. let range = number_within-range 1 18446744073709551615 word n e in (omega (arith, range), omega (arith, range)))

nodes_give : (x y : List ℕ) → Gives (λ nodes. IsNode nodes.0 × IsNode nodes.1) (both_of (node_of x) (node_of y))
nodes_give x y = both_give IsNode (node_of x) (node_of y) (node_gives x) (node_gives y)

value_gives : (target : Target) (word : List ℕ) → Gives (λ v. v ≤ largest_value target) (value_of target word)
value_gives target word =
    or_gives (λ v. v ≤ largest_value target) (number_within 0 (largest_value target) word) kind.BadNumber tt
    (λ v e. (number_within-range 0 (largest_value target) word v e).1)

-- ---- so is what a line says

addition_gives : (reference : Option ℕ) (target : Target) (words : List (List ℕ)) → Gives HasBounds (addition_of reference target words)
addition_gives reference target (s ∷ e ∷ x ∷ y ∷ v ∷ []) =
    then_gives NotRead (λ times. (times.0 ≤ last_time) × (times.1 ≤ last_time)) HasBounds (both_of (time_at reference s) (time_at reference e)) _
    (both_give (λ t. t ≤ last_time) (time_at reference s) (time_at reference e) (time_gives reference s) (time_gives reference e))
    (λ times within. then_gives NotRead (λ nodes. IsNode nodes.0 × IsNode nodes.1) HasBounds (both_of (node_of x) (node_of y)) _ (nodes_give x y)
    (λ nodes are. given_gives NotRead (λ value. value ≤ largest_value target) HasBounds _ (value_of target v) (value_gives target v)
    (λ value most. (are.0, are.1, within.1, most))))
addition_gives reference target _ = tt

deletion_gives : (reference : Option ℕ) (target : Target) (words : List (List ℕ)) → Gives HasBounds (deletion_of reference target words)
deletion_gives reference target (s ∷ x ∷ y ∷ []) =
    then_gives NotRead (λ t. t ≤ last_time) HasBounds (time_at reference s) _ (time_gives reference s)
    (λ start _. given_gives NotRead (λ nodes. IsNode nodes.0 × IsNode nodes.1) HasBounds _ (both_of (node_of x) (node_of y)) (nodes_give x y) (λ nodes _. tt))
deletion_gives reference target _ = tt

targeted_gives : (command : Target → List (List ℕ) → Result Command PlanKind) (words : List (List ℕ)) → ((target : Target) (operands : List (List ℕ)) → Gives HasBounds (command target operands))
    → Gives HasBounds (targeted command words)
targeted_gives command [] each = tt
targeted_gives command (word ∷ operands) each =
    elim (target_of word) as (λ o. Gives HasBounds (elim o [ Some target ↦ command target operands | None ↦ Err kind.UnknownCommand ])) [
      | Some target ↦ each target operands
      | None ↦ tt
    ]

reference_gives : (words : List (List ℕ)) → Gives HasBounds (reference_of words)
reference_gives (time ∷ []) = given_gives NotRead (λ t. t ≤ last_time) HasBounds SetReference (absolute_time time) (absolute_gives time) (λ t within. within)
reference_gives _ = tt

command_gives : (reference : Option ℕ) (words : List (List ℕ)) → Gives HasBounds (command_of reference words)
command_gives reference [] = tt
command_gives reference (word ∷ words) =
    if_gives NotRead HasBounds (bytes_eq word (codes "@")) _ _ (λ _. reference_gives words)
    (if_gives NotRead HasBounds (bytes_eq word (codes "a")) _ _ (λ _. targeted_gives (addition_of reference) words (addition_gives reference))
    (if_gives NotRead HasBounds (bytes_eq word (codes "d")) _ _ (λ _. targeted_gives (deletion_of reference) words (deletion_gives reference)) tt))

line_gives : (reference : Option ℕ) (line : List ℕ) → Gives HasBounds (line_command reference line)
unfolding line_command
line_gives reference line =
    if_gives NotRead HasBounds (is_comment line) _ _ (λ _. tt) (if_gives NotRead HasBounds (not (list_all is_plain line)) _ _ (λ _. tt) (command_gives reference (words_of line)))

pub line_bounds : (reference : Option ℕ) (line : List ℕ) (command : Command) → line_command reference line ≡ Ok command → HasBounds command
line_bounds reference line command e = rw e at (line_gives reference line)

-- ---- such a command keeps the rules

-- the plan obeys them
abbrev Obeys : Reading → Type 0
Obeys r = IsPlan r.plan

kind_not : (f : AddFault) → NotRead (kind_of f)
kind_not add.NoMemory = tt
kind_not f = tt

changed_gives : (refusal : Option AddFault) (reference : Option ℕ) (p : ContactPlan) → (refusal ≡ None → IsPlan p) → Gives Obeys (changed refusal reference p)
changed_gives (Some f) reference p good = kind_not f
changed_gives None reference p good = good refl

executed_gives : (r : Reading) (command : Command) → IsPlan r.plan → HasBounds command → Gives Obeys (executed r command)
unfolding executed
executed_gives r Nothing good bounds = good
executed_gives r (SetReference t) good bounds = good
executed_gives r (Add Contact a) good bounds =
    changed_gives (contact_refusal r.plan a.first a.second a.start a.end) r.reference (with_contact r.plan (next_contact r.plan a.first a.second a.start a.end a.value))
    (IsPlan-push r.plan a.first a.second a.start a.end a.value good bounds.0 bounds.1 (let most = bounds.3 in omega (arith, most)) bounds.2)
executed_gives r (Add Range a) good bounds =
    let range = new_range a.first a.second a.start a.end a.value in
    changed_gives (range_refusal r.plan range) r.reference (with_range r.plan range) (IsPlan-range r.plan range good bounds.0 bounds.1 bounds.2 bounds.3)
executed_gives r (Delete Contact d) good bounds =
    changed_gives _ r.reference (without_contact r.plan d.first d.second d.start) (λ _. IsPlan-fewer_contacts r.plan (λ c. not (opens d.first d.second d.start c)) good)
executed_gives r (Delete Range d) good bounds =
    changed_gives _ r.reference (without_range r.plan d.first d.second d.start) (λ _. IsPlan-fewer_ranges r.plan (λ s. not (begins d.first d.second d.start s)) good)

-- ---- so do the lines of a text

limited_gives : (n : ℕ) (r : Reading) (line : List ℕ) → IsPlan r.plan → Gives Obeys (limited n r line)
unfolding limited line_executed
limited_gives n r line good =
    if_gives NotRead Obeys (nat_lt most_lines n) _ _ (λ _. tt)
    (if_gives NotRead Obeys (nat_lt most_line_bytes (length line)) _ _ (λ _. tt)
    (then_gives NotRead HasBounds Obeys (line_command r.reference line) (executed r) (line_gives r.reference line) (λ command bounds. executed_gives r command good bounds)))

-- if the text's reader ended, it isn't refused as one whose reader failed
module _ (ended : Bool) where
  abbrev Refuses : PlanFault → Type 0
  Refuses f = ended ≡ true → NotRead f.kind

  read_gives : (n : ℕ) (r : Reading) (line : List ℕ) → IsPlan r.plan → MatchResult (read_line n r line) Obeys Refuses
  read_gives n r line good = at_gives (limited n r line) (limited_gives n r line good)
    where
      at_gives : (r : Result Reading PlanKind) → Gives Obeys r → MatchResult (at_line n r) Obeys Refuses
      at_gives (Ok x) p = p
      at_gives (Err k) p = λ _. p

  lines_give : (n : ℕ) (r : Reading) (lines : List (List ℕ)) → IsPlan r.plan → MatchResult (read_lines n r lines) Obeys Refuses
  unfolding read_lines
  lines_give n r [] good = good
  lines_give n r (line ∷ lines) good =
      then_gives Refuses Obeys Obeys (read_line n r line) (λ r₁. read_lines (n + 1) r₁ lines) (read_gives n r line good) (λ r₁ good₁. lines_give (n + 1) r₁ lines good₁)

last_gives : (ended : Bool) (n : ℕ) (line : List ℕ) (r : Reading) → IsPlan r.plan → MatchResult (last_line ended n line r) IsPlan (Refuses ended)
last_gives false n line r good = λ e. cc
last_gives true n line r good = given_gives (Refuses true) Obeys IsPlan (λ r₁. r₁.plan) (ended_line n r line) (if_gives (Refuses true) Obeys (has_bytes line) (read_line n r line) (Ok r) (λ _. read_gives true n r line good) good) (λ r₁ good₁. good₁)

text_gives : (ended : Bool) (bytes : List ℕ) → MatchResult (plan_of bytes ended) IsPlan (Refuses ended)
unfolding plan_of
text_gives ended bytes =
    let text = lines_of bytes in
    then_gives (Refuses ended) Obeys IsPlan (read_lines 1 nothing_read text.ended) (last_line ended (length text.ended + 1) text.open_line)
    (lines_give ended 1 nothing_read text.ended IsPlan-empty) (last_gives ended (length text.ended + 1) text.open_line)

-- the plan that a text spells obeys the rules of a plan
pub plan_is : (bytes : List ℕ) (ended : Bool) (p : ContactPlan) → plan_of bytes ended ≡ Ok p → IsPlan p
plan_is bytes ended p e = rw e at (text_gives ended bytes)

-- a text whose reader ended is never refused for a failed reader
pub ended_not_read : (bytes : List ℕ) (f : PlanFault) → plan_of bytes true ≡ Err f → f.kind ≢ kind.Read
ended_not_read bytes f e read = rw read at ((rw e at (text_gives true bytes)) refl)

-- ---- the canonical text of a plan, piece by piece

-- the lines before a record, its own, and those after it
pub flat_map-parted : {X : Type 0} (line : X → List ℕ) (xs : List X) (i : ℕ) (d : X) → i < length xs → flat_map line xs ≡ (flat_map line (take i xs) ++ line (get_or xs i d)) ++ flat_map line (drop (i + 1) xs)
flat_map-parted line xs i d h =
    ap (flat_map line) (sym (take-append-drop (i + 1) xs)) ∙ flat_map-append line (take (i + 1) xs) (drop (i + 1) xs)
    ∙ ap (λ s. s ++ flat_map line (drop (i + 1) xs)) (ap (flat_map line) (take_more xs i d h) ∙ flat_map-append line (take i xs) (get_or xs i d ∷ []) ∙ ap (λ s. flat_map line (take i xs) ++ s) (append-nil (line (get_or xs i d))))

-- the line of a record was not written, or only in part
pub stopped_at : {X : Type 0} (line : X → List ℕ) (xs : List X) (i : ℕ) (d : X) → i < length xs → (bytes : List ℕ) → bytes ≡ line (get_or xs i d) → (a b c : Output)
    → Written a (flat_map line (take i xs)) b → WrittenInPart b bytes c → WrittenInPart a (flat_map line xs) c
stopped_at line xs i d h bytes is a b c before part =
    let own : WrittenInPart b (line (get_or xs i d)) c = rw is at part in
    rw (flat_map-parted line xs i d h)
    (WrittenInPart-more a c (flat_map line (take i xs) ++ line (get_or xs i d)) (flat_map line (drop (i + 1) xs)) (WrittenInPart-after a b c (flat_map line (take i xs)) (line (get_or xs i d)) before own))
