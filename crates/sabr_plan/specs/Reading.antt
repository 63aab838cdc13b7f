-- The plan of a text, or its first bad line.
use Rattle.std.specs.Prelude.{◌≡◌, ◌⊎◌, ℕ, ◌+◌, nat_lt, ◌&&◌, Bool, is_some, List, [], ◌∷◌, length, Result, Ok, Err, if◌then◌else◌}
use Rattle.std.specs.List.{list_any}
use Rattle.std.specs.declared.option.Option.{Option}
use Rattle.std.specs.declared.option.Option.TheVariants.{Some, None}
use Rattle.sabr_model.specs.declared.fault.AddFault.{AddFault}
use Rattle.sabr_model.specs.declared.fault.AddFault.TheVariants as add
use Rattle.sabr_model.specs.plan.Plan.{ContactPlan, IsPlan}
use Rattle.sabr_model.specs.plan.Adding.{next_contact, contact_refusal, with_contact, number_of_opening, without_contact, new_range, range_refusal, with_range, begins, without_range}
use Rattle.sabr_plan.specs.Steps.{and_then, given_as}
use Rattle.sabr_plan.specs.Words.{has_bytes, lines_of}
use Rattle.sabr_plan.specs.Commands.{line_command}
use Rattle.sabr_plan.specs.declared.command.Command.{Command}
use Rattle.sabr_plan.specs.declared.command.Command.TheVariants.{Nothing, SetReference, Add, Delete}
use Rattle.sabr_plan.specs.declared.command.Target.TheVariants.{Contact, Range}
use Rattle.sabr_plan.specs.declared.fault.PlanFault.{PlanFault}
use Rattle.sabr_plan.specs.declared.fault.PlanKind.{PlanKind}
use Rattle.sabr_plan.specs.declared.fault.PlanKind.TheVariants as kind

-- what the lines so far leave: a plan, and the time from which relative times count
pub record Reading : Type 0 where
  pub plan : ContactPlan
  pub reference : Option ℕ

-- a refusal of the plan, as a kind of bad line
abbrev pub kind_of : AddFault → PlanKind
kind_of add.EmptyWindow = kind.EmptyWindow
kind_of add.SelfPair = kind.SelfPair
kind_of add.DuplicateContact = kind.DuplicateContact
kind_of add.RangeOverlap = kind.RangeOverlap
kind_of add.TooMany = kind.TooMany
kind_of add.NoMemory = kind.NoMemory
kind_of add.NothingToDelete = kind.NothingToDelete

-- another plan, if it is not refused
abbrev pub changed : Option AddFault → Option ℕ → ContactPlan → Result Reading PlanKind
changed (Some f) reference p = Err (kind_of f)
changed None reference p = Ok (record { plan = p; reference = reference })

-- a deletion is refused if there is nothing of that name to delete
abbrev pub unless_named : Bool → Option AddFault
unless_named named = if named then None else Some add.NothingToDelete

-- the state after a command is carried out
unfoldable pub executed : Reading → Command → Result Reading PlanKind
executed r Nothing = Ok r
executed r (SetReference t) = Ok (record { plan = r.plan; reference = Some t })
executed r (Add Contact a) =
    changed (contact_refusal r.plan a.first a.second a.start a.end) r.reference
    (with_contact r.plan (next_contact r.plan a.first a.second a.start a.end a.value))
executed r (Add Range a) =
    changed (range_refusal r.plan (new_range a.first a.second a.start a.end a.value)) r.reference
    (with_range r.plan (new_range a.first a.second a.start a.end a.value))
executed r (Delete Contact d) =
    changed (unless_named (is_some (number_of_opening r.plan d.first d.second d.start))) r.reference
    (without_contact r.plan d.first d.second d.start)
executed r (Delete Range d) =
    changed (unless_named (list_any (begins d.first d.second d.start) r.plan.ranges)) r.reference
    (without_range r.plan d.first d.second d.start)

-- the state after a line is read and its command carried out
unfoldable pub line_executed : Reading → List ℕ → Result Reading PlanKind
line_executed r line = and_then (line_command r.reference line) (executed r)

-- a call leaves the state that is wanted, or the refusal, or an allocation failed
abbrev pub Leaves : {S U : Type 0} → Result S PlanKind → Result U PlanKind → S → Type 0
Leaves wanted (Ok _) new = wanted ≡ Ok new
Leaves wanted (Err k) new = (k ≡ kind.NoMemory) ⊎ (wanted ≡ Err k)

-- a refusal of the line with this number
abbrev pub at_line : {A : Type 0} → ℕ → Result A PlanKind → Result A PlanFault
at_line n (Ok x) = Ok x
at_line n (Err k) = Err (record { line = n; kind = k })

-- the most lines of a text
abbrev pub most_lines : ℕ
most_lines = 1000000

-- the most bytes of a line without its LF
abbrev pub most_line_bytes : ℕ
most_line_bytes = 255

-- line n is read if n and its length are within the limits
unfoldable pub limited : ℕ → Reading → List ℕ → Result Reading PlanKind
limited n r line = if nat_lt most_lines n then Err kind.TooMany else if nat_lt most_line_bytes (length line) then Err kind.LineTooLong else line_executed r line

-- line n
abbrev pub read_line : ℕ → Reading → List ℕ → Result Reading PlanFault
read_line n r line = at_line n (limited n r line)

-- the lines from number n on
unfoldable pub read_lines : ℕ → Reading → List (List ℕ) → Result Reading PlanFault
read_lines n r [] = Ok r
read_lines n r (line ∷ lines) = and_then (read_line n r line) (λ r₁. read_lines (n + 1) r₁ lines)

-- the text ends after these bytes of line n, which are a line if there are any
abbrev pub ended_line : ℕ → Reading → List ℕ → Result Reading PlanFault
ended_line n r line = if has_bytes line then read_line n r line else Ok r

-- the reader failed after these bytes of line n: reported is what is wrong with every line that begins with them
abbrev pub broken_line : ℕ → List ℕ → PlanFault
broken_line n line = record {
  line = n;
  kind = if nat_lt most_lines n && has_bytes line then kind.TooMany else if nat_lt most_line_bytes (length line) then kind.LineTooLong else kind.Read;
}

-- the text after the last LF
abbrev pub last_line : Bool → ℕ → List ℕ → Reading → Result ContactPlan PlanFault
last_line ended n line r = if ended then given_as (λ r₁. r₁.plan) (ended_line n r line) else Err (broken_line n line)

-- the state before the first line
abbrev pub nothing_read : Reading
nothing_read = record { plan = record { contacts = []; ranges = []; largest = 0 }; reference = None }

-- the plan of a text, or its first bad line; `ended` says whether the reader ended after these bytes, or failed
unfoldable pub plan_of : List ℕ → Bool → Result ContactPlan PlanFault
plan_of bytes ended =
    let text = lines_of bytes in
    and_then (read_lines 1 nothing_read text.ended) (last_line ended (length text.ended + 1) text.open_line)

-- a law: the plan of a text obeys the rules of a plan
abbrev pub SpelledPlansObey : Type 0
SpelledPlansObey = (bytes : List ℕ) (ended : Bool) (p : ContactPlan) → plan_of bytes ended ≡ Ok p → IsPlan p
