-- The command in a line of a plan text (ionrc(5): `a contact`, `a range`, `d contact`, `d range`, `@` and comments).
use Rattle.std.specs.Prelude.{ℕ, ◌≤◌, not, List, [], ◌∷◌, Result, Ok, Err, codes, if◌then◌else◌}
use Rattle.std.specs.List.{list_all}
use Rattle.std.specs.Str.{bytes_eq}
use Rattle.std.specs.declared.option.Option.{Option}
use Rattle.std.specs.declared.option.Option.TheVariants.{Some, None}
use Rattle.sabr_model.specs.plan.Plan.{IsNode, last_time}
use Rattle.sabr_plan.specs.Steps.{and_then, given_as}
use Rattle.sabr_plan.specs.Words.{words_of, is_plain, is_comment}
use Rattle.sabr_plan.specs.Operands.{time_at, absolute_time, node_of, largest_value, value_of, both_of}
use Rattle.sabr_plan.specs.declared.fault.PlanKind.{PlanKind}
use Rattle.sabr_plan.specs.declared.fault.PlanKind.TheVariants.{BadByte, UnknownCommand, WrongOperands}
use Rattle.sabr_plan.specs.declared.command.Command.{Command}
use Rattle.sabr_plan.specs.declared.command.Command.TheVariants.{Nothing, SetReference, Add, Delete}
use Rattle.sabr_plan.specs.declared.command.Target.{Target}
use Rattle.sabr_plan.specs.declared.command.Target.TheVariants.{Contact, Range}

-- start, stop, two nodes, and a rate or a light time
abbrev pub addition_of : Option ℕ → Target → List (List ℕ) → Result Command PlanKind
addition_of reference target (s ∷ e ∷ x ∷ y ∷ v ∷ []) =
    and_then (both_of (time_at reference s) (time_at reference e)) (λ times.
    and_then (both_of (node_of x) (node_of y)) (λ nodes.
    given_as (λ value. Add target (record { start = times.0; end = times.1; first = nodes.0; second = nodes.1; value = value }))
    (value_of target v)))
addition_of reference target _ = Err WrongOperands

-- start and two nodes
abbrev pub deletion_of : Option ℕ → Target → List (List ℕ) → Result Command PlanKind
deletion_of reference target (s ∷ x ∷ y ∷ []) =
    and_then (time_at reference s) (λ start.
    given_as (λ nodes. Delete target (record { start = start; first = nodes.0; second = nodes.1 }))
    (both_of (node_of x) (node_of y)))
deletion_of reference target _ = Err WrongOperands

-- what the word after `a` or `d` names
abbrev pub target_of : List ℕ → Option Target
target_of word =
    if bytes_eq word (codes "contact") then Some Contact
    else if bytes_eq word (codes "range") then Some Range
    else None

-- a command on what the first word names, with the operands after it
abbrev pub targeted : (Target → List (List ℕ) → Result Command PlanKind) → List (List ℕ) → Result Command PlanKind
targeted command [] = Err UnknownCommand
targeted command (word ∷ operands) = elim (target_of word) [ Some target ↦ command target operands | None ↦ Err UnknownCommand ]

-- the absolute time after `@`
abbrev pub reference_of : List (List ℕ) → Result Command PlanKind
reference_of (time ∷ []) = given_as SetReference (absolute_time time)
reference_of _ = Err WrongOperands

abbrev pub command_of : Option ℕ → List (List ℕ) → Result Command PlanKind
command_of reference [] = Ok Nothing
command_of reference (word ∷ words) =
    if bytes_eq word (codes "@") then reference_of words
    else if bytes_eq word (codes "a") then targeted (addition_of reference) words
    else if bytes_eq word (codes "d") then targeted (deletion_of reference) words
    else Err UnknownCommand

-- the command in a line, or the first reason to refuse it
unfoldable pub line_command : Option ℕ → List ℕ → Result Command PlanKind
line_command reference line =
    if is_comment line then Ok Nothing
    else if not (list_all is_plain line) then Err BadByte
    else command_of reference (words_of line)

-- what an addition names are nodes, its end and its value are within their limits; so is a reference
abbrev pub HasBounds : Command → Type 0
HasBounds (Add target a) = IsNode a.first × IsNode a.second × (a.end ≤ last_time) × (a.value ≤ largest_value target)
HasBounds (SetReference t) = t ≤ last_time
HasBounds _ = Unit {0}
