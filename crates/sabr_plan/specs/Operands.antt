-- The operands of a plan line: times, nodes, rates and light times.
use Rattle.std.specs.Prelude.{ℕ, ◌+◌, ◌==◌, nat_le, ◌&&◌, List, [], ◌∷◌, length, Result, Ok, Err, ok_or, if◌then◌else◌}
use Rattle.std.specs.Str.Parse.{digits_value}
use Rattle.std.specs.declared.option.Option.{Option}
use Rattle.std.specs.declared.option.Option.TheVariants.{Some, None}
use Rattle.sabr_model.specs.plan.Plan.{last_time, most_light}
use Rattle.sabr_plan.specs.Digits.{are_digits}
use Rattle.sabr_plan.specs.Numbers.{number_within}
use Rattle.sabr_plan.specs.Times.{time_of}
use Rattle.sabr_plan.specs.declared.fault.PlanKind.{PlanKind}
use Rattle.sabr_plan.specs.declared.fault.PlanKind.TheVariants.{BadTime, NoReference, BadNode, BadNumber}
use Rattle.sabr_plan.specs.declared.command.Target.{Target}
use Rattle.sabr_plan.specs.declared.command.Target.TheVariants.{Contact, Range}

-- the seconds of a relative time: `+` and one to twelve digits
abbrev pub relative_of : List ℕ → Option ℕ
relative_of [] = None
relative_of (b ∷ digits) = if (b == 43) && are_digits digits && nat_le (length digits) 12 then Some (digits_value 10 digits) else None

-- the time this many seconds after the reference
abbrev pub after_reference : Option ℕ → ℕ → Result ℕ PlanKind
after_reference None seconds = Err NoReference
after_reference (Some reference) seconds = if nat_le (reference + seconds) last_time then Ok (reference + seconds) else Err BadTime

abbrev pub absolute_time : List ℕ → Result ℕ PlanKind
absolute_time word = ok_or (time_of word) BadTime

-- a time operand, relative or absolute
unfoldable pub time_at : Option ℕ → List ℕ → Result ℕ PlanKind
time_at reference word = elim (relative_of word) [ Some seconds ↦ after_reference reference seconds | None ↦ absolute_time word ]

-- a node operand
abbrev pub node_of : List ℕ → Result ℕ PlanKind
node_of word = ok_or (number_within 1 18446744073709551615 word) BadNode

-- the largest rate of a contact, in bytes per second, or the largest light time of a range, in seconds
abbrev pub largest_value : Target → ℕ
largest_value Contact = 18446744073709551615
largest_value Range = most_light

-- a rate or a light time
abbrev pub value_of : Target → List ℕ → Result ℕ PlanKind
value_of target word = ok_or (number_within 0 (largest_value target) word) BadNumber

-- both values, or the refusal that comes first: BadTime before any other
abbrev pub both_of : Result ℕ PlanKind → Result ℕ PlanKind → Result (ℕ × ℕ) PlanKind
both_of (Ok a) (Ok b) = Ok (a, b)
both_of (Err BadTime) second = Err BadTime
both_of (Err f) (Ok b) = Err f
both_of first (Err g) = Err g
