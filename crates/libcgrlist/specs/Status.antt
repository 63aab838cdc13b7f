-- The statuses of calls, as `cgrlist.h` numbers them.
use Rattle.std.specs.Prelude.{ℕ, Result, Err, Option, None, Some}
use Rattle.sabr_model.specs.declared.fault.AddFault.{AddFault}
use Rattle.sabr_model.specs.declared.fault.AddFault.TheVariants as change
use Rattle.sabr_model.specs.declared.fault.RequestError.{RequestError}
use Rattle.sabr_model.specs.declared.fault.RequestError.TheVariants as request
use Rattle.sabr_plan.specs.declared.fault.PlanKind.{PlanKind}
use Rattle.sabr_plan.specs.declared.fault.PlanKind.TheVariants as line

-- the call did what it says
abbrev pub done : ℕ
done = 0

-- no: there is no route, the contacts make none, or what was asked for isn't there
abbrev pub no : ℕ
no = 1

-- a buffer is too small
abbrev pub no_room : ℕ
no_room = 2

-- an allocation was refused
abbrev pub no_memory : ℕ
no_memory = 3

-- the plan isn't open
abbrev pub closed : ℕ
closed = 4

-- the plan is open already
abbrev pub already_open : ℕ
already_open = 5

-- a listing is open
abbrev pub has_listing : ℕ
has_listing = 6

-- no listing is open
abbrev pub no_listing : ℕ
no_listing = 7

-- a node of a change is 0
abbrev pub value_node : ℕ
value_node = 64

-- a time of a change is above the largest
abbrev pub value_time : ℕ
value_time = 65

-- a light time of a change is above the largest
abbrev pub value_light : ℕ
value_light = 66

-- a count of routes is above the most
abbrev pub value_count : ℕ
value_count = 67

-- the status of a refused request
abbrev pub request_status : RequestError → ℕ
request_status request.SameNode = 16
request_status request.BadNode = 17
request_status request.BadTime = 18
request_status request.BadMargin = 19
request_status request.BadHops = 20
request_status request.BadAvoid = 21

-- the status of a refused line of a plan's text; bytes in memory are read without a failure
abbrev pub line_status : PlanKind → ℕ
line_status line.LineTooLong = 32
line_status line.BadByte = 33
line_status line.UnknownCommand = 34
line_status line.WrongOperands = 35
line_status line.BadTime = 36
line_status line.NoReference = 37
line_status line.BadNode = 38
line_status line.BadNumber = 39
line_status line.EmptyWindow = 40
line_status line.SelfPair = 41
line_status line.DuplicateContact = 42
line_status line.RangeOverlap = 43
line_status line.TooMany = 44
line_status line.NothingToDelete = 45
line_status line.Read = no_memory
line_status line.NoMemory = no_memory

-- the status of a refused change
abbrev pub change_status : AddFault → ℕ
change_status change.EmptyWindow = 48
change_status change.SelfPair = 49
change_status change.DuplicateContact = 50
change_status change.RangeOverlap = 51
change_status change.TooMany = 52
change_status change.NothingToDelete = 53
change_status change.NoMemory = no_memory

-- the refusal if there is one, else this
abbrev pub refused_or : {A E : Type 0} → Option E → Result A E → Result A E
refused_or (Some e) other = Err e
refused_or None other = other
