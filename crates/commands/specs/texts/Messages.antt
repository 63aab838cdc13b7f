-- The messages on standard error of runs that end early, the statuses that they end with, and the numbers of these.
use Rattle.std.specs.Prelude.{◌≡◌, ℕ, ◌⊎◌, Bool, List, [], ◌∷◌, Option, Some, None, Result, Ok, Err, decimal, codes, if◌then◌else◌}
use Rattle.std.specs.List.{concat}
use Rattle.std.specs.Option.{option_map_or}
use Rattle.sabr_model.specs.Devices.{Output, Written, WrittenInPart}
use Rattle.sabr_plan.specs.declared.fault.PlanKind.{PlanKind}
use Rattle.sabr_plan.specs.declared.fault.PlanKind.TheVariants.{LineTooLong, BadByte, UnknownCommand, WrongOperands, BadTime, NoReference, BadNode, BadNumber, EmptyWindow, SelfPair, DuplicateContact, RangeOverlap, TooMany, Read, NoMemory, NothingToDelete}
use Rattle.sabr_plan.specs.declared.fault.PlanFault.{PlanFault}
use Rattle.sabr_session.specs.declared.session_fault.SessionFault.{SessionFault}
use Rattle.sabr_session.specs.declared.session_fault.SessionFault.TheVariants as session
use Rattle.commands.specs.declared.failure.Status.{Status}
use Rattle.commands.specs.declared.failure.Status.TheVariants as status
use Rattle.commands.specs.declared.failure.Failure.{Failure}
use Rattle.commands.specs.declared.failure.Failure.TheVariants as failure
use Rattle.commands.specs.declared.words.value_fault.ValueFault.{ValueFault}
use Rattle.commands.specs.declared.words.value_fault.ValueFault.TheVariants as value
use Rattle.commands.specs.declared.words.lines.LineKind.{LineKind}
use Rattle.commands.specs.declared.words.lines.LineKind.TheVariants as request
use Rattle.commands.specs.declared.words.lines.LinesFault.{LinesFault}
use Rattle.commands.specs.declared.words.lines.LinesFault.TheVariants as requests
use Rattle.commands.specs.declared.words.lines.LineForm.{LineForm}
use Rattle.commands.specs.declared.words.lines.LineForm.TheVariants.{Requests, Lists}
use Rattle.commands.specs.words.Values.{name_text}

-- a kind of a bad line, by its name
abbrev pub kind_text : PlanKind → List ℕ
kind_text LineTooLong = codes "LineTooLong"
kind_text BadByte = codes "BadByte"
kind_text UnknownCommand = codes "UnknownCommand"
kind_text WrongOperands = codes "WrongOperands"
kind_text BadTime = codes "BadTime"
kind_text NoReference = codes "NoReference"
kind_text BadNode = codes "BadNode"
kind_text BadNumber = codes "BadNumber"
kind_text EmptyWindow = codes "EmptyWindow"
kind_text SelfPair = codes "SelfPair"
kind_text DuplicateContact = codes "DuplicateContact"
kind_text RangeOverlap = codes "RangeOverlap"
kind_text TooMany = codes "TooMany"
kind_text Read = codes "Read"
kind_text NoMemory = codes "NoMemory"
kind_text NothingToDelete = codes "NothingToDelete"

-- the failure that a refused plan is: a failed reader and refused memory aren't a line's fault
abbrev pub failure_of_kind : PlanFault → PlanKind → Failure
failure_of_kind fault Read = failure.PlanRead
failure_of_kind fault NoMemory = failure.NoMemory
failure_of_kind fault _ = failure.PlanLine fault

abbrev pub failure_of_plan : PlanFault → Failure
failure_of_plan fault = failure_of_kind fault fault.kind

-- the failure that refused values are
abbrev pub failure_of_value : ValueFault → Failure
failure_of_value (value.Bad name) = failure.BadValue name
failure_of_value value.SameNode = failure.SameNode
failure_of_value value.NoMemory = failure.NoMemory
failure_of_value value.BadAvoid = failure.BadAvoid

-- a fault of a session text, by its name
abbrev pub session_kind_text : SessionFault → List ℕ
session_kind_text session.BadHeader = codes "BadHeader"
session_kind_text (session.BadLine line) = codes "BadLine"
session_kind_text session.OtherPlan = codes "OtherPlan"
session_kind_text session.BadRequest = codes "BadRequest"
session_kind_text session.NotClosed = codes "NotClosed"
session_kind_text (session.BadRoute line) = codes "BadRoute"
session_kind_text session.BadCount = codes "BadCount"
session_kind_text session.Read = codes "Read"
session_kind_text session.NoMemory = codes "NoMemory"

-- the failure that a refused session is: a failed reader and refused memory aren't the text's fault
abbrev pub failure_of_session : SessionFault → Failure
failure_of_session session.Read = failure.SessionRead
failure_of_session session.NoMemory = failure.NoMemory
failure_of_session fault = failure.Session fault

-- what is bad in a line of requests or of lists, by its name
abbrev pub line_kind_text : LineKind → List ℕ
line_kind_text request.BadContacts = codes "BadContacts"
line_kind_text request.BadFrom = codes "BadFrom"
line_kind_text request.BadTo = codes "BadTo"
line_kind_text request.BadAt = codes "BadAt"
line_kind_text request.BadMargin = codes "BadMargin"
line_kind_text request.BadHops = codes "BadHops"
line_kind_text request.BadAvoid = codes "BadAvoid"
line_kind_text request.SameNode = codes "SameNode"
line_kind_text request.BadLine = codes "BadLine"

-- the failure that refused lines of this form are
abbrev pub failure_of_lines : LineForm → LinesFault → Failure
failure_of_lines Requests requests.Read = failure.RequestsRead
failure_of_lines Requests (requests.Line line kind) = failure.RequestsLine line kind
failure_of_lines Lists requests.Read = failure.ListsRead
failure_of_lines Lists (requests.Line line kind) = failure.ListsLine line kind
failure_of_lines form requests.NoMemory = failure.NoMemory

-- the line of a session text that a fault names
abbrev pub session_line : SessionFault → Option ℕ
session_line (session.BadLine line) = Some line
session_line (session.BadRoute line) = Some line
session_line _ = None

-- a bad line of a text: its number, and what is bad in it
abbrev pub line_message : List ℕ → ℕ → List ℕ → List ℕ
line_message text line kind = concat (codes "cgrlist: " ∷ text ∷ codes " line " ∷ decimal line ∷ codes ": " ∷ kind ∷ codes "\n" ∷ [])

-- a fault of a session text as a line: with the line that it names, or of the whole text
abbrev pub session_message : SessionFault → List ℕ
session_message fault =
    option_map_or (λ line. line_message (codes "session") line (session_kind_text fault))
    (session_line fault)
    (concat (codes "cgrlist: session: " ∷ session_kind_text fault ∷ codes "\n" ∷ []))

-- the line of a failure
abbrev pub message_text : Failure → List ℕ
message_text (failure.BadValue name) = concat (codes "cgrlist: bad --" ∷ name_text name ∷ codes "\n" ∷ [])
message_text failure.SameNode = codes "cgrlist: request: SameNode\n"
message_text failure.BadAvoid = codes "cgrlist: request: BadAvoid\n"
message_text failure.CannotOpenPlan = codes "cgrlist: cannot open the plan\n"
message_text failure.CannotOpenSession = codes "cgrlist: cannot open the session\n"
message_text failure.CannotMakeSession = codes "cgrlist: cannot make the session file\n"
message_text (failure.PlanLine fault) = line_message (codes "plan") fault.line (kind_text fault.kind)
message_text failure.PlanRead = codes "cgrlist: plan: read failed\n"
message_text (failure.Session fault) = session_message fault
message_text failure.SessionRead = codes "cgrlist: session: read failed\n"
message_text failure.CannotOpenRequests = codes "cgrlist: cannot open the requests\n"
message_text (failure.RequestsLine line kind) = line_message (codes "requests") line (line_kind_text kind)
message_text failure.RequestsRead = codes "cgrlist: requests: read failed\n"
message_text failure.CannotOpenLists = codes "cgrlist: cannot open the lists\n"
message_text (failure.ListsLine line kind) = line_message (codes "lists") line (line_kind_text kind)
message_text failure.ListsRead = codes "cgrlist: lists: read failed\n"
message_text failure.Write = codes "cgrlist: write failed\n"
message_text failure.NoMemory = codes "cgrlist: no memory\n"
message_text failure.NotUtf8 = codes "cgrlist: a word of the command line is not UTF-8\n"

-- the status that a failure ends with: that of input and output, if it is of none of the others
abbrev pub status_of : Failure → Status
status_of (failure.BadValue name) = status.Usage
status_of failure.SameNode = status.Usage
status_of failure.BadAvoid = status.Usage
status_of failure.NotUtf8 = status.Usage
status_of (failure.PlanLine fault) = status.Plan
status_of (failure.Session fault) = status.Session
status_of (failure.RequestsLine line kind) = status.Session
status_of (failure.ListsLine line kind) = status.Session
status_of failure.NoMemory = status.Memory
status_of _ = status.Io

-- the program's exit status
abbrev pub number_of : Status → ℕ
number_of status.Done = 0
number_of status.No = 1
number_of status.Usage = 2
number_of status.Plan = 3
number_of status.Session = 4
number_of status.Io = 5
number_of status.Memory = 6

-- the text was taken, or a beginning of it by a writer that failed
abbrev pub WritesMessage : Output → List ℕ → Output → Type 0
WritesMessage old text new = Written old text new ⊎ WrittenInPart old text new

-- the status of a run that ended so
abbrev pub status_at : Result (Unit {0}) Failure → Status
status_at (Ok _) = status.Done
status_at (Err f) = status_of f

-- the status of a run that ended with yes or no
abbrev pub status_of_answer : Result Bool Failure → Status
status_of_answer (Ok answer) = if answer then status.Done else status.No
status_of_answer (Err f) = status_of f

-- no message for a run that did what was asked of it, and else that of its failure
abbrev pub ReportsEnd : {A : Type 0} → Result A Failure → Output → Output → Type 0
ReportsEnd (Ok _) old new = new ≡ old
ReportsEnd (Err f) old new = WritesMessage old (message_text f) new
