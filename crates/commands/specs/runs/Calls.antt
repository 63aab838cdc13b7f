-- What a contract sees of the files of a system, and what a call of a command leaves: over the files that its words
-- name, the run of their values.
use Rattle.std.specs.Prelude.{◌≡◌, ℕ, ◌⊎◌, IsTrue, List, is_some, Result, Ok, Err, false, [], ◌∷◌}
use Rattle.std.specs.declared.option.Option.{Option}
use Rattle.std.specs.declared.option.Option.TheVariants.{Some, None}
use Rattle.clap.specs.Matches.{first_value}
use Rattle.clap.specs.declared.parser.matches.Found.{Found}
use Rattle.sabr_model.specs.Devices.{Input, Output}
use Rattle.sabr_model.specs.plan.Plan.{TabledPlan}
use Rattle.sabr_model.specs.routes.Arrival.{RouteRequest}
use Rattle.sabr_plan.specs.PlanRead.{ReadsPlan}
use Rattle.sabr_plan.specs.declared.fault.PlanFault.{PlanFault}
use Rattle.commands.specs.declared.command.CommandName.{CommandName}
use Rattle.commands.specs.declared.failure.Failure.{Failure}
use Rattle.commands.specs.declared.failure.Status.{Status}
use Rattle.commands.specs.declared.runs.answering.AnswerKind.{AnswerKind}
use Rattle.commands.specs.declared.runs.answering.AnswerKind.TheVariants.{FirstRoutes, Explanation}
use Rattle.commands.specs.declared.words.value_fault.ValueFault.{ValueFault}
use Rattle.commands.specs.texts.PlanTexts.{WritesCheck, WritesExplanation}
use Rattle.commands.specs.texts.Messages.{failure_of_value, ReportsEnd, status_at, status_of_answer}
use Rattle.commands.specs.words.Values.{ValuesRead, values_of, has_contacts, has_session, path_under, plan_word, session_word, requests_word, lists_word, session_out_word}
use Rattle.commands.specs.runs.Many.{ReadsLinesOver, WritesAnswers, form_of}
use Rattle.commands.specs.runs.SessionRuns.{ReadsOldSession, VerifiesOldSession, WritesAnswer, WritesFirstPage, WritesNextPage, place_of}
use Rattle.commands.specs.declared.command.CommandName.TheVariants as command
use Rattle.commands.specs.declared.failure.Failure.TheVariants as failure
use Rattle.commands.specs.declared.failure.Status.TheVariants as status

-- ---- files: which can be opened and made where, and which made ones are left

-- what a path names in a system: how a file that is opened there reads; how one that is made there takes, at first; and
-- whether the calls that open a file there, make one there, or remove one from there fail; and whether the last one
-- succeeds
pub record FileRules : Type 1 where
  pub opened : List ℕ → Input → Type 0
  pub unopened : List ℕ → Type 0
  pub made : List ℕ → Output → Type 0
  pub unmade : List ℕ → Type 0
  pub unremoved : List ℕ → Type 0
  pub removed : List ℕ → Type 0

-- the files that a system made and didn't remove, the last one first: the path of each, and what its writer shows
abbrev pub Left : Type 0
Left = List (List ℕ × Output)

-- what the writer of a new file shows, into which nothing was written
abbrev pub unwritten : Output
unwritten = record { contents = Some []; taken = []; failures = 0; flushed = false }

-- a file was made at this path, and takes as x
abbrev pub Makes : FileRules → List ℕ → Output → Left → Left → Type 0
Makes rules path x old new = rules.made path x × (new ≡ (path, unwritten) ∷ old)

-- the file that was made last stays, whose writer shows x
abbrev pub Keeps : Output → Left → Left → Type 0
Keeps x [] new = new ≡ []
Keeps x (file ∷ others) new = new ≡ (file.0, x) ∷ others

-- it is removed, or that fails and it stays
abbrev pub Removes : FileRules → Output → Left → Left → Type 0
Removes rules x [] new = new ≡ []
Removes rules x (file ∷ others) new = (rules.removed file.0 × (new ≡ others)) ⊎ (rules.unremoved file.0 × (new ≡ (file.0, x) ∷ others))

-- it stays if the run is done that wrote it, and else is removed
abbrev pub KeepsIfDone : FileRules → Status → Output → Left → Left → Type 0
KeepsIfDone rules status.Done x old new = Keeps x old new
KeepsIfDone rules _ x old new = Removes rules x old new

-- what is left after a run: the file of the session that it wrote, whose writer shows x, if it is done. If it isn't, that
-- file was removed, unless that failed. No other file is made or removed.
abbrev pub LeavesFile : FileRules → Option (List ℕ) → Status → Output → Left → Left → Type 0
LeavesFile rules None ended x old new = new ≡ old
LeavesFile rules (Some path) status.Done x old new = new ≡ (path, x) ∷ old
LeavesFile rules (Some path) _ x old new = (rules.removed path × (new ≡ old)) ⊎ (rules.unremoved path × (new ≡ (path, x) ∷ old))

-- ---- calls

-- where the words keep the session after a page, if they do
abbrev pub kept_path : CommandName → Found → Option (List ℕ)
kept_path command.First found = first_value found session_out_word
kept_path command.Next found = first_value found session_out_word
kept_path _ found = None

-- the session's writer is that of the file made at its path, if there is one
abbrev pub IsMadeWhereKept : FileRules → Option (List ℕ) → Output → Type 0
IsMadeWhereKept rules None session = Unit {0}
IsMadeWhereKept rules (Some path) session = rules.made path session

-- a run over the plan that the words name: what it reads and writes over it, and how it ends
pub record RunsOver {A : Type 0} (rules : FileRules) (found : Found) (status : Result A Failure → Status) (Does : Result TabledPlan PlanFault → Result A Failure → Type 0) (err err₁ : Output) (ended : Status) : Type 0 where
  pub plan : Input
  pub plan₁ : Input
  pub planned : Result TabledPlan PlanFault
  pub end : Result A Failure
  pub opens : rules.opened (path_under found plan_word) plan
  pub reads : ReadsPlan plan planned plan₁
  pub does : Does planned end
  pub reports : ReportsEnd end err err₁
  pub ends : ended ≡ status end

-- what it does if it reads another file of the words: what is read there, and what it writes over that
pub record ReadsToo {T : Type 0} (rules : FileRules) (found : Found) (word : List ℕ) (Reads : Input → T → Input → Type 0) (Writes : T → Type 0) : Type 0 where
  pub file : Input
  pub file₁ : Input
  pub answer : T
  pub opens : rules.opened (path_under found word) file
  pub reads : Reads file answer file₁
  pub writes : Writes answer

-- a first run
pub record RunsFirst (rules : FileRules) (found : Found) (left left₁ : Left) (out out₁ err err₁ : Output) (ended : Status) : Type 0 where
  pub values : ValuesRead
  pub request : RouteRequest
  pub count : ℕ
  pub given : values_of command.First found ≡ Ok values
  pub asked : values.request ≡ Some request
  pub counted : values.count ≡ Some count
  pub session : Output
  pub session₁ : Output
  pub makes : IsMadeWhereKept rules (kept_path command.First found) session
  pub runs : RunsOver rules found status_at (λ planned end. WritesFirstPage planned request (is_some (kept_path command.First found)) count end out out₁ session session₁) err err₁ ended
  pub leaves : LeavesFile rules (kept_path command.First found) ended session₁ left left₁

-- a next run
pub record RunsNext (rules : FileRules) (found : Found) (left left₁ : Left) (out out₁ err err₁ : Output) (ended : Status) : Type 0 where
  pub values : ValuesRead
  pub count : ℕ
  pub given : values_of command.Next found ≡ Ok values
  pub counted : values.count ≡ Some count
  pub session : Output
  pub session₁ : Output
  pub makes : IsMadeWhereKept rules (kept_path command.Next found) session
  pub runs : RunsOver rules found status_at (λ planned end. ReadsToo rules found session_word (ReadsOldSession planned) (λ resumed.
      WritesNextPage planned (place_of resumed) (is_some (kept_path command.Next found)) count end out out₁ session session₁)) err err₁ ended
  pub leaves : LeavesFile rules (kept_path command.Next found) ended session₁ left left₁

-- a run that verifies a session
abbrev pub RunsVerify : FileRules → Found → Output → Output → Output → Output → Status → Type 0
RunsVerify rules found out out₁ err err₁ ended =
    RunsOver rules found status_of_answer (λ planned end. ReadsToo rules found session_word (VerifiesOldSession planned) (λ verified. WritesAnswer planned verified end out out₁)) err err₁ ended

-- a run that checks a plan
abbrev pub RunsCheck : FileRules → Found → Output → Output → Output → Output → Status → Type 0
RunsCheck rules found out out₁ err err₁ ended = RunsOver rules found status_at (λ planned end. WritesCheck planned end out out₁) err err₁ ended

-- a run that explains contacts
pub record RunsExplain (rules : FileRules) (found : Found) (out out₁ err err₁ : Output) (ended : Status) : Type 0 where
  pub values : ValuesRead
  pub request : RouteRequest
  pub given : values_of command.Explain found ≡ Ok values
  pub asked : values.request ≡ Some request
  pub runs : RunsOver rules found status_of_answer (λ planned end. WritesExplanation planned request values.contacts end out out₁) err err₁ ended

-- a run over the lines of the file that a word names, which are answered so
abbrev pub RunsLines : List ℕ → AnswerKind → FileRules → Found → Output → Output → Output → Output → Status → Type 0
RunsLines word kind rules found out out₁ err err₁ ended =
    RunsOver rules found status_at (λ planned end. ReadsToo rules found word (ReadsLinesOver (form_of kind) planned) (λ requested. WritesAnswers planned requested kind end out out₁)) err err₁ ended

-- a run that answers many requests
pub record RunsMany (rules : FileRules) (found : Found) (out out₁ err err₁ : Output) (ended : Status) : Type 0 where
  pub values : ValuesRead
  pub count : ℕ
  pub given : values_of command.Many found ≡ Ok values
  pub counted : values.count ≡ Some count
  pub runs : RunsLines requests_word (FirstRoutes count) rules found out out₁ err err₁ ended

-- a run that explains many lists
abbrev pub RunsFollow : FileRules → Found → Output → Output → Output → Output → Status → Type 0
RunsFollow rules found out out₁ err err₁ ended = RunsLines lists_word Explanation rules found out out₁ err err₁ ended

-- the run of a command, and what is left after it: if it keeps no session, no file is made or removed
abbrev pub RunsCommand : CommandName → FileRules → Found → Left → Left → Output → Output → Output → Output → Status → Type 0
RunsCommand command.First rules found left left₁ out out₁ err err₁ ended = RunsFirst rules found left left₁ out out₁ err err₁ ended
RunsCommand command.Next rules found left left₁ out out₁ err err₁ ended = RunsNext rules found left left₁ out out₁ err err₁ ended
RunsCommand command.Verify rules found left left₁ out out₁ err err₁ ended = (left₁ ≡ left) × RunsVerify rules found out out₁ err err₁ ended
RunsCommand command.Check rules found left left₁ out out₁ err err₁ ended = (left₁ ≡ left) × RunsCheck rules found out out₁ err err₁ ended
RunsCommand command.Explain rules found left left₁ out out₁ err err₁ ended = (left₁ ≡ left) × RunsExplain rules found out out₁ err err₁ ended
RunsCommand command.Many rules found left left₁ out out₁ err err₁ ended = (left₁ ≡ left) × RunsMany rules found out out₁ err err₁ ended
RunsCommand command.Follow rules found left left₁ out out₁ err err₁ ended = (left₁ ≡ left) × RunsFollow rules found out out₁ err err₁ ended

-- the file that was given under this word can be opened
abbrev pub Opens : FileRules → Found → List ℕ → Type 0
Opens rules found word = (x : Input) × rules.opened (path_under found word) x

-- it can't be opened
abbrev pub IsUnopened : FileRules → Found → List ℕ → Type 0
IsUnopened rules found word = rules.unopened (path_under found word)

-- a file of this command can't be opened or made, and has this failure; those before it could, in the order plan, old
-- session, requests or lists, new session
abbrev pub FailsAtFile : FileRules → CommandName → Found → Failure → Type 0
FailsAtFile rules name found failure.CannotOpenPlan = IsUnopened rules found plan_word
FailsAtFile rules name found failure.CannotOpenSession = IsTrue (has_session name) × Opens rules found plan_word × IsUnopened rules found session_word
FailsAtFile rules name found failure.CannotOpenRequests = (name ≡ command.Many) × Opens rules found plan_word × IsUnopened rules found requests_word
FailsAtFile rules name found failure.CannotOpenLists = (name ≡ command.Follow) × Opens rules found plan_word × IsUnopened rules found lists_word
FailsAtFile rules name found failure.CannotMakeSession =
    (path : List ℕ) × (kept_path name found ≡ Some path) × Opens rules found plan_word × (IsTrue (has_session name) → Opens rules found session_word) × rules.unmade path
FailsAtFile rules name found _ = ⊥

-- why a command ends before its run: its values are refused, memory for its contacts is, or one of its files is
abbrev pub StopsBefore : FileRules → CommandName → Found → Failure → Type 0
StopsBefore rules name found f =
    ((fault : ValueFault) × (values_of name found ≡ Err fault) × (f ≡ failure_of_value fault))
    ⊎ (((f ≡ failure.NoMemory) × IsTrue (has_contacts name))
    ⊎ ((values : ValuesRead) × (values_of name found ≡ Ok values) × FailsAtFile rules name found f))
