-- What the runs leave over texts in memory.
use Rattle.std.specs.Prelude.{◌≡◌, ℕ, Bool, false, List, [], Result, Some}
use Rattle.sabr_model.specs.Devices.{Input, Output}
use Rattle.sabr_model.specs.plan.Plan.{TabledPlan}
use Rattle.sabr_model.specs.routes.Arrival.{RouteRequest}
use Rattle.sabr_plan.specs.PlanRead.{ReadsPlan}
use Rattle.sabr_plan.specs.declared.fault.PlanFault.{PlanFault}
use Rattle.commands.specs.declared.failure.Failure.{Failure}
use Rattle.commands.specs.declared.failure.Status.{Status}
use Rattle.commands.specs.declared.runs.answering.AnswerKind.{AnswerKind}
use Rattle.commands.specs.declared.runs.answering.AnswerKind.TheVariants.{FirstRoutes, Explanation}
use Rattle.commands.specs.texts.PlanTexts.{WritesCheck, WritesExplanation}
use Rattle.commands.specs.texts.Messages.{ReportsEnd, status_at, status_of_answer}
use Rattle.commands.specs.runs.Many.{ReadsLinesOver, WritesAnswers, form_of}
use Rattle.commands.specs.runs.SessionRuns.{ReadsOldSession, VerifiesOldSession, WritesAnswer, WritesFirstPage, WritesNextPage, place_of}
use Rattle.webcgrlist.specs.declared.asked.Asked.{Asked}
use Rattle.webcgrlist.specs.Canonical.{WritesCanonical}

-- what a contract sees of the writers of a run
pub record WritersSeen : Type 0 where
  pub report : Output
  pub session : Output
  pub message : Output

-- the same, by what it sees of each
abbrev pub seen : {O S E : Type 0} → (O → Output) → (S → Output) → (E → Output) → O → S → E → WritersSeen
seen report_of session_of message_of o s e = record { report = report_of o; session = session_of s; message = message_of e }

-- what a contract sees of a reader of a text in memory, which never fails
abbrev pub in_memory : List ℕ → List ℕ → Bool → Input
in_memory rest given ended = record { remaining = Some rest; given = given; ended = ended; failures = 0 }

-- a text in memory is read so
pub record ReadsText (text : List ℕ) (Reads : Input → Input → Type 0) : Type 0 where
  pub rest : List ℕ
  pub given : List ℕ
  pub ended : Bool
  pub reads : Reads (in_memory text [] false) (in_memory rest given ended)

-- a run over the plan of a text: what it does over what reading gave, and how it ends
pub record RunsOver {A : Type 0} (plan : List ℕ) (status : Result A Failure → Status) (Does : Result TabledPlan PlanFault → Result A Failure → Type 0) (message message₁ : Output) (ended : Status) : Type 0 where
  pub planned : Result TabledPlan PlanFault
  pub end : Result A Failure
  pub reads : ReadsText plan (λ old new. ReadsPlan old planned new)
  pub does : Does planned end
  pub reports : ReportsEnd end message message₁
  pub ends : ended ≡ status end

-- what it does if it reads another text: what is read there, and what it writes over that
pub record ReadsToo {T : Type 0} (text : List ℕ) (Reads : Input → T → Input → Type 0) (Writes : T → Type 0) : Type 0 where
  pub answer : T
  pub reads : ReadsText text (λ old new. Reads old answer new)
  pub writes : Writes answer

-- a first run
abbrev pub RunsFirst : Asked → RouteRequest → ℕ → WritersSeen → WritersSeen → Status → Type 0
RunsFirst a r count old new ended =
    RunsOver a.plan.now status_at (λ planned end. WritesFirstPage planned r a.keep count end old.report new.report old.session new.session) old.message new.message ended

-- a next run
abbrev pub RunsNext : Asked → ℕ → WritersSeen → WritersSeen → Status → Type 0
RunsNext a count old new ended =
    RunsOver a.plan.now status_at (λ planned end. ReadsToo a.session.now (ReadsOldSession planned) (λ resumed.
    WritesNextPage planned (place_of resumed) a.keep count end old.report new.report old.session new.session)) old.message new.message ended

-- a run that writes no session
abbrev pub RunsReport : {A : Type 0} → Asked → (Result A Failure → Status) → (Result TabledPlan PlanFault → Result A Failure → Output → Output → Type 0) → WritersSeen → WritersSeen → Status → Type 0
RunsReport a status Writes old new ended =
    RunsOver a.plan.now status (λ planned end. Writes planned end old.report new.report) old.message new.message ended × (new.session ≡ old.session)

-- a run that verifies a session
abbrev pub RunsVerify : Asked → WritersSeen → WritersSeen → Status → Type 0
RunsVerify a old new ended =
    RunsReport a status_of_answer (λ planned end out out₁. ReadsToo a.session.now (VerifiesOldSession planned) (λ verified. WritesAnswer planned verified end out out₁)) old new ended

-- a run that checks a plan
abbrev pub RunsCheck : Asked → WritersSeen → WritersSeen → Status → Type 0
RunsCheck a old new ended = RunsReport a status_at WritesCheck old new ended

-- a run that explains contacts
abbrev pub RunsExplain : Asked → RouteRequest → List ℕ → WritersSeen → WritersSeen → Status → Type 0
RunsExplain a r contacts old new ended = RunsReport a status_of_answer (λ planned end out out₁. WritesExplanation planned r contacts end out out₁) old new ended

-- a run over the lines of a text, which are answered so
abbrev pub RunsLines : Asked → List ℕ → AnswerKind → WritersSeen → WritersSeen → Status → Type 0
RunsLines a text kind old new ended =
    RunsReport a status_at (λ planned end out out₁. ReadsToo text (ReadsLinesOver (form_of kind) planned) (λ requested. WritesAnswers planned requested kind end out out₁)) old new ended

-- a run that answers many requests
abbrev pub RunsMany : Asked → ℕ → WritersSeen → WritersSeen → Status → Type 0
RunsMany a count old new ended = RunsLines a a.requests.now (FirstRoutes count) old new ended

-- a run that explains many lists
abbrev pub RunsFollow : Asked → WritersSeen → WritersSeen → Status → Type 0
RunsFollow a old new ended = RunsLines a a.lists.now Explanation old new ended

-- a run that writes the canonical text of a plan
abbrev pub RunsCanonical : Asked → WritersSeen → WritersSeen → Status → Type 0
RunsCanonical a old new ended = RunsReport a status_at WritesCanonical old new ended
