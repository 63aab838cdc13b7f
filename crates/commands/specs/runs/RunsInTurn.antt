-- Runs of the program in turn: a first run, and then next runs, each over the session text that the one before wrote;
-- next runs from any session text of a place, at last one that keeps no session; and one run over many lines, beside runs
-- of their own.
use Rattle.std.specs.Prelude.{◌≡◌, ℕ, ◌+◌, Bool, true, false, List, [], ◌∷◌, ◌++◌, Result, Ok, IsTrue, ◌⊎◌, Err, IfOk}
use Rattle.sabr_model.specs.Devices.{Input, Output, IsTextOf, TakesAll}
use Rattle.sabr_model.specs.plan.Plan.{ContactPlan, TabledPlan, IsPlan}
use Rattle.sabr_model.specs.routes.Arrival.{RouteRequest}
use Rattle.sabr_model.specs.routes.Asking.{IsRequest}
use Rattle.sabr_model.specs.routes.Listing.{page_of}
use Rattle.sabr_plan.specs.Reading.{plan_of}
use Rattle.sabr_plan.specs.PlanRead.{ReadsPlan}
use Rattle.sabr_plan.specs.declared.fault.PlanFault.{PlanFault}
use Rattle.sabr_frontier.specs.session.Session.{Seen}
use Rattle.sabr_session.specs.SessionText.{session_text}
use Rattle.sabr_session.specs.declared.session_fault.SessionFault.{SessionFault}
use Rattle.commands.specs.declared.failure.Failure.{Failure}
use Rattle.commands.specs.texts.Messages.{status_at}
use Rattle.commands.specs.runs.SessionRuns.{ReadsOldSession, WritesFirstPage, WritesNextPage, place_after, place_of, report_from, WritesPage}
use Rattle.commands.specs.runs.EveryRun.{IsAt, from_text}
use Rattle.sabr_frontier.specs.listing.Listing.{state_at}
use Rattle.sabr_session.specs.Verifying.{IsSessionText}
use Rattle.commands.specs.declared.runs.answering.AnswerKind.{AnswerKind}
use Rattle.commands.specs.declared.runs.answering.AnswerKind.TheVariants.{FirstRoutes, Explanation}
use Rattle.commands.specs.declared.words.lines.LinesFault.{LinesFault}
use Rattle.commands.specs.texts.PlanTexts.{WritesExplanation}
use Rattle.commands.specs.words.Lines.{AskedLine, asked_by}
use Rattle.commands.specs.runs.Many.{ReadsLinesOver, WritesAnswers, form_of, heading}
use Rattle.commands.specs.declared.failure.Status.TheVariants as status
use Rattle.commands.specs.declared.failure.Failure.TheVariants as failure

-- a run: how many routes it is asked for, and the texts that its writers take
pub record Run : Type 0 where
  pub count : ℕ
  pub report : List ℕ
  pub text : List ℕ

-- a run over a reader of this plan text, of which a writer took this report and nothing else
pub record IsAlone (plan report : List ℕ) : Type 0 where
  pub reader : Input
  pub planned : Result TabledPlan PlanFault
  pub reader₁ : Input
  pub has : IsTextOf reader plan reader₁
  pub reads : ReadsPlan reader planned reader₁
  pub out : Output
  pub out₁ : Output
  pub takes : TakesAll out report out₁

-- it did what was asked of it, and the session's writer took the run's text
pub record IsDone (plan : List ℕ) (run : Run) : Type 0 where
  pub alone : IsAlone plan run.report
  pub end : Result (Unit {0}) Failure
  pub done : status_at end ≡ status.Done
  pub session : Output
  pub session₁ : Output
  pub takes_text : TakesAll session run.text session₁

-- it is a first run for this request that keeps its session
abbrev pub IsFirst : List ℕ → RouteRequest → Run → Type 0
IsFirst plan r run = (x : IsDone plan run) × WritesFirstPage x.alone.planned r true run.count x.end x.alone.out x.alone.out₁ x.session x.session₁

-- it is a next run over a reader of this session text, which keeps its session or not
pub record IsNext (plan text : List ℕ) (keep : Bool) (run : Run) : Type 0 where
  pub is_done : IsDone plan run
  pub reader : Input
  pub resumed : Result Seen SessionFault
  pub reader₁ : Input
  pub has : IsTextOf reader text reader₁
  pub reads : ReadsOldSession is_done.alone.planned reader resumed reader₁
  pub writes : WritesNextPage is_done.alone.planned (place_of resumed) keep run.count is_done.end is_done.alone.out is_done.alone.out₁ is_done.session is_done.session₁

-- next runs that keep their sessions, the first over this session text, and each other one over that of the run before
abbrev pub AreNext : List ℕ → List ℕ → List Run → Type 0
AreNext plan text [] = Unit {0}
AreNext plan text (run ∷ runs) = IsNext plan text true run × AreNext plan run.text runs

-- a run after pages from place i on that were asked for that many routes: it reports the page after theirs, and leaves
-- the session text of the place after that, from which a run can go on
pub record IsPage (p : ContactPlan) (r : RouteRequest) (i asked : ℕ) (run : Run) : Type 0 where
  pub report : run.report ≡ report_from p r (place_after p r i asked) run.count
  pub text : run.text ≡ session_text p r (place_after p r i (asked + run.count))
  pub there : IsAt p r (place_after p r i (asked + run.count)) (from_text run.text)

-- such runs, one after the other
abbrev pub ArePages : ContactPlan → RouteRequest → ℕ → ℕ → List Run → Type 0
ArePages p r i asked [] = Unit {0}
ArePages p r i asked (run ∷ runs) = IsPage p r i asked run × ArePages p r i (asked + run.count) runs

-- over the text of a plan, a first run for an accepted request, and then any next runs, write the listing page by page
abbrev pub RunsInTurn : Type 0
RunsInTurn =
    (plan : List ℕ) (p : ContactPlan) (r : RouteRequest) (first : Run) (runs : List Run) → plan_of plan true ≡ Ok p → IsRequest r
    → IsFirst plan r first → AreNext plan first.text runs → ArePages p r 0 0 (first ∷ runs)

-- how many routes the runs were asked for together
abbrev pub asked_of : List Run → ℕ
asked_of [] = 0
asked_of (run ∷ runs) = run.count + asked_of runs

-- the session text that the last of them wrote
abbrev pub text_left : List ℕ → List Run → List ℕ
text_left text [] = text
text_left text (run ∷ runs) = text_left run.text runs

-- the pages of the runs, joined, after pages from place i on that were asked for that many routes
abbrev pub pages_given : ContactPlan → RouteRequest → ℕ → ℕ → List Run → List (List ℕ)
pages_given p r i asked [] = []
pages_given p r i asked (run ∷ runs) = page_of p r (place_after p r i asked) run.count ++ pages_given p r i (asked + run.count) runs

-- the runs report page by page; these pages joined are the next routes of the listing; the text left is that of the
-- place after them; and a run over it that keeps no session reports the page from there
pub record GoOnFrom (plan text : List ℕ) (p : ContactPlan) (r : RouteRequest) (i : ℕ) (runs : List Run) : Type 0 where
  pub each : ArePages p r i 0 runs
  pub joined : pages_given p r i 0 runs ≡ page_of p r i (asked_of runs)
  pub left : IsAt p r (place_after p r i (asked_of runs)) (from_text (text_left text runs))
  pub last : (run : Run) → IsNext plan (text_left text runs) false run → run.report ≡ report_from p r (place_after p r i (asked_of runs)) run.count

-- over the text of a plan, from any text that verifying accepts
abbrev pub RunsGoOn : Type 0
RunsGoOn =
    (plan text : List ℕ) (p : ContactPlan) (r : RouteRequest) (i : ℕ) (runs : List Run) → plan_of plan true ≡ Ok p
    → IsAt p r i (from_text text) → AreNext plan text runs → GoOnFrom plan text p r i runs

-- ---- what a run `next` leaves over the session text of a place of the listing

-- if a run ended well and wrote its session, that is the text of place i, from which a run can go on
abbrev pub KeepsPlace : Bool → ContactPlan → RouteRequest → ℕ → Result (Unit {0}) Failure → Type 0
KeepsPlace keep p r i end = IfOk end (λ _. IsTrue keep → IsAt p r i (from_text (session_text p r i)))

-- what a run leaves that lists the page from place i on: its report, and the session of the place after it
abbrev pub WritesPageFrom : Bool → ContactPlan → RouteRequest → ℕ → ℕ → Result (Unit {0}) Failure → Output → Output → Output → Output → Type 0
WritesPageFrom keep p r i count end old new old₁ new₁ =
    WritesPage keep p (report_from p r i count) (r, state_at p r (place_after p r i count)) end old new old₁ new₁ × KeepsPlace keep p r (place_after p r i count) end

-- a reader's text is these bytes: for any bytes read of it, a next run leaves the page from place i on; or the
-- reader failed, and nothing is written
abbrev pub GoesOnFrom : TabledPlan → RouteRequest → ℕ → List ℕ → Type 0
GoesOnFrom p r i bytes =
    (reader : Input) (resumed : Result Seen SessionFault) (reader₁ : Input) → IsTextOf reader bytes reader₁ → ReadsOldSession (Ok p) reader resumed reader₁
    → (keep : Bool) (count : ℕ) (end : Result (Unit {0}) Failure) (old new old₁ new₁ : Output) → WritesNextPage (Ok p) (place_of resumed) keep count end old new old₁ new₁
    → WritesPageFrom keep p.plan r i count end old new old₁ new₁
    ⊎ ((reader₁.failures ≡ reader.failures + 1) × (end ≡ Err failure.SessionRead) × (new ≡ old) × (new₁ ≡ old₁))

-- over every accepted plan, from every session text of a place
abbrev pub NextGoesOn : Type 0
NextGoesOn = (p : TabledPlan) (bytes : List ℕ) → IsPlan p.plan → (text : IsSessionText p.plan bytes) → GoesOnFrom p text.request text.place bytes

-- ---- many lines answered in one run, beside a run of its own for each of them

-- a run that is over a reader of this text of lines, too, did what was asked of it, and wrote these bytes
pub record IsMany (plan text : List ℕ) (kind : AnswerKind) (bytes : List ℕ) : Type 0 where
  pub alone : IsAlone plan bytes
  pub asked : Input
  pub requested : Result (List AskedLine) LinesFault
  pub asked₁ : Input
  pub asks : IsTextOf asked text asked₁
  pub reads_asked : ReadsLinesOver (form_of kind) alone.planned asked requested asked₁
  pub end : Result (Unit {0}) Failure
  pub done : status_at end ≡ status.Done
  pub writes : WritesAnswers alone.planned requested kind end alone.out alone.out₁

-- a run is a first one for this request, with this count, that ends with status 0; it keeps its session or not
pub record IsFirstReport (plan : List ℕ) (r : RouteRequest) (count : ℕ) (report : List ℕ) : Type 0 where
  pub alone : IsAlone plan report
  pub keep : Bool
  pub end : Result (Unit {0}) Failure
  pub done : status_at end ≡ status.Done
  pub session : Output
  pub session₁ : Output
  pub writes : WritesFirstPage alone.planned r keep count end alone.out alone.out₁ session session₁

-- it is an explain run of these contacts for this request that ends with an answer, and so with status 0 or 1
pub record IsExplained (plan : List ℕ) (r : RouteRequest) (contacts report : List ℕ) : Type 0 where
  pub alone : IsAlone plan report
  pub answer : Bool
  pub writes : WritesExplanation alone.planned r contacts (Ok answer) alone.out alone.out₁

-- the report of a run of its own for what a line asks
abbrev pub IsReport : List ℕ → AnswerKind → AskedLine → List ℕ → Type 0
IsReport plan (FirstRoutes count) x report = IsFirstReport plan x.asked.request count report
IsReport plan Explanation x report = IsExplained plan x.asked.request x.asked.contacts report

-- the reports of such runs over the plan, one for each line
abbrev pub AreReports : List ℕ → AnswerKind → List AskedLine → List (List ℕ) → Type 0
AreReports plan kind [] [] = Unit {0}
AreReports plan kind (x ∷ xs) (report ∷ reports) = IsReport plan kind x report × AreReports plan kind xs reports
AreReports plan kind _ _ = ⊥

-- the lines, each after a word and with its report after it
abbrev pub reports_of : AnswerKind → List AskedLine → List (List ℕ) → List ℕ
reports_of kind (x ∷ xs) (report ∷ reports) = (heading kind x.line ++ report) ++ reports_of kind xs reports
reports_of kind _ _ = []

-- over the texts of a plan and of lines, that run writes these reports, each after its line
abbrev pub AnswersAsAlone : AnswerKind → Type 0
AnswersAsAlone kind =
    (plan text : List ℕ) (p : ContactPlan) (xs : List AskedLine) (bytes : List ℕ) (reports : List (List ℕ))
    → plan_of plan true ≡ Ok p → asked_by (form_of kind) text ≡ Ok xs → IsMany plan text kind bytes → AreReports plan kind xs reports → bytes ≡ reports_of kind xs reports

-- a run `many` writes what first runs report
abbrev pub ManyAnswersAsFirst : Type 0
ManyAnswersAsFirst = (count : ℕ) → AnswersAsAlone (FirstRoutes count)

-- a run `follow` writes what explain runs report
abbrev pub FollowAnswersAsExplain : Type 0
FollowAnswersAsExplain = AnswersAsAlone Explanation
