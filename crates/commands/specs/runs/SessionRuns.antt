-- What a run leaves on its writers that keeps a session, goes on from one, or verifies one.
use Rattle.std.specs.Prelude.{◌≡◌, ℕ, ◌+◌, ◌⊎◌, nat_lt, Bool, true, false, is_some, IsTrue, List, Result, Ok, Err, map, length, codes, if◌then◌else◌}
use Rattle.sabr_model.specs.plan.Plan.{ContactPlan, TabledPlan}
use Rattle.sabr_model.specs.routes.Arrival.{RouteRequest}
use Rattle.sabr_model.specs.routes.Listing.{routes, page_of}
use Rattle.sabr_model.specs.routes.Record.{record_of}
use Rattle.sabr_model.specs.Devices.{Input, Output, WrittenAndFlushed, WrittenInPart}
use Rattle.sabr_plan.specs.declared.fault.PlanFault.{PlanFault}
use Rattle.sabr_frontier.specs.listing.State.{State}
use Rattle.sabr_frontier.specs.session.Session.{Seen}
use Rattle.sabr_frontier.specs.listing.Listing.{state_at, steps, next_route}
use Rattle.sabr_session.specs.ReportText.{report_text}
use Rattle.sabr_plan.specs.Canonical.{digest_of}
use Rattle.sabr_session.specs.SessionText.{text_of, HasText}
use Rattle.sabr_session.specs.SessionGiven.{ReadsSession}
use Rattle.sabr_session.specs.Verifying.{VerifiesText}
use Rattle.sabr_session.specs.declared.session_fault.SessionFault.{SessionFault}
use Rattle.commands.specs.declared.failure.Failure.{Failure}
use Rattle.commands.specs.declared.failure.Failure.TheVariants as failure
use Rattle.commands.specs.texts.Messages.{failure_of_plan, failure_of_session}

-- the place after the page of that many routes from place i on
abbrev pub place_after : ContactPlan → RouteRequest → ℕ → ℕ → ℕ
place_after p r i count = i + length (page_of p r i count)

-- the report of the page from place i on: ranked from i + 1, and whether the listing goes on after it
abbrev pub report_from : ContactPlan → RouteRequest → ℕ → ℕ → List ℕ
report_from p r i count =
    report_text (map (record_of p r) (page_of p r i count)) (i + 1) (nat_lt (place_after p r i count) (length (routes p r)))

-- the report of a page that begins after that many routes, and whether a route is left after it
abbrev pub report_after : ContactPlan → RouteRequest → ℕ → List (List ℕ) × State → List ℕ
report_after p r given page = report_text (map (record_of p r) page.0) (given + 1) (is_some (next_route p r page.1))

-- the report of at most `count` steps from a state, ranked on from the routes that it counts as given
abbrev pub next_report : ContactPlan → RouteRequest → State → ℕ → List ℕ
next_report p r s count = report_after p r s.emitted (steps p r count s)

-- the text of a request and a state over a plan
abbrev pub text_over : ContactPlan → RouteRequest × State → List ℕ
text_over p x = text_of (digest_of p) x.0 x.1

-- what a page leaves on the session's writer: if the session after it is written, it has a text, and that was taken,
-- whole and flushed; if it isn't, the writer is as it was
abbrev pub LeavesSession : Bool → ContactPlan → RouteRequest × State → Output → Output → Type 0
LeavesSession true p x old new = HasText x.1 × WrittenAndFlushed old (text_over p x) new
LeavesSession false p x old new = new ≡ old

-- what a page over a plan leaves on `out` and on the session's writer: the report, whole and flushed, and the session
-- after it; or, if one of them failed, a beginning of the report and no session, or the report, whole and flushed, and
-- a beginning of the session; or nothing if memory was refused
abbrev pub WritesPage : Bool → ContactPlan → List ℕ → RouteRequest × State → Result (Unit {0}) Failure → Output → Output → Output → Output → Type 0
WritesPage keep p report x (Ok _) old new old₁ new₁ =
    WrittenAndFlushed old report new × LeavesSession keep p x old₁ new₁
WritesPage keep p report x (Err failure.Write) old new old₁ new₁ =
    (WrittenInPart old report new × (new₁ ≡ old₁))
    ⊎ (IsTrue keep × WrittenAndFlushed old report new × WrittenInPart old₁ (text_over p x) new₁)
WritesPage keep p report x (Err failure.NoMemory) old new old₁ new₁ =
    (new ≡ old) × (new₁ ≡ old₁)
WritesPage keep p report x (Err _) old new old₁ new₁ = ⊥

-- what a first run leaves over what reading gave: over a plan the report of the first page and the session of the place
-- that it reaches; nothing if the plan was refused
abbrev pub WritesFirstPage : Result TabledPlan PlanFault → RouteRequest → Bool → ℕ → Result (Unit {0}) Failure → Output → Output → Output → Output → Type 0
WritesFirstPage (Err fault) r keep count end old new old₁ new₁ =
    (end ≡ Err (failure_of_plan fault)) × (new ≡ old) × (new₁ ≡ old₁)
WritesFirstPage (Ok p) r keep count end old new old₁ new₁ =
    WritesPage keep p.plan (report_from p.plan r 0 count) (r, state_at p.plan r (place_after p.plan r 0 count)) end old new old₁ new₁

-- the request and the state of an old session
abbrev pub place_of : Result Seen SessionFault → Result (RouteRequest × State) SessionFault
place_of (Ok s) = Ok (s.request, s.state)
place_of (Err fault) = Err fault

-- an old session is read over what reading the plan gave: if the plan was refused it isn't, and nothing is asked of
-- the answer
abbrev pub ReadsOldSession : Result TabledPlan PlanFault → Input → Result Seen SessionFault → Input → Type 0
ReadsOldSession (Err fault) old answer new = new ≡ old
ReadsOldSession (Ok p) old answer new = ReadsSession p old answer new

-- what a next run leaves over what reading the plan and then the session gave: the report of the steps from that
-- session's state, and the session of the state that they reach; nothing if either was refused, the plan first
abbrev pub WritesNextPage : Result TabledPlan PlanFault → Result (RouteRequest × State) SessionFault → Bool → ℕ → Result (Unit {0}) Failure → Output → Output → Output → Output → Type 0
WritesNextPage (Err fault) session keep count end old new old₁ new₁ =
    (end ≡ Err (failure_of_plan fault)) × (new ≡ old) × (new₁ ≡ old₁)
WritesNextPage (Ok p) (Err fault) keep count end old new old₁ new₁ =
    (end ≡ Err (failure_of_session fault)) × (new ≡ old) × (new₁ ≡ old₁)
WritesNextPage (Ok p) (Ok s) keep count end old new old₁ new₁ =
    WritesPage keep p.plan (next_report p.plan s.0 s.1 count) (s.0, (steps p.plan s.0 count s.1).1) end old new old₁ new₁

-- what a page of a listing leaves: the report of its next steps, and the session of the state that they reach
abbrev pub WritesPageOf : Seen → Bool → ℕ → Result (Unit {0}) Failure → Output → Output → Output → Output → Type 0
WritesPageOf s keep count end old new old₁ new₁ = WritesNextPage (Ok s.plan) (Ok (s.request, s.state)) keep count end old new old₁ new₁

-- an answer as a line
abbrev pub answer_line : Bool → List ℕ
answer_line answer = if answer then codes "yes\n" else codes "no\n"

-- what is written of a session that was verified: the answer as a line, whole and flushed, or a beginning of it if the
-- writer failed; nothing if the session's reader failed or memory was refused
abbrev pub WritesVerified : Result Bool SessionFault → Result Bool Failure → Output → Output → Type 0
WritesVerified (Err fault) end old new = (end ≡ Err (failure_of_session fault)) × (new ≡ old)
WritesVerified (Ok answer) (Ok verified) old new = (verified ≡ answer) × WrittenAndFlushed old (answer_line answer) new
WritesVerified (Ok answer) (Err failure.Write) old new = WrittenInPart old (answer_line answer) new
WritesVerified (Ok answer) (Err _) old new = ⊥

-- an old session is verified over what reading the plan gave: if the plan was refused it isn't read, and nothing is
-- asked of the answer
abbrev pub VerifiesOldSession : Result TabledPlan PlanFault → Input → Result Bool SessionFault → Input → Type 0
VerifiesOldSession (Err fault) old answer new = new ≡ old
VerifiesOldSession (Ok p) old answer new = VerifiesText p.plan old answer new

-- what a verifying run leaves over what reading the plan and then verifying the session gave: nothing if the plan
-- was refused
abbrev pub WritesAnswer : Result TabledPlan PlanFault → Result Bool SessionFault → Result Bool Failure → Output → Output → Type 0
WritesAnswer (Err fault) verified end old new = (end ≡ Err (failure_of_plan fault)) × (new ≡ old)
WritesAnswer (Ok p) verified end old new = WritesVerified verified end old new
