-- What reading a session text leaves if its session is paused, and the loader that its lines lead to.
use Rattle.std.specs.Prelude.{◌≡◌, true, [], IfOk, Result, Ok, Err, List, Option, Some, None, unwrap_or}
use Rattle.sabr_model.specs.plan.Plan.{TabledPlan}
use Rattle.sabr_search.specs.questions.Calls.{Calls, no_calls}
use Rattle.sabr_frontier.specs.declared.session.paused.PausedSession.{PausedSession}
use Rattle.sabr_frontier.specs.listing.Listing.{IsState}
use Rattle.sabr_frontier.specs.session.Paused.{IsPausedOver, seen_over, state_of}
use Rattle.sabr_frontier.specs.session.Session.{Seen}
use Rattle.sabr_session.specs.SessionFed.{IsSessionFrom, OpenText, outcome_of}
use Rattle.sabr_session.specs.declared.session_fault.SessionFault.{SessionFault}
use Rattle.sabr_model.specs.routes.Arrival.{RouteRequest}
use Rattle.sabr_model.specs.routes.Asking.{unlimited}
use Rattle.sabr_frontier.specs.listing.State.{PartState}
use Rattle.sabr_frontier.specs.loading.Loading.{Loaded}

-- a result with what its session shows over the plan
abbrev pub shown_over : {B A : Type 0} → (B → Calls) → TabledPlan → Result (PausedSession B A) SessionFault → Result Seen SessionFault
shown_over calls_of plan (Ok s) = Ok (seen_over calls_of plan s)
shown_over calls_of plan (Err f) = Err f

-- the text has ended after what was fed, and its session was paused over its plan, in a well-formed state; a text that
-- was refused before is refused again
abbrev pub IsFinishedPaused : {B A : Type 0} → (B → Calls) → Result OpenText SessionFault → Result (PausedSession B A) SessionFault → Type 0
IsFinishedPaused calls_of (Ok t) answer =
    IsSessionFrom t.plan (outcome_of t [] true) (shown_over calls_of t.plan answer)
    × IfOk answer (IsPausedOver t.plan)
    × IfOk answer (λ s. calls_of s.searcher.finder ≡ t.calls)
    × IfOk answer (λ s. IsState t.plan.plan s.searcher.request (state_of s))
IsFinishedPaused calls_of (Err f) answer = answer ≡ Err f

-- ---- what the lines of a session text lead to: a loader, from the request on

-- the finder's calls, before the request and after it
abbrev pub calls_by : Option Calls → Option Loaded → Calls
calls_by calls None = unwrap_or calls no_calls
calls_by calls (Some l) = l.calls

-- the request
abbrev pub request_by : Option Loaded → RouteRequest
request_by None = unlimited 0 0 0 0
request_by (Some l) = l.request

-- the parts so far
abbrev pub parts_by : Option Loaded → List PartState
parts_by None = []
parts_by (Some l) = l.parts

-- there is a finder, or a loader over the plan
abbrev pub HasFinder : {B : Type 0} → TabledPlan → Option B → Option Loaded → Type 0
HasFinder plan (Some finder) None = Unit {0}
HasFinder plan None (Some l) = l.plan ≡ plan
HasFinder plan None None = ⊥
HasFinder plan (Some finder) (Some l) = ⊥
