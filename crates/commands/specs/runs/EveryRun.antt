-- Runs of a session: what happens to it, where that leads, and what every run gives of the listing.
use Rattle.std.specs.Prelude.{◌≡◌, ℕ, ◌+◌, nat_lt, true, is_some, List, [], ◌∷◌, ◌++◌, length, Ok}
use Rattle.sabr_model.specs.plan.Plan.{ContactPlan, IsPlan}
use Rattle.sabr_model.specs.routes.Arrival.{RouteRequest}
use Rattle.sabr_model.specs.routes.Asking.{IsRequest}
use Rattle.sabr_model.specs.routes.Listing.{routes, page_of}
use Rattle.sabr_plan.specs.Canonical.{digest_of}
use Rattle.sabr_frontier.specs.listing.State.{State}
use Rattle.sabr_frontier.specs.listing.Listing.{state_at, steps, next_route}
use Rattle.sabr_session.specs.SessionText.{text_of, HasText, session_text}
use Rattle.sabr_session.specs.SessionRead.{IsSessionOf}
use Rattle.sabr_session.specs.Verifying.{IsSessionText}

-- what happens to a session: a page of that many routes is answered; a page is refused; the session is written and its
-- text is read; its text is not read, since memory is refused, and stays
pub data Event : Type 0 where
  answered : ℕ → Event
  refused : Event
  reread : Event
  unread : Event

-- where an event leads from a request and a state: the routes that it gives, and the request and the state after it
abbrev pub LeadsTo : ContactPlan → Event → RouteRequest × State → List (List ℕ) → RouteRequest × State → Type 0
LeadsTo p (answered k) x given y = (given ≡ (steps p x.0 k x.1).0) × (y ≡ (x.0, (steps p x.0 k x.1).1))
LeadsTo p refused x given y = (given ≡ []) × (y ≡ x)
LeadsTo p reread x given y = (given ≡ []) × HasText x.1 × IsSessionOf p (digest_of p) (text_of (digest_of p) x.0 x.1) true (Ok y)
LeadsTo p unread x given y = (given ≡ []) × (y ≡ x)

-- where events lead, one after the other, and the routes of their pages, joined
abbrev pub EventsLeadTo : ContactPlan → List Event → RouteRequest × State → List (List ℕ) → RouteRequest × State → Type 0
EventsLeadTo p [] x given y = (given ≡ []) × (y ≡ x)
EventsLeadTo p (e ∷ es) x given y =
    (first : List (List ℕ)) × (z : RouteRequest × State) × (rest : List (List ℕ)) × LeadsTo p e x first z × EventsLeadTo p es z rest y × (given ≡ first ++ rest)

-- how a run begins: with a session just started, or with the text of one
pub data Beginning : Type 0 where
  started : Beginning
  from_text : List ℕ → Beginning

-- the place of the listing at which a run begins: 0 for a session just started; for a text, which has to be one that
-- verifying accepts, the place that it is of
abbrev pub IsAt : ContactPlan → RouteRequest → ℕ → Beginning → Type 0
IsAt p r i started = i ≡ 0
IsAt p r i (from_text bytes) = (text : IsSessionText p bytes) × (text.request ≡ r) × (text.place ≡ i)

-- the request and the state that a run begins with: those of place 0, or those that are read of the text
abbrev pub BeginsWith : ContactPlan → RouteRequest → Beginning → RouteRequest × State → Type 0
BeginsWith p r started x = x ≡ (r, state_at p r 0)
BeginsWith p r (from_text bytes) x = IsSessionOf p (digest_of p) bytes true (Ok x)

-- a run: what it begins with, and where its events lead from there
abbrev pub IsRun : ContactPlan → RouteRequest → Beginning → List Event → List (List ℕ) → RouteRequest × State → Type 0
IsRun p r beginning events given y = (x : RouteRequest × State) × BeginsWith p r beginning x × EventsLeadTo p events x given y

-- how many routes the answered pages were asked for together
abbrev pub asked_for : List Event → ℕ
asked_for [] = 0
asked_for (answered k ∷ es) = k + asked_for es
asked_for (_ ∷ es) = asked_for es

-- wherever these events write a session, from place i on, it has a text
abbrev pub HaveTexts : ContactPlan → RouteRequest → ℕ → List Event → Type 0
HaveTexts p r i [] = Unit {0}
HaveTexts p r i (answered k ∷ es) = HaveTexts p r (i + length (page_of p r i k)) es
HaveTexts p r i (reread ∷ es) = HasText (state_at p r i) × HaveTexts p r i es
HaveTexts p r i (_ ∷ es) = HaveTexts p r i es

-- what a run from place i gives: the pages joined are the next routes of the listing, as many as they were asked for or
-- all that are left; it stands at the place after them, so its text is the one of that place; and a route is left
-- exactly if the listing goes on
pub record FollowsListing (p : ContactPlan) (r : RouteRequest) (i : ℕ) (events : List Event) (given : List (List ℕ)) (y : RouteRequest × State) : Type 0 where
  pub pages : given ≡ page_of p r i (asked_for events)
  pub place : y ≡ (r, state_at p r (i + length given))
  pub text : text_of (digest_of p) y.0 y.1 ≡ session_text p r (i + length given)
  pub more : is_some (next_route p y.0 y.1) ≡ nat_lt (i + length given) (length (routes p r))

-- every list of events has a run from every beginning, and every run follows the listing
pub record RunsFollow (p : ContactPlan) (r : RouteRequest) : Type 0 where
  pub has_run : (i : ℕ) (beginning : Beginning) (events : List Event) → IsAt p r i beginning → HaveTexts p r i events
      → (given : List (List ℕ)) × (y : RouteRequest × State) × IsRun p r beginning events given y
  pub follows : (i : ℕ) (beginning : Beginning) (events : List Event) (given : List (List ℕ)) (y : RouteRequest × State)
      → IsAt p r i beginning → IsRun p r beginning events given y → FollowsListing p r i events given y

-- over every accepted plan, for every accepted request
abbrev pub EveryRunFollows : Type 0
EveryRunFollows = (p : ContactPlan) (r : RouteRequest) → IsPlan p → IsRequest r → RunsFollow p r
