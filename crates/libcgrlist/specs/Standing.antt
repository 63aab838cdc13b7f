-- Where listings stand in the list of all routes of their request.
use Rattle.std.specs.Prelude.{◌≡◌, ℕ, List, [], Ok, Some}
use Rattle.sabr_model.specs.plan.Plan.{IsPlan}
use Rattle.sabr_model.specs.routes.Arrival.{RouteRequest}
use Rattle.sabr_frontier.specs.session.Session.{Seen}
use Rattle.sabr_session.specs.SessionPlaces.{Act, IsPlaced, Leaves}
use Rattle.sabr_session.specs.Verifying.{IsSessionText}
use Rattle.libcgrlist.specs.Listings.{AnswersBack, AnswersNext, IfOpen, OpensListing}
use Rattle.libcgrlist.specs.SessionTexts.{IsLoaded}
use Rattle.libcgrlist.specs.Opened.{OpenPlan}
use Rattle.libcgrlist.specs.Buffers.{RouteBuffers}
use Rattle.libcgrlist.specs.Status.{done}
use Rattle.libcgrlist.specs.declared.buffers.Page.{Page}

-- a listing of this request over the plan behind a handle stands after the first i routes, and nothing can be taken back
pub record Begins (o : OpenPlan) (r : RouteRequest) (i : ℕ) (s : Seen) : Type 0 where
  pub plan : s.plan ≡ o.plan
  pub request : s.request ≡ r
  pub former : s.former ≡ []
  pub placed : IsPlaced s i

-- one that is opened begins before the first route
abbrev pub OpenedBegin : Type 0
OpenedBegin = (o n : OpenPlan) (r : RouteRequest) → OpensListing o (Ok r) done n → IfOpen n.listing (Begins o r 0)

-- one of a text that verifying accepts begins at the text's place
abbrev pub LoadedBegin : Type 0
LoadedBegin =
    (o n : OpenPlan) (bytes : List ℕ) → IsPlan o.plan.plan → (text : IsSessionText o.plan.plan bytes) → IsLoaded o bytes n
    → IfOpen n.listing (Begins o text.request text.place)

-- a call does to an open listing what one of the acts does to a session, after which it stands as `PagesStand` says
abbrev pub DoesAct : Seen → OpenPlan → Type 0
DoesAct s n = (act : Act) × IfOpen n.listing (Leaves act s)

-- so do calls for the next page, whatever they answer
abbrev pub NextActs : Type 0
NextActs =
    (o n : OpenPlan) (s : Seen) (count status : ℕ) (old new : RouteBuffers) (page : Page) → o.listing ≡ Some s
    → AnswersNext o o.listing count status old new page n → DoesAct s n

-- and calls that take a page back
abbrev pub BackActs : Type 0
BackActs = (o n : OpenPlan) (s : Seen) (status : ℕ) → o.listing ≡ Some s → AnswersBack o status n → DoesAct s n
