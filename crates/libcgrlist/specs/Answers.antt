-- What C asks, and the answers: the best route of a request, its first routes, the best routes to many destinations.
use Rattle.std.specs.Prelude.{◌≡◌, ◌≢◌, ℕ, ◌⊎◌, nat_lt, Bool, List, [], ◌∷◌, map, Result, Ok, Err, Option, None, Some, if◌then◌else◌, ◌≤◌, is_some, length, take, ◌==◌, ◌<◌, drop, slice_index_or}
use Rattle.sabr_model.specs.declared.fault.RequestError.{RequestError}
use Rattle.sabr_model.specs.plan.Plan.{ContactPlan, TabledPlan}
use Rattle.sabr_model.specs.routes.Arrival.{RouteRequest}
use Rattle.sabr_model.specs.routes.Listing.{routes}
use Rattle.sabr_model.specs.routes.Record.{RouteRecord, record_of}
use Rattle.sabr_frontier.specs.listing.Listing.{most_routes, next_route, state_at, steps}
use Rattle.libcgrlist.specs.Buffers.{IsPage, RouteBuffers, row_of, PutsWhole}
use Rattle.libcgrlist.specs.Status.{refused_or, done, no, no_memory, no_room, request_status, value_count}
use Rattle.libcgrlist.specs.declared.buffers.RouteRow.{RouteRow}
use Rattle.libcgrlist.specs.declared.buffers.Page.{Page}
use Rattle.std.specs.List.{All}
use Rattle.sabr_frontier.specs.session.LastPage.{LastSeen}
use Rattle.sabr_model.specs.routes.Asking.{limit_refusal, most_hops, request_refusal, unlimited, with_limits}
use Rattle.libcgrlist.specs.declared.best.Asked.{Asked}
use Rattle.libcgrlist.specs.declared.reach.Reach.{Reach}

-- a limit of 0 hops is no limit
abbrev pub hops_asked : ℕ → ℕ
hops_asked n = if n == 0 then most_hops else n

-- the request, or the first reason to refuse it
abbrev pub asked_request : Asked → List ℕ → Result RouteRequest RequestError
asked_request a avoid =
    let r = unlimited a.from a.to a.at a.margin_ppm in
    refused_or (request_refusal a.from a.to a.at a.margin_ppm)
    (refused_or (limit_refusal r (hops_asked a.max_hops) avoid) (Ok (with_limits r (hops_asked a.max_hops) avoid)))

-- the first routes of the list of all routes, best first: `count` of them, or all if they are fewer
abbrev pub first_routes : ContactPlan → RouteRequest → ℕ → List RouteRecord
first_routes p r count = map (record_of p r) (take count (routes p r))

-- whether the list goes on after them
abbrev pub goes_on_after : ContactPlan → RouteRequest → ℕ → Bool
goes_on_after p r count = nat_lt count (length (routes p r))

-- a last page has them, over this plan; none has more contacts than a route may have
pub record IsFirst (p : TabledPlan) (r : RouteRequest) (count : ℕ) (l : LastSeen) : Type 0 where
  pub plan : l.plan ≡ p
  pub routes : l.routes ≡ first_routes p.plan r count
  pub more : l.more ≡ goes_on_after p.plan r count
  pub few : length l.routes ≤ count
  pub short : All (λ a. length a.contacts ≤ 20000) l.routes

-- a last page has the first routes that steps give, over this plan
pub record IsLastOf (p : TabledPlan) (r : RouteRequest) (count : ℕ) (l : LastSeen) : Type 0 where
  pub plan : l.plan ≡ p
  pub routes : l.routes ≡ map (record_of p.plan r) (steps p.plan r count (state_at p.plan r 0)).0
  pub more : l.more ≡ is_some (next_route p.plan r (steps p.plan r count (state_at p.plan r 0)).1)

-- the status of a page: done if all of it was written
abbrev pub page_status : Page → ℕ
page_status page = if nat_lt page.written page.routes then no_room else done

-- this holds unless routes are written, as they are with these statuses alone
abbrev pub UnlessWritten : ℕ → Type 0 → Type 0
UnlessWritten status P = status ≢ done → status ≢ no_room → P

-- the first of some routes, if there is one: its row is written, and its contact numbers if there is room for them
abbrev pub WritesBest : List RouteRecord → ℕ → RouteRow → List ℕ → List ℕ → Type 0
WritesBest [] status row old new = status ≡ no
WritesBest (a ∷ _) status row old new = (row ≡ row_of 0 a) × PutsWhole a.contacts status old new

-- a route, if there is one
abbrev pub none_or_one : Option RouteRecord → List RouteRecord
none_or_one None = []
none_or_one (Some a) = a ∷ []

-- the request is refused; or its best route over a plan is written, or an allocation fails
abbrev pub AnswersBest : ContactPlan → Result RouteRequest RequestError → ℕ → RouteRow → List ℕ → List ℕ → Type 0
AnswersBest p (Err e) status row old new = status ≡ request_status e
AnswersBest p (Ok r) status row old new = (status ≡ no_memory) ⊎ WritesBest (map (record_of p r) (routes p r)) status row old new

-- a page may have at most that many routes
abbrev pub count_refusal : ℕ → Option ℕ
count_refusal count = if nat_lt most_routes count then Some value_count else None

-- a page is written, with its status
abbrev pub WritesPage : List RouteRecord → Bool → ℕ → RouteBuffers → RouteBuffers → Page → Type 0
WritesPage given goes_on status old new page = IsPage given goes_on old new page × (status ≡ page_status page)

-- the request, or the status of its refusal
abbrev pub asked_status : Result RouteRequest RequestError → Result RouteRequest ℕ
asked_status (Err e) = Err (request_status e)
asked_status (Ok r) = Ok r

-- the request of a page of that many routes, or the status of the refusal of its count or its request
abbrev pub asked_page : ℕ → Result RouteRequest RequestError → Result RouteRequest ℕ
asked_page count asked = refused_or (count_refusal count) (asked_status asked)

-- it is refused; or the first routes are written, or an allocation fails
abbrev pub AnswersFirst : ContactPlan → ℕ → Result RouteRequest ℕ → ℕ → RouteBuffers → RouteBuffers → Page → Type 0
AnswersFirst p count (Err s) status old new page = status ≡ s
AnswersFirst p count (Ok r) status old new page = (status ≡ no_memory) ⊎ WritesPage (first_routes p r count) (goes_on_after p r count) status old new page

-- what is asked, with this destination
abbrev pub asked_to : Asked → ℕ → Asked
asked_to a n = record a { to = n }

-- no route, for this reason
abbrev pub unreached : ℕ → Reach
unreached status = record { delivery = 0; until = 0; entry = 0; hops = 0; status = status }

-- the first of some routes, if there is one
abbrev pub first_reach : List RouteRecord → Reach
first_reach [] = unreached no
first_reach (a ∷ _) = record { delivery = a.delivery; until = a.until; entry = a.entry; hops = length a.contacts; status = done }

-- the best route of a request over a plan, or why there is none
abbrev pub reach_of : ContactPlan → Result RouteRequest RequestError → Reach
reach_of p (Err e) = unreached (request_status e)
reach_of p (Ok r) = first_reach (map (record_of p r) (routes p r))

-- it is this, or an allocation failed
abbrev pub IsReachOf : ContactPlan → Result RouteRequest RequestError → Reach → Type 0
IsReachOf p asked reach = (reach ≡ reach_of p asked) ⊎ (reach ≡ unreached no_memory)

-- the front of a buffer has the best routes to these destinations, one after another, and the rest of it stays
pub record AreReaches (p : ContactPlan) (a : Asked) (avoid to : List ℕ) (old new : List Reach) : Type 0 where
  pub count : length new ≡ length old
  pub each : (k : ℕ) → k < length to → IsReachOf p (asked_request (asked_to a (slice_index_or to k 0)) avoid) (slice_index_or new k (unreached 0))
  pub rest : drop (length to) new ≡ drop (length to) old

-- there is no room for all of them, or an allocation fails, and nothing is written; or all of them are
abbrev pub AnswersReaches : ContactPlan → Asked → List ℕ → List ℕ → ℕ → List Reach → List Reach → Type 0
AnswersReaches p a avoid to status old new =
    ((status ≡ no_room) × (length old < length to) × (new ≡ old))
    ⊎ (((status ≡ no_memory) × (new ≡ old)) ⊎ ((status ≡ done) × AreReaches p a avoid to old new))
