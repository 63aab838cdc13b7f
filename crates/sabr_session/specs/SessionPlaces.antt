-- Where a session stands in the list of its request: what it is after pages, refusals and steps back, in any order, and
-- the place of a session that was read from a text.
use Rattle.std.specs.Prelude.{◌≡◌, ℕ, ◌+◌, ◌≤◌, nat_lt, true, is_some, List, [], ◌∷◌, length, Ok}
use Rattle.sabr_model.specs.plan.Plan.{ContactPlan, IsPlan}
use Rattle.sabr_model.specs.routes.Arrival.{RouteRequest}
use Rattle.sabr_model.specs.routes.Asking.{IsRequest}
use Rattle.sabr_model.specs.routes.Listing.{routes, page_of}
use Rattle.sabr_frontier.specs.listing.State.{State}
use Rattle.sabr_frontier.specs.listing.Listing.{next_route, state_at, steps}
use Rattle.sabr_frontier.specs.session.Session.{Seen, former_then, next_page}
use Rattle.sabr_plan.specs.Canonical.{digest_of}
use Rattle.sabr_session.specs.SessionRead.{IsSessionOf}
use Rattle.sabr_session.specs.Verifying.{IsSessionText}

-- what is done to a session: a page of at most that many routes gives these; a page is refused, or the session is
-- certified; the last page that gave routes is taken back; there is none to take back
pub data Act : Type 0 where
  paged : ℕ → List (List ℕ) → Act
  refused : Act
  back : Act
  no_back : Act

-- what an act leaves of what a session shows
abbrev pub Leaves : Act → Seen → Seen → Type 0
Leaves (paged k given) x y =
    let page = steps x.plan.plan x.request k x.state in
    (given ≡ page.0) × (y.state ≡ page.1) × (y.former ≡ former_then page.0 x.state x.former) × (y.plan ≡ x.plan) × (y.request ≡ x.request)
Leaves refused x y = y ≡ record x { calls = y.calls }
Leaves back x y = (y.state ∷ y.former ≡ x.former) × (y.plan ≡ x.plan) × (y.request ≡ x.request)
Leaves no_back x y = (x.former ≡ []) × (y ≡ x)

-- what acts leave, one after the other
abbrev pub LeaveInTurn : List Act → Seen → Seen → Type 0
LeaveInTurn [] x y = y ≡ x
LeaveInTurn (a ∷ acts) x y = (z : Seen) × Leaves a x z × LeaveInTurn acts z y

-- without the latest
abbrev pub without_latest : List ℕ → List ℕ
without_latest [] = []
without_latest (k ∷ sizes) = sizes

-- the sizes of the pages that gave routes and weren't taken back, the latest first: these, and then those of the acts
abbrev pub pages_left : List Act → List ℕ → List ℕ
pages_left [] sizes = sizes
pages_left (paged k [] ∷ acts) sizes = pages_left acts sizes
pages_left (paged k (x ∷ given) ∷ acts) sizes = pages_left acts (k ∷ sizes)
pages_left (back ∷ acts) sizes = pages_left acts (without_latest sizes)
pages_left (_ ∷ acts) sizes = pages_left acts sizes

-- the state after pages of these sizes and nothing else, the latest first; and the states before those that gave routes
abbrev pub after_pages : ContactPlan → RouteRequest → State → List ℕ → State × List State
after_pages p r s [] = (s, [])
after_pages p r s (k ∷ sizes) =
    let before = after_pages p r s sizes in
    let page = steps p r k before.0 in
    (page.1, former_then page.0 before.0 before.1)

-- how many routes these pages were asked for together
abbrev pub all_asked : List ℕ → ℕ
all_asked [] = 0
all_asked (k ∷ sizes) = all_asked sizes + k

-- a session stands after the first i routes of its list
pub record IsPlaced (s : Seen) (i : ℕ) : Type 0 where
  pub within : i ≤ length (routes s.plan.plan s.request)
  pub state : s.state ≡ state_at s.plan.plan s.request i

-- the place after a page of at most k routes
abbrev pub place_then : Seen → ℕ → ℕ → ℕ
place_then s i k = i + length (page_of s.plan.plan s.request i k)

-- its next page of at most k routes has the next ones of the list, and leads to the place after them; the list goes on
-- there if it has more
pub record IsNextPage (s : Seen) (i k : ℕ) : Type 0 where
  pub page : (next_page s k).0 ≡ page_of s.plan.plan s.request i k
  pub leads : (next_page s k).1 ≡ state_at s.plan.plan s.request (place_then s i k)
  pub more : is_some (next_route s.plan.plan s.request (next_page s k).1) ≡ nat_lt (place_then s i k) (length (routes s.plan.plan s.request))

-- y is the session x after pages of these sizes alone; where x stands at a place of the listing, y stands at the place
-- after as many routes as they were asked for, or all that are left, and goes on from there
pub record IsAfterPages (x : Seen) (sizes : List ℕ) (y : Seen) : Type 0 where
  pub plan : y.plan ≡ x.plan
  pub request : y.request ≡ x.request
  pub state : y.state ≡ (after_pages x.plan.plan x.request x.state sizes).0
  pub former : y.former ≡ (after_pages x.plan.plan x.request x.state sizes).1
  pub place : (i : ℕ) → IsPlan x.plan.plan → IsRequest x.request → IsPlaced x i → IsPlaced y (place_then x i (all_asked sizes))
  pub next : (i k : ℕ) → IsPlan x.plan.plan → IsRequest x.request → IsPlaced x i → IsNextPage y (place_then x i (all_asked sizes)) k

-- after whatever acts, a session that had no former states is that of the pages that weren't taken back
abbrev pub PagesStand : Type 0
PagesStand = (x y : Seen) (acts : List Act) → x.former ≡ [] → LeaveInTurn acts x y → IsAfterPages x (pages_left acts []) y

-- the session of a text that verifying accepts stands at the text's place
abbrev pub TextsArePlaced : Type 0
TextsArePlaced =
    (p : ContactPlan) (bytes : List ℕ) (x : RouteRequest × State) → IsPlan p → (text : IsSessionText p bytes) → IsSessionOf p (digest_of p) bytes true (Ok x)
    → x ≡ (text.request, state_at p text.request text.place)
