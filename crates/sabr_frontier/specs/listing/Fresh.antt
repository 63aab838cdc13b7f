-- What any steps from a well-formed state give, also after pages and steps back: new routes.
use Rattle.std.specs.Prelude.{◌≡◌, ℕ, ◌<◌, ◌⊎◌, List, ◌∷◌, length, Some, None, IsTrue, [], flat_map, Option}
use Rattle.sabr_model.specs.plan.Plan.{ContactPlan, IsPlan}
use Rattle.sabr_model.specs.routes.Arrival.{RouteRequest}
use Rattle.sabr_model.specs.routes.Route.{is_route}
use Rattle.sabr_frontier.specs.listing.State.{State, Member, InPairs}
use Rattle.sabr_frontier.specs.listing.Listing.{IsState, leaves_in, next_route, steps}

-- k steps from s give routes, none of them a leaf of s and none twice. After them, all of these and the leaves of s are
-- leaves. The first is the least that a part carries. There are k of them, or no part carries one then.
pub record GivesNewRoutes (p : ContactPlan) (r : RouteRequest) (k : ℕ) (s : State) : Type 0 where
  pub formed : IsState p r (steps p r k s).1
  pub routes : (x : List ℕ) → Member x (steps p r k s).0 → IsTrue (is_route p r x)
  pub unseen : (x : List ℕ) → Member x (steps p r k s).0 → Member x (leaves_in p r s) → ⊥
  pub once : InPairs (λ x y. x ≡ y → ⊥) (steps p r k s).0
  pub seen_then : (x : List ℕ) → Member x (steps p r k s).0 ⊎ Member x (leaves_in p r s) → Member x (leaves_in p r (steps p r k s).1)
  pub first : (x : List ℕ) → 0 < k → next_route p r s ≡ Some x → (xs : List (List ℕ)) × ((steps p r k s).0 ≡ x ∷ xs)
  pub all : (length (steps p r k s).0 ≡ k) ⊎ (next_route p r (steps p r k s).1 ≡ None)

-- ---- the state of a session after any pages and steps back, and what the pages gave that weren't taken back

-- a page that gave routes, and the state before it
pub record PageGiven : Type 0 where
  pub start : State
  pub routes : List (List ℕ)

-- the state, and the pages that gave routes and weren't taken back, the latest first
pub record Standing : Type 0 where
  pub state : State
  pub pages : List PageGiven

-- no page was given yet
abbrev pub standing_at : State → Standing
standing_at s = record { state = s; pages = [] }

-- a page from s comes before the others if it gave routes
abbrev pub page_then : List (List ℕ) → State → List PageGiven → List PageGiven
page_then [] s pages = pages
page_then (x ∷ xs) s pages = record { start = s; routes = x ∷ xs } ∷ pages

-- a page of at most k routes is given
abbrev pub paged : ContactPlan → RouteRequest → ℕ → Standing → Standing
paged p r k t = let page = steps p r k t.state in record { state = page.1; pages = page_then page.0 t.state t.pages }

-- the latest page is taken back, if there is one
abbrev pub gone_back : Standing → Standing
gone_back t = elim t.pages [ [] ↦ t | page ∷ pages ↦ record { state = page.start; pages = pages } ]

-- calls in turn: `Some k` is a page of at most k routes, and `None` is a step back
abbrev pub after_calls : ContactPlan → RouteRequest → List (Option ℕ) → Standing → Standing
after_calls p r [] t = t
after_calls p r (Some k ∷ calls) t = after_calls p r calls (paged p r k t)
after_calls p r (None ∷ calls) t = after_calls p r calls (gone_back t)

-- the routes of the pages that weren't taken back
abbrev pub routes_given : Standing → List (List ℕ)
routes_given t = flat_map (λ page. page.routes) t.pages

-- the pages since the state s that weren't taken back gave routes, none of them a leaf of s and none twice. So does a
-- further page: its first route is the least that a part carries, and it has k routes or leaves none to be given.
pub record StandsForNewRoutes (p : ContactPlan) (r : RouteRequest) (s : State) (t : Standing) : Type 0 where
  pub formed : IsState p r t.state
  pub routes : (x : List ℕ) → Member x (routes_given t) → IsTrue (is_route p r x)
  pub unseen : (x : List ℕ) → Member x (routes_given t) → Member x (leaves_in p r s) → ⊥
  pub once : InPairs (λ x y. x ≡ y → ⊥) (routes_given t)
  pub next : (k : ℕ) → GivesNewRoutes p r k t.state

-- from every well-formed state, even one of no place of the list, after any pages and steps back
abbrev pub PagesGiveNewRoutes : Type 0
PagesGiveNewRoutes =
    (p : ContactPlan) (r : RouteRequest) (s : State) (calls : List (Option ℕ)) → IsPlan p → IsState p r s
    → StandsForNewRoutes p r s (after_calls p r calls (standing_at s))
