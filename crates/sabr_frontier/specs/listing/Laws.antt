-- Laws of the frontier: how the parts divide the routes, and how states and steps follow the list of all routes.
use Rattle.std.specs.Prelude.{◌≡◌, ℕ, ◌+◌, ◌≤◌, nat_lt, is_some, IsTrue, IsFalse, ◌⊎◌, Contains, List, length, map, slice_get, Some}
use Rattle.sabr_model.specs.plan.Plan.{ContactPlan, IsPlan}
use Rattle.sabr_model.specs.routes.Arrival.{RouteRequest}
use Rattle.sabr_model.specs.routes.Route.{is_route, before}
use Rattle.sabr_model.specs.routes.Listing.{routes, page_of}
use Rattle.sabr_model.specs.routes.Parts.{goes_on, least_in}
use Rattle.sabr_frontier.specs.listing.Tree.{tree}
use Rattle.sabr_frontier.specs.listing.State.{PartState, State, pair_of, Member}
use Rattle.sabr_frontier.specs.listing.Listing.{state_at, leaves_in, IsState, next_route, one_step, steps}

-- a route s and the parts of the tree of given routes: s was given or is in a part, never both, and in no two parts
pub record IsDivided (given : List (List ℕ)) (s : List ℕ) : Type 0 where
  pub covered : Contains given s ⊎ ((a : List ℕ × List ℕ) × Contains (tree given) a × IsTrue (goes_on a.0 a.1 s))
  pub never_both : Contains given s → (a : List ℕ × List ℕ) → Contains (tree given) a → IsFalse (goes_on a.0 a.1 s)
  pub one_part : (a b : List ℕ × List ℕ) → Contains (tree given) a → Contains (tree given) b → IsTrue (goes_on a.0 a.1 s) → IsTrue (goes_on b.0 b.1 s) → a ≡ b

-- every route was given or is in exactly one part of the tree of those given, never both
abbrev pub PartsDivide : Type 0
PartsDivide =
    (p : ContactPlan) (r : RouteRequest) (given : List (List ℕ)) → ((s : List ℕ) → Contains given s → IsTrue (is_route p r s))
    → (s : List ℕ) → IsTrue (is_route p r s) → IsDivided given s

-- each part carries its best route
abbrev pub CarriesLeast : ContactPlan → RouteRequest → State → Type 0
CarriesLeast p r s = (t : PartState) → Member t s.parts → t.carried ≡ least_in p r t.prefix t.excluded

-- each leaf's key is at most that of the last route, and less than that of every carried route
pub record LeavesComeFirst (p : ContactPlan) (r : RouteRequest) (s : State) : Type 0 where
  pub to_last : (l : List ℕ) → Member l (leaves_in p r s) → IsFalse (before p r s.last l)
  pub to_carried : (l : List ℕ) (t : PartState) (c : List ℕ) → Member l (leaves_in p r s) → Member t s.parts → t.carried ≡ Some c → IsTrue (before p r l c)

-- A well-formed state has the pairs of the tree of its leaves. If each part carries its best route and the leaves come
-- first, the state is the one of the place that it counts.
pub record IsTold (p : ContactPlan) (r : RouteRequest) (s : State) : Type 0 where
  pub pairs : map pair_of s.parts ≡ tree (leaves_in p r s)
  pub placed : IsPlan p → CarriesLeast p r s → LeavesComeFirst p r s → s ≡ state_at p r s.emitted

abbrev pub StatesAreTold : Type 0
StatesAreTold = (p : ContactPlan) (r : RouteRequest) (s : State) → IsState p r s → IsTold p r s

-- From each place before the end the one step gives the next route and leads to the next place; a route is
-- carried exactly before the end; and k steps give the next k routes, or all that are left.
pub record StepsFollowRoutes (p : ContactPlan) (r : RouteRequest) : Type 0 where
  pub next : (i : ℕ) (s : List ℕ) → slice_get (routes p r) i ≡ Some s → one_step p r (state_at p r i) ≡ Some (s, state_at p r (i + 1))
  pub carries : (i : ℕ) → i ≤ length (routes p r) → is_some (next_route p r (state_at p r i)) ≡ nat_lt i (length (routes p r))
  pub pages : (i k : ℕ) → i ≤ length (routes p r) → steps p r k (state_at p r i) ≡ (page_of p r i k, state_at p r (i + length (page_of p r i k)))

abbrev pub StepsFollow : Type 0
StepsFollow = (p : ContactPlan) (r : RouteRequest) → IsPlan p → StepsFollowRoutes p r
