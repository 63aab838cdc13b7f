-- Laws of the definitions, over all plans and requests.
use Rattle.std.specs.Prelude.{◌≡◌, ◌≢◌, ℕ, ◌<◌, ◌≤◌, ◌↔◌, List, [], ◌++◌, IsTrue}
use Rattle.std.specs.List.{Contains, AllByRecursion}
use Rattle.std.specs.List.Sorted.{IsStrictlySortedBy}
use Rattle.std.specs.declared.option.Option.TheVariants.{Some, None}
use Rattle.sabr_model.specs.declared.contact.Contact.{Contact}
use Rattle.sabr_model.specs.Order.{same_numbers}
use Rattle.sabr_model.specs.plan.Plan.{ContactPlan, IsPlan, are_different, none_twice}
use Rattle.sabr_model.specs.routes.Arrival.{RouteRequest, arrival}
use Rattle.sabr_model.specs.routes.Route.{is_route, by_key, delivery_of}
use Rattle.sabr_model.specs.routes.Fault.{fault_of}
use Rattle.sabr_model.specs.routes.Listing.{candidates, routes}
use Rattle.sabr_model.specs.routes.Journeys.{IsJourney, MeetsNoneTwice, FirstDeliversBy, asked_at}

-- a bundle that is at the sender earlier also arrives, and no later
abbrev pub ArrivalIsMonotone : Type 0
ArrivalIsMonotone =
    (p : ContactPlan) (r : RouteRequest) (c : Contact) (t u x : ℕ) → t ≤ u → arrival p r u c ≡ Some x
    → (y : ℕ) × (arrival p r t c ≡ Some y) × (y ≤ x)

-- no route is a beginning of another
abbrev pub NoRouteBeginsAnother : Type 0
NoRouteBeginsAnother =
    (p : ContactPlan) (r : RouteRequest) (s t : List ℕ) → IsTrue (is_route p r s) → IsTrue (is_route p r (s ++ t)) → t ≡ []

-- a list has no fault if and only if it is a route
abbrev pub FaultsTellRoutes : Type 0
FaultsTellRoutes = (p : ContactPlan) (r : RouteRequest) (s : List ℕ) → (fault_of p r s ≡ None) ↔ IsTrue (is_route p r s)

-- the candidates are the lists of different numbers from 1 to n, each once
pub record IsListOfCandidates (n : ℕ) : Type 0 where
  pub members : (s : List ℕ) → Contains (candidates n) s ↔ (IsTrue (are_different s) × AllByRecursion (λ m. (0 < m) × (m ≤ n)) s)
  pub once : IsTrue (none_twice same_numbers (candidates n))

-- the same, for every n
abbrev pub CandidatesAreListed : Type 0
CandidatesAreListed = (n : ℕ) → IsListOfCandidates n

-- the list of all routes holds exactly the routes, each once, and their keys are strictly ascending
pub record IsListOfRoutes (p : ContactPlan) (r : RouteRequest) : Type 0 where
  pub members : (s : List ℕ) → Contains (routes p r) s ↔ IsTrue (is_route p r s)
  pub once : IsTrue (none_twice same_numbers (routes p r))
  pub rising : IsStrictlySortedBy (by_key p r) (routes p r)

-- the same, for every contact plan and request
abbrev pub RoutesAreListed : Type 0
RoutesAreListed = (p : ContactPlan) (r : RouteRequest) → IsPlan p → IsListOfRoutes p r

-- the list leaves no way out
pub record LeavesNoWayOut (p : ContactPlan) (r : RouteRequest) : Type 0 where
  -- the contacts of each journey that comes to no node twice are a listed route, which delivers no later
  pub listed : (s : List ℕ) (d : ℕ) → IsJourney p r s d → MeetsNoneTwice p r s → Contains (routes p r) s × (delivery_of p r s ≤ d)
  -- conversely, for each listed route there is such a journey, which ends at the delivery of the route
  pub travelled : (s : List ℕ) → Contains (routes p r) s → IsJourney p r s (delivery_of p r s) × MeetsNoneTwice p r s
  -- no journey ends before the first route delivers, and there is none at all if no route is listed
  pub first : (s : List ℕ) (d : ℕ) → IsJourney p r s d → FirstDeliversBy p r d
  -- from a later second at the source, no bundle arrives earlier
  pub later : (t d : ℕ) → r.at ≤ t → FirstDeliversBy p (asked_at r t) d → FirstDeliversBy p r d

-- the same, for every contact plan, and every request between two nodes
abbrev pub EveryWayIsListed : Type 0
EveryWayIsListed = (p : ContactPlan) (r : RouteRequest) → IsPlan p → r.source ≢ r.destination → LeavesNoWayOut p r
