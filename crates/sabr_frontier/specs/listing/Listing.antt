-- States and steps of the listing of a plan's routes.
use Rattle.std.specs.Prelude.{ℕ, ◌+◌, ◌-◌, zero, suc, Bool, false, length, List, [], ◌∷◌, map, take, Option, Some, None}
use Rattle.std.specs.List.{find}
use Rattle.std.specs.Option.{option_map_or}
use Rattle.sabr_model.specs.Order.{same_numbers}
use Rattle.sabr_model.specs.plan.Plan.{ContactPlan}
use Rattle.sabr_model.specs.routes.Arrival.{RouteRequest}
use Rattle.sabr_model.specs.routes.Route.{is_path, is_prefix, is_route, by_key}
use Rattle.sabr_model.specs.routes.Listing.{routes}
use Rattle.sabr_model.specs.routes.Parts.{least_in}
use Rattle.sabr_frontier.specs.listing.State.{PartState, State, pair_of, leaves}
use Rattle.sabr_frontier.specs.listing.Formed.{IsWellFormed}
use Rattle.sabr_frontier.specs.listing.Step.{least_carried, state_of, step}

-- the state of place i in the list of all routes: the first i were given
unfoldable pub state_at : ContactPlan → RouteRequest → ℕ → State
state_at p r i = state_of (least_in p r) (take i (routes p r))

-- the routes that a state counts as given
abbrev pub leaves_in : ContactPlan → RouteRequest → State → List (List ℕ)
leaves_in p r s = leaves (is_route p r) (map pair_of s.parts)

-- well formed, over a plan
abbrev pub IsState : ContactPlan → RouteRequest → State → Type 0
IsState p r s = IsWellFormed (is_route p r) (is_path p r) (is_prefix p r) s

-- the best route by key that a part carries
abbrev pub next_route : ContactPlan → RouteRequest → State → Option (List ℕ)
next_route p r s = least_carried (by_key p r) s.parts

-- the state after that route is given: the leaves are one more, the pairs are their tree, the earlier parts keep what
-- they carried, and every other part carries its least
abbrev pub one_step : ContactPlan → RouteRequest → State → Option (List ℕ × State)
one_step p r s = step (is_route p r) (least_in p r) (by_key p r) s

-- a route given first, and what further steps give
abbrev pub given_first : List ℕ → List (List ℕ) × State → List (List ℕ) × State
given_first s rest = (s ∷ rest.0, rest.1)

-- the largest number of routes of a page
abbrev pub most_routes : ℕ
most_routes = 10000

-- at most k steps in a row: the routes given and the state that is left; fewer if no part carries a route
unfoldable pub steps : ContactPlan → RouteRequest → ℕ → State → List (List ℕ) × State
steps p r zero s = ([], s)
steps p r (suc k) s = elim (one_step p r s) [ None ↦ ([], s) | Some w ↦ given_first w.0 (steps p r k w.1) ]

-- the part carries this route
abbrev pub carries_it : List ℕ → PartState → Bool
carries_it s u = option_map_or (same_numbers s) u.carried false

-- the number of searches that it takes to give a route that a state carries: one for each hop after the prefix of the
-- part that carries it
unfoldable pub searches_for : State → List ℕ → ℕ
searches_for state s = option_map_or (λ u. length s - length u.prefix) (find (carries_it s) state.parts) 0

-- the number of searches that at most k steps take
unfoldable pub searches_in : ContactPlan → RouteRequest → ℕ → State → ℕ
searches_in p r zero s = 0
searches_in p r (suc k) s = elim (one_step p r s) [ None ↦ 0 | Some w ↦ searches_for s w.0 + searches_in p r k w.1 ]
