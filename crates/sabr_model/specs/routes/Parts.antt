-- Parts of the routes: what is left of them after some were taken. Yen's and Lawler's methods for listing best paths
-- divide the routes in this way.
use Rattle.std.specs.Prelude.{ℕ, Bool, false, not, ◌&&◌, ◌==◌, List, [], ◌∷◌, if◌then◌else◌}
use Rattle.std.specs.List.{find}
use Rattle.std.specs.Option.{option_map_or}
use Rattle.std.specs.declared.option.Option.{Option}
use Rattle.std.specs.declared.option.Option.TheVariants.{Some, None}
use Rattle.sabr_model.specs.plan.Plan.{ContactPlan, has}
use Rattle.sabr_model.specs.routes.Arrival.{RouteRequest}
use Rattle.sabr_model.specs.routes.Route.{is_route}
use Rattle.sabr_model.specs.routes.Listing.{routes}

-- the number that s takes after the prefix, if s begins with the prefix and is longer
abbrev pub number_after : List ℕ → List ℕ → Option ℕ
number_after [] [] = None
number_after [] (n ∷ s) = Some n
number_after (q ∷ prefix) [] = None
number_after (q ∷ prefix) (n ∷ s) = if q == n then number_after prefix s else None

-- s begins with the prefix, is longer, and its next number is not excluded
abbrev pub goes_on : List ℕ → List ℕ → List ℕ → Bool
goes_on prefix excluded s = option_map_or (λ n. not (has n excluded)) (number_after prefix s) false

-- s is a route of the part
abbrev pub in_part : ContactPlan → RouteRequest → List ℕ → List ℕ → List ℕ → Bool
in_part p r prefix excluded s = is_route p r s && goes_on prefix excluded s

-- the best route of the part: the first of the listing that is in it, or none
unfoldable pub least_in : ContactPlan → RouteRequest → List ℕ → List ℕ → Option (List ℕ)
least_in p r prefix excluded = find (goes_on prefix excluded) (routes p r)
