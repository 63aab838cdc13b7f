-- The list of all routes, in order of their keys. (This project's profile; it says what is listed, not how it is
-- found.)
use Rattle.std.specs.Prelude.{ℕ, ◌+◌, zero, suc, not, List, [], ◌∷◌, map, take, drop}
use Rattle.std.specs.List.{filter, flat_map, range_with_len}
use Rattle.sabr_model.specs.plan.Plan.{ContactPlan, has}
use Rattle.sabr_model.specs.routes.Arrival.{RouteRequest}
use Rattle.sabr_model.specs.routes.Route.{is_route, by_key}
use Rattle.sabr_model.specs.Order.{in_order}

-- the lists of this length of different numbers among these, each once
unfoldable pub lists_of_length : List ℕ → ℕ → List (List ℕ)
lists_of_length numbers zero = [] ∷ []
lists_of_length numbers (suc k) =
    flat_map (λ s. map (λ n. n ∷ s) (filter (λ n. not (has n s)) numbers)) (lists_of_length numbers k)

-- the lists of different numbers from 1 to n, each once
unfoldable pub candidates : ℕ → List (List ℕ)
candidates n = flat_map (lists_of_length (range_with_len 1 n)) (range_with_len 0 (n + 1))

-- the listing: the candidates that are routes, in order of their keys
unfoldable pub routes : ContactPlan → RouteRequest → List (List ℕ)
routes p r = in_order (by_key p r) (filter (is_route p r) (candidates p.largest))

-- a page: at most k routes of the listing, after the first i
abbrev pub page_of : ContactPlan → RouteRequest → ℕ → ℕ → List (List ℕ)
page_of p r i k = take k (drop i (routes p r))
