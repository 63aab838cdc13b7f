-- How a route may end otherwise than by its last number.
use Rattle.std.specs.Prelude.{◌≡◌, ℕ, ◌+◌, ◌*◌, ◌<◌, false, List, [], ◌∷◌, ◌++◌, length, IsTrue}
use Rattle.sabr_model.specs.plan.Plan.{ContactPlan, has}
use Rattle.sabr_model.specs.routes.Arrival.{RouteRequest}
use Rattle.sabr_model.specs.routes.Route.{is_route}
use Rattle.sabr_search.specs.declared.detours.RouteEnd.{RouteEnd}
use Rattle.sabr_search.specs.questions.Task.{IsAsked}

-- how many links are looked at for a detour
abbrev pub most_links : ℕ
most_links = 64

-- at most how many looks it takes to show that a route of that many hops goes on otherwise: one for each of its
-- contacts, and two for each of these links
abbrev pub detour_looks : ℕ → ℕ
detour_looks hops = hops + 2 * most_links

-- after front other numbers make a route, the first neither the one that ended it nor an excluded one
pub record IsOtherWay (p : ContactPlan) (r : RouteRequest) (front : List ℕ) (last : ℕ) (excluded : List ℕ) : Type 0 where
  pub n : ℕ
  pub rest : List ℕ
  pub route : IsTrue (is_route p r (front ++ n ∷ rest))
  pub other : n ≡ last → ⊥
  pub free : has n excluded ≡ false

-- a list of numbers may go on otherwise than by its last one
pub record GoesOtherwise (p : ContactPlan) (r : RouteRequest) (numbers excluded : List ℕ) : Type 0 where
  pub front : List ℕ
  pub last : ℕ
  pub numbers_are : numbers ≡ front ++ last ∷ []
  pub way : IsOtherWay p r front last excluded

-- the numbers before the last one are those that the search is after, and one more is allowed
pub record IsRouteEnd {A : Type 0} (e : RouteEnd A) : Type 0 where
  pub asked : IsAsked e.task.now e.front.now
  pub room : length e.front.now < e.task.now.request.max_hops

-- the route has another ending
abbrev pub EndsOtherwise : {A : Type 0} → RouteEnd A → Type 0
EndsOtherwise e = IsOtherWay e.task.now.plan e.task.now.request e.front.now e.last e.task.now.excluded
