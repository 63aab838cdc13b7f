-- Which requests are accepted. The bounds are this project's profile.
use Rattle.std.specs.Prelude.{◌≢◌, ℕ, ◌<◌, ◌≤◌, ◌==◌, ◌&&◌, ◌||◌, Bool, not, nat_lt, nat_le, IsTrue, List, [], length, if◌then◌else◌}
use Rattle.std.specs.List.{AllByRecursion}
use Rattle.std.specs.declared.option.Option.{Option}
use Rattle.std.specs.declared.option.Option.TheVariants.{Some, None}
use Rattle.sabr_model.specs.declared.fault.RequestError.{RequestError}
use Rattle.sabr_model.specs.declared.fault.RequestError.TheVariants.{SameNode, BadNode, BadTime, BadMargin, BadHops, BadAvoid}
use Rattle.sabr_model.specs.plan.Plan.{IsNode, last_time, rises_above, has}
use Rattle.sabr_model.specs.routes.Arrival.{RouteRequest}

-- the largest limit on hops
abbrev pub most_hops : ℕ
most_hops = 20000

-- the largest margin, in parts per million
abbrev pub most_margin : ℕ
most_margin = 1000000

-- the first reason to refuse a request
abbrev pub request_refusal : ℕ → ℕ → ℕ → ℕ → Option RequestError
request_refusal from to at margin =
    if from == to then Some SameNode
    else if from == 0 || (to == 0) then Some BadNode
    else if nat_lt last_time at then Some BadTime
    else if nat_lt most_margin margin then Some BadMargin
    else None

-- at most 16 ascending nodes, neither end among them
abbrev pub may_avoid : ℕ → ℕ → List ℕ → Bool
may_avoid source destination avoided =
    nat_le (length avoided) 16 && rises_above 0 avoided && not (has source avoided) && not (has destination avoided)

-- the first reason to refuse limits
abbrev pub limit_refusal : RouteRequest → ℕ → List ℕ → Option RequestError
limit_refusal r max_hops avoided =
    if max_hops == 0 || nat_lt most_hops max_hops then Some BadHops
    else if not (may_avoid r.source r.destination avoided) then Some BadAvoid
    else None

-- a request without limits
abbrev pub unlimited : ℕ → ℕ → ℕ → ℕ → RouteRequest
unlimited from to at margin = record { source = from; destination = to; at = at; margin = margin; max_hops = most_hops; avoided = [] }

-- the request with its limits replaced by these
abbrev pub with_limits : RouteRequest → ℕ → List ℕ → RouteRequest
with_limits r max_hops avoided = record r { max_hops = max_hops; avoided = avoided }

-- what holds for every accepted request
pub record IsRequest (r : RouteRequest) : Type 0 where
  pub source : IsNode r.source
  pub destination : IsNode r.destination
  pub apart : r.source ≢ r.destination
  pub time : r.at ≤ last_time
  pub margin : r.margin ≤ most_margin
  pub hops : (0 < r.max_hops) × (r.max_hops ≤ most_hops)
  pub avoids : IsTrue (may_avoid r.source r.destination r.avoided)
  pub nodes : AllByRecursion IsNode r.avoided
