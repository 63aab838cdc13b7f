-- What a finder answers.
use Rattle.std.specs.Prelude.{ℕ, List, length, if◌then◌else◌}
use Rattle.std.specs.Option.{option_map}
use Rattle.std.specs.declared.option.Option.{Option}
use Rattle.std.specs.declared.option.Option.TheVariants.{Some, None}
use Rattle.sabr_search.specs.declared.bound.Bound.{Bound}
use Rattle.sabr_search.specs.declared.bound.Sought.{Sought}
use Rattle.sabr_search.specs.declared.bound.Sought.TheVariants.{Route, None as NoRoute, Beyond}
use Rattle.sabr_search.specs.questions.Bounded.{is_up_to}
use Rattle.sabr_model.specs.plan.Plan.{ContactPlan}
use Rattle.sabr_model.specs.routes.Arrival.{RouteRequest}
use Rattle.sabr_model.specs.routes.Parts.{least_in}
use Rattle.sabr_model.specs.routes.Record.{RouteRecord, record_of}

-- the record of the best route of a part, or none if the part has no route
unfoldable pub best_of : ContactPlan → RouteRequest → List ℕ → List ℕ → Option RouteRecord
best_of p r prefix excluded = option_map (record_of p r) (least_in p r prefix excluded)

-- a route's record if it is up to the bound, and else none
abbrev pub up_to : Bound → Option RouteRecord → Option RouteRecord
up_to b None = None
up_to b (Some x) = if is_up_to b x.delivery (length x.contacts) then Some x else None

-- what of an answer is up to the bound, if there is one
abbrev pub found_by : {A : Type 0} → Sought A → Option Bound → Option RouteRecord
found_by (Route x) None = Some x
found_by (Route x) (Some b) = up_to b (Some x)
found_by NoRoute o = None
found_by Beyond o = None

-- the record of the best route of a part if it is up to the bound, where there is one
abbrev pub best_up_to : ContactPlan → RouteRequest → Option Bound → List ℕ → List ℕ → Option RouteRecord
best_up_to p r None prefix excluded = best_of p r prefix excluded
best_up_to p r (Some b) prefix excluded = up_to b (best_of p r prefix excluded)
