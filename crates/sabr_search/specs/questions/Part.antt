-- What a finder answers for a part of the routes.
use Rattle.std.specs.Prelude.{◌≡◌, ℕ, List}
use Rattle.std.specs.Option.{option_map}
use Rattle.std.specs.declared.option.Option.{Option}
use Rattle.sabr_model.specs.plan.Plan.{ContactPlan}
use Rattle.sabr_model.specs.routes.Arrival.{RouteRequest}
use Rattle.sabr_model.specs.routes.Parts.{least_in}
use Rattle.sabr_model.specs.routes.Record.{RouteRecord, record_of}

-- the answer is the best route of the part, or none if the part has no route
abbrev pub IsBestOf : ContactPlan → RouteRequest → List ℕ → List ℕ → Option RouteRecord → Type 0
IsBestOf p r prefix excluded answer = answer ≡ option_map (record_of p r) (least_in p r prefix excluded)
