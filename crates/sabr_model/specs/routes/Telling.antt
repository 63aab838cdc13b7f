-- What the record of a list of numbers holds besides them and their delivery.
use Rattle.std.specs.Prelude.{ℕ, List}
use Rattle.sabr_model.specs.plan.Plan.{ContactPlan}
use Rattle.sabr_model.specs.routes.Route.{until_of, entry_of}
use Rattle.sabr_model.specs.declared.route_summary.RouteSummary.{RouteSummary}

abbrev pub summary_of : ContactPlan → List ℕ → RouteSummary
summary_of p s = record { until = until_of p s; entry = entry_of p s }
