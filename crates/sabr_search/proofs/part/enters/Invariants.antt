use Rattle.std.proofs.Common.{◌≡◌, drop}
use Rattle.std.specs.List.{list_any}
use Rattle.sabr_model.specs.plan.Plan.{has}
use Rattle.sabr_model.specs.routes.Route.{receivers}
use Rattle.sabr_model.specs.routes.Following.{receives}
use Rattle.sabr_search.proofs.part.enters.Given as goal

abbrev pub invariant-loop-number : goal.invariant-loop-number
invariant-loop-number g l = has l.node (receivers l.plan.plan l.numbers) ≡ list_any (receives l.plan.plan l.node) (drop l.number-index l.numbers)
