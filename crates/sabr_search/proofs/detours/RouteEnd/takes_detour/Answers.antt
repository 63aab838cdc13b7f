use Rattle.std.proofs.Common.{ap, arith}
use Rattle.sabr_model.specs.routes.Arrival.{RouteRequest}
use Rattle.sabr_search.proofs.detours.RouteEnd.takes_detour.Goals as goal

pub takes-requires-clause-room : goal.takes-requires-clause-room
takes-requires-clause-room g c = omega (arith, ap (λ (r : RouteRequest). r.max_hops) c.request.ensures)

pub takes-requires-clause-link : goal.takes-requires-clause-link
takes-requires-clause-link g c = rw c.start.ensures at (c.in-Some.ensures {u = tt}).link
