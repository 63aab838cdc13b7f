use Rattle.std.proofs.Common.{ap, sym, ◌∙◌, arith}
use Rattle.sabr_model.specs.routes.Arrival.{RouteRequest}
use Rattle.sabr_model.specs.routes.Hops.{hop_arrival}
use Rattle.sabr_search.proofs.LinkLemmas.OverLinks.{pass_takes}
use Rattle.sabr_search.proofs.detours.take_pass.Goals as goal

pub hop_over-hop-requires-clause-pass : goal.hop_over-hop-requires-clause-pass
hop_over-hop-requires-clause-pass g c = (c.args.here.node, rw c.look-pass.ensures.same c.requires.pass)

pub returns-clause-takes : goal.returns-clause-takes
returns-clause-takes g c =
    let hop = c.hop_over-hop.result in
    rw c.number.ensures (pass_takes c.args.task.now c.requires.task c.args.here.node c.args.to c.args.here.at c.look-pass.result c.in_ok-at.at hop
    (rw c.look-pass.ensures.same c.requires.pass) c.hop_over-hop.ensures.receiver c.hop_over-hop.ensures.value c.requires.permitted (c.excluded_from.ensures.none (omega arith))
    (ap (λ (r : RouteRequest). hop_arrival r.margin c.args.here.at hop) (sym c.request.ensures) ∙ sym c.arrive.ensures ∙ c.in_ok-at.was))
