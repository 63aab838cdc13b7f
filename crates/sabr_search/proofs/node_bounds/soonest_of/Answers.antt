use Rattle.std.proofs.Common.{[], refl, arith}
use Rattle.sabr_search.proofs.BackwardLemmas.Relaxing.{late_before, no_costs}
use Rattle.sabr_search.proofs.AnswerLemmas.Answered.{of_request, bounds_of_nodes, soon_for}
use Rattle.sabr_search.specs.layers.Settling.{AreArrivalsBy}
use Rattle.sabr_search.proofs.node_bounds.soonest_of.Goals.{in-Some, in-None}
use Rattle.sabr_search.proofs.node_bounds.soonest_of.Goals as goal

pub run-requires-clause-bound : goal.run-requires-clause-bound
run-requires-clause-bound g c =
    let task = c.args.task.now in
    bounds_of_nodes task c.requires.whole.is.nodes (of_request task [] c.requires.source) _ _ [] (late_before _ _ _ _ _ (omega arith) c.requires.deadline) (no_costs _ _ [] refl)

pub returns : goal.returns
returns g c =
    let by : AreArrivalsBy c.args.task.now [] c.run.new.self.arrival.items c.match-found.most = elim c.match-found.branch [
      | in-Some w ↦ rw w.most-is (rw w.in-Some.is at c.in_ok-found.ensures.reached).1
      | in-None w ↦ rw w.most-is (rw w.in-None.is at c.in_ok-found.ensures.reached).1
    ] in
    record { soon = soon_for c.args.task.now c.requires.source c.requires.whole.free _ (λ ns v t some way. omega (arith, c.lower.ensures v, by ns v t some way)) }
