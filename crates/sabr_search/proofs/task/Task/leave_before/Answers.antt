use Rattle.std.proofs.Common.{◌+◌, max, ap, arith}
use Rattle.sabr_model.specs.routes.Arrival.{cost}
use Rattle.sabr_search.specs.questions.Task.{SearchTask}
use Rattle.sabr_search.proofs.LinkLemmas.PlanFacts.{hop_arrival_there}
use Rattle.sabr_search.proofs.task.Task.leave_before.Goals as goal

pub returns-clause-in_time : goal.returns-clause-in_time
returns-clause-in_time g c = λ t less.
    let hop = c.args.hop.now in
    let margin = c.args.self.now.request.margin in
    let light = c.in-Some.light in
    (max t hop.start + cost margin light, hop_arrival_there margin t light hop c.in-Some.is (omega (arith, less, c.min.ensures, c.requires.window)), omega (arith, less, c.min.ensures, c.cost-cost.ensures.value, ap (λ (q : SearchTask). cost q.request.margin light) c.self.view_is, c.if-hop-cost.false))
