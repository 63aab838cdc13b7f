use Rattle.std.proofs.Common.{arith}
use Rattle.sabr_search.proofs.AnswerLemmas.BoundedWays.{stops_weaker, stops_by}
use Rattle.sabr_search.proofs.WholeLemmas.Walks.{degree_at_most}
use Rattle.sabr_search.proofs.layer_search.LayerSearch.best_of.Goals as goal

pub best_within-requires-clause-arrivals : goal.best_within-requires-clause-arrivals
best_within-requires-clause-arrivals g c = record {
  flags = omega (arith, c.soonest-since.ensures.many, c.node_count.ensures, c.requires.task.as_many);
  least = λ ns v t some way. omega (arith, c.soonest-since.ensures.each v, c.requires.soon ns v t some way);
}

pub returns-in_err-first_steps-clause-stops : goal.returns-in_err-first_steps-clause-stops
returns-in_err-first_steps-clause-stops g c =
    let task = c.args.asked.now.task.now in
    stops_by _ _ (λ is. let few = rw is at c.in_err-first_steps.ensures.stops in omega (arith, few, degree_at_most task task.start)) c.from_residual.result c.from_residual.ensures.1

pub returns-clause-counted : goal.returns-clause-counted
returns-clause-counted g c =
    let task = c.args.asked.now.task.now in
    omega (arith, c.best_within.ensures.counted, c.first_steps.ensures.counted, degree_at_most task task.start)

pub returns-clause-stops : goal.returns-clause-stops
returns-clause-stops g c =
    let task = c.args.asked.now.task.now in
    stops_weaker _ _ (λ few. omega (arith, few, c.first_steps.ensures.counted, degree_at_most task task.start)) c.best_within.result c.best_within.ensures.stops

pub best_within-requires-clause-steps : goal.best_within-requires-clause-steps
best_within-requires-clause-steps g c = rw c.as_slice.ensures.value c.in_ok-first_steps.ensures.all
