use Rattle.std.proofs.Common.{[], arith}
use Rattle.sabr_search.proofs.WayLemmas.Prefixes.{prefix_facts}
use Rattle.sabr_search.proofs.AnswerLemmas.Answered.{of_request, stop_of, soon_after}
use Rattle.sabr_search.proofs.WholeLemmas.Leaves.{of_each}
use Rattle.sabr_search.proofs.early.whole_deadlines.WholeDeadlines.make.Goals as goal

pub make_all-made-requires-clause-arrivals : goal.make_all-made-requires-clause-arrivals
make_all-made-requires-clause-arrivals g c =
    let task = c.args.task.now in
    let asked = c.requires.asked in
    record {
      flags = omega (arith, c.soonest-since.ensures.many, c.node_count.ensures, asked.task_is.as_many);
      least = λ ns v t some way.
          omega (arith, c.soonest-since.ensures.each v, soon_after task [] (of_request task [] asked.behind) (prefix_facts task.plan task.request [] asked.fits) (stop_of task [] asked.behind) c.args.soon.now c.requires.soon ns v t some way);
    }

pub returns : goal.returns
returns g c =
    of_each c.args.task.now _ _ c.requires.asked c.requires.none c.soonest-since.result
    (λ ns v node t some at chained after open'. omega (arith, c.soonest-since.ensures.each v, c.requires.soon ns v node t some at chained after open'))
    c.in_ok-made.ensures.whole
