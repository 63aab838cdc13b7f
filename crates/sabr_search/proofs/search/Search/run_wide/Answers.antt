use Rattle.sabr_search.proofs.WayLemmas.Prefixes.{prefix_facts}
use Rattle.sabr_search.proofs.AnswerLemmas.Answered.{stop_of, soon_after}
use Rattle.sabr_search.proofs.search.Search.run_wide.Goals as goal

pub run-requires-clause-soon : goal.run-requires-clause-soon
run-requires-clause-soon g c =
    let task = c.args.asked.now.task.now in
    let prefix = c.args.asked.now.prefix.now in
    rw c.with_forbidden-task.ensures (soon_after _ prefix c.requires.request (prefix_facts task.plan task.request prefix c.requires.asked.fits) (stop_of task prefix c.requires.asked.behind) _ c.requires.memory.0.soon)

pub returns : goal.returns
returns g c = record { memory = (c.requires.memory.0, c.requires.memory.1, rw c.with_forbidden-task.ensures at c.cache.ensures) }
