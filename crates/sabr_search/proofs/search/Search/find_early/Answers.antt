use Rattle.sabr_search.proofs.AnswerLemmas.Answered.{of_request}
use Rattle.sabr_search.proofs.search.Search.find_early.Goals as goal

pub next-requires-clause-request : goal.next-requires-clause-request
next-requires-clause-request g c = of_request c.args.asked.now.task.now c.args.asked.now.prefix.now c.requires.asked.behind
