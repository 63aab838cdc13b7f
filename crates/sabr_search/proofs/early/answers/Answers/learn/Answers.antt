use Rattle.sabr_search.proofs.AnswerLemmas.Answered.{of_request}
use Rattle.sabr_search.proofs.early.answers.Answers.learn.Goals as goal

pub cache-requires-clause-request : goal.cache-requires-clause-request
cache-requires-clause-request g c = of_request c.args.asked.now.task.now c.args.asked.now.prefix.now c.requires.asked.behind
