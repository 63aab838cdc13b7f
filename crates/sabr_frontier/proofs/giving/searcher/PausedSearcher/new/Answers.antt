use Rattle.sabr_frontier.proofs.giving.searcher.PausedSearcher.new.Goals as goal

pub returns-clause-cache : goal.returns-clause-cache
returns-clause-cache g c = λ p. c.new.ensures p c.args.request
