use Rattle.sabr_frontier.proofs.Names.{subst, Searching}
use Rattle.sabr_search.specs.answers.SearchCache.{IsSearchCache}
use Rattle.sabr_frontier.proofs.giving.searcher.Searcher.pause.Goals as goal

pub returns-clause-cache : goal.returns-clause-cache
returns-clause-cache g c =
    let rest = c.self.inside.rest in
    subst (λ (a : Searching). IsSearchCache a.asked.plan rest.request rest.cache) c.self.view_is c.self.invariant.0
