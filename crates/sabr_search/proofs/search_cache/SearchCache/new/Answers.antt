use Rattle.sabr_search.proofs.search_cache.SearchCache.new.Goals as goal

pub returns : goal.returns
returns g c = λ p r. (tt, c.new.ensures p r)
