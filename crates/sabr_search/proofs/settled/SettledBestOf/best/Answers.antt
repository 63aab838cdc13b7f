use Rattle.sabr_search.proofs.settled.SettledBestOf.best.Goals as goal

pub find_unbounded-requires-clause-cache : goal.find_unbounded-requires-clause-cache
find_unbounded-requires-clause-cache g c = c.new-cache.ensures _ c.args.request.now
