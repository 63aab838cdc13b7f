use Rattle.steps.proofs.parts.best_beside.Goals as goal

pub best_beside-found-requires-clause-cache : goal.best_beside-found-requires-clause-cache
best_beside-found-requires-clause-cache g c = c.new-cache.ensures _ _
