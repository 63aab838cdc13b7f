use Rattle.sabr_search.proofs.backward.relaxation.Backward.reach.Goals as goal

pub returns-in-Bounds : goal.returns-in-Bounds
returns-in-Bounds g c = rw c.in-Bounds.is c.by_bounds.ensures
