use Rattle.sabr_search.proofs.search.Search.find_wide.Goals as goal

pub returns-in_err-place-clause-memory : goal.returns-in_err-place-clause-memory
returns-in_err-place-clause-memory g c = c.count.ensures _ _ c.run_wide-cached.ensures.memory

pub returns-in_default-clause-memory : goal.returns-in_default-clause-memory
returns-in_default-clause-memory g c = c.count.ensures _ _ c.run_wide-cached.ensures.memory

pub returns-clause-memory : goal.returns-clause-memory
returns-clause-memory g c = c.count.ensures _ _ c.run_wide-cached.ensures.memory

pub recall_at-requires-clause-cached : goal.recall_at-requires-clause-cached
recall_at-requires-clause-cached g c = (c.count.ensures _ _ c.run_wide-cached.ensures.memory).2.0
