use Rattle.std.proofs.Common.{arith}
use Rattle.sabr_search.proofs.AnswerLemmas.Answered.{layers_within, search_fits}
use Rattle.sabr_search.proofs.layered.Layered.best_after.Goals as goal

pub unreachable-requires : goal.unreachable-requires
unreachable-requires g c = omega (arith, rw c.in-Err-NoLooks.field-0-is at (rw c.in-Err-NoLooks.is at c.best_of.ensures.stops), c.requires.few, search_fits c.args.task.now c.args.prefix.now c.requires.asked)

pub returns-in-Err-NoMemory-clause-bound : goal.returns-in-Err-NoMemory-clause-bound
returns-in-Err-NoMemory-clause-bound g c = omega (arith, c.best_of.ensures.counted, c.requires.few, layers_within c.args.task.now c.args.prefix.now c.requires.asked)

pub answer-requires-clause-few : goal.answer-requires-clause-few
answer-requires-clause-few g c = omega (arith, c.best_of.ensures.counted, c.requires.few, layers_within c.args.task.now c.args.prefix.now c.requires.asked)
