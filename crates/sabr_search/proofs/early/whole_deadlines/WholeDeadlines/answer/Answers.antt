use Rattle.std.proofs.Common.{refl}
use Rattle.sabr_search.proofs.early.whole_deadlines.WholeDeadlines.answer.Goals as goal

pub find-requires-clause-whole_deadlines : goal.find-requires-clause-whole_deadlines
find-requires-clause-whole_deadlines g c = (rw (c.is_for.ensures c.if-not-is_for.false) at c.requires.whole_deadlines) c.args.asked.now.task.now c.args.asked.now.prefix.now c.requires.asked refl refl _

pub returns-clause-enough : goal.returns-clause-enough
returns-clause-enough g c = rw c.bound_left.ensures at (c.is_enough.ensures c.if-not-is_enough.false)
