use Rattle.std.proofs.Common.{arith}
use Rattle.sabr_search.proofs.question.Question.hops_left.Goals as goal

pub overflow_sub-others : goal.overflow_sub-others
overflow_sub-others g c = omega (arith, c.node_count-others.ensures, c.requires.as_many, c.requires.start_in)
