use Rattle.std.proofs.Common.{None, length, arith}
use Rattle.sabr_search.specs.answers.Asked.{bound_left, hops_left}
use Rattle.sabr_search.proofs.AnswerLemmas.BoundedWays.{still_above, none_beyond}
use Rattle.sabr_search.proofs.AnswerLemmas.Answered.{answered_is_least, beyond_is}
use Rattle.sabr_search.proofs.question.Question.above.Goals as goal

pub returns-then-is_none-clause-sought : goal.returns-then-is_none-clause-sought
returns-then-is_none-clause-sought g c =
    let task = c.args.self.now.task.now in
    let prefix = c.args.self.now.prefix.now in
    answered_is_least task prefix c.requires.asked None (none_beyond task c.requires.asked.task_is (hops_left c.args.self.now) c.args.bound (rw c.is_none.ensures at c.if-is_none.true) c.requires.beyond)

pub returns-else-is_none-clause-sought : goal.returns-else-is_none-clause-sought
returns-else-is_none-clause-sought g c =
    let asked = c.args.self.now in
    let prefix = asked.prefix.now in
    beyond_is asked.task.now prefix c.requires.asked asked.bound (λ ns e short way. still_above c.args.bound (bound_left asked) e e (length ns) c.requires.enough (omega arith) (c.requires.beyond ns e short way))
