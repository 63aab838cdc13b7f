use Rattle.std.proofs.Common.{sym, subst}
use Rattle.sabr_search.specs.questions.FirstSteps.{tabled_of}
use Rattle.sabr_search.specs.answers.CachedAnswers.{IsAnswer}
use Rattle.sabr_search.proofs.early.answers.Answers.recall_at.Goals as goal

pub answers-requires-clause-answer : goal.answers-requires-clause-answer
answers-requires-clause-answer g c =
    let task = c.args.asked.now.task.now in
    let answer = c.in-Some.answer.now in
    let lookup = rw c.deref.ensures.value at c.in-Some.ensures.lookup in
    subst (IsAnswer (tabled_of task) task.request) (sym lookup.1) (c.requires.cached c.args.place answer lookup.3.0)
