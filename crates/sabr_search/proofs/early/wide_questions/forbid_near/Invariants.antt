use Rattle.sabr_search.specs.questions.Task.{IsOfRequest}
use Rattle.sabr_search.specs.answers.Answers.{narrowed, ForbidsFewer}
use Rattle.sabr_search.proofs.early.wide_questions.forbid_near.Given as goal

abbrev pub invariant-loop-node : goal.invariant-loop-node
invariant-loop-node g l = record {
  fewer : ForbidsFewer l.task l.forbidden;
  request : IsOfRequest (narrowed l.task l.forbidden l.task.at);
}
