use Rattle.sabr_index.specs.Looks.{looks_taken}
use Rattle.sabr_search.proofs.question.Question.answer.Goals as goal

pub returns-in-Beyond-clause-cut : goal.returns-in-Beyond-clause-cut
returns-in-Beyond-clause-cut g c = λ before. c.above.ensures.cut (looks_taken c.args.looks.now) (rw c.in-Beyond.is at before)
