use Rattle.std.proofs.Common.{ap}
use Rattle.sabr_search.specs.declared.visit.Visit.{Visit}
use Rattle.sabr_search.specs.answers.Asked.{hops_left}
use Rattle.sabr_search.specs.answers.Answers.{IsFoundWith}
use Rattle.sabr_search.proofs.AnswerLemmas.CachedAnswers.{kept_is}
use Rattle.sabr_search.proofs.early.answers.Answers.made.Goals as goal
use Rattle.sabr_search.proofs.early.answers.Answers.made.Goals.{in-Way, in-Beyond}

pub returns-clause-answer : goal.returns-clause-answer
returns-clause-answer g c =
    let task = c.args.asked.now.task.now in
    let lists = c.in-Ok.ensures in
    let found : IsFoundWith task (hops_left c.args.asked.now) c.match-found.found.0.now c.match-found.found.1 = elim c.match-found.branch [
      | in-Way w ↦ rw w.found-is (rw w.deref.ensures.value (rw w.in-Way.is at c.requires.found))
      | in-Beyond w ↦ rw w.found-is (rw w.in-Beyond.is at c.requires.found)
    ] in
    kept_is task _ c.requires.request.goal_is (rw lists (rw c.hops_left.ensures found)) (ap (λ (v : Visit). v.node) c.beginning.ensures) (ap (λ (v : Visit). v.at) c.beginning.ensures) (rw lists c.excluded.ensures) (rw lists c.forbidden_nodes.ensures)
