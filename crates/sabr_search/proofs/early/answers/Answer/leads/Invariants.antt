use Rattle.sabr_search.proofs.AnswerLemmas.CachedAnswers.{IsOnWay}
use Rattle.sabr_search.proofs.early.answers.Answer.leads.Given as goal

abbrev pub invariant-loop-place : goal.invariant-loop-place
invariant-loop-place g l = IsOnWay l.task l.self.lists.way l.place l.from.node l.from.at
