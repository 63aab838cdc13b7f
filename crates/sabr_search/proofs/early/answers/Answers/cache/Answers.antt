use Rattle.sabr_search.specs.questions.FirstSteps.{tabled_of}
use Rattle.sabr_search.specs.answers.CachedAnswers.{IsAnswer}
use Rattle.sabr_search.proofs.AnswerLemmas.CachedAnswers.{put_all}
use Rattle.sabr_search.proofs.early.answers.Answers.cache.Goals as goal

pub returns : goal.returns
returns g c =
    rw c.put_head.ensures (
      put_all (IsAnswer (tabled_of c.args.asked.now.task.now) c.args.asked.now.task.now.request) _ _ c.in_ok-answer.answer (rw (c.made.ensures.slots, c.make_heads.ensures) c.requires.cached.0) c.in_ok-answer.ensures.answer c.put.ensures.put,
      c.put.ensures.few (rw (c.made.ensures.slots, c.make_heads.ensures) c.requires.cached.1),
    )

pub returns-in_err-place : goal.returns-in_err-place
returns-in_err-place g c = (
  put_all (IsAnswer (tabled_of c.args.asked.now.task.now) c.args.asked.now.task.now.request) _ _ c.in_ok-answer.answer (rw (c.made.ensures.slots, c.make_heads.ensures) c.requires.cached.0) c.in_ok-answer.ensures.answer c.put.ensures.put,
  c.put.ensures.few (rw (c.made.ensures.slots, c.make_heads.ensures) c.requires.cached.1),
)
