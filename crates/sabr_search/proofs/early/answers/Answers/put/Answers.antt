use Rattle.sabr_search.proofs.AnswerLemmas.CachedAnswers.{put_behind, put_instead}
use Rattle.sabr_search.proofs.early.answers.Answers.put.Goals as goal

pub returns-then-end-lt-SLOTS-clause-put : goal.returns-then-end-lt-SLOTS-clause-put
returns-then-end-lt-SLOTS-clause-put g c = rw c.in-Ok.ensures.items (put_behind _ _)

pub returns-clause-put : goal.returns-clause-put
returns-clause-put g c = rw c.put_at.ensures (put_instead _ _ _)
