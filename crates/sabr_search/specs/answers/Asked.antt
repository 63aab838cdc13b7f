-- What is left of a question after its prefix, which cached answer is its answer, and how a search is cut.
use Rattle.std.specs.Prelude.{◌≡◌, ℕ, List, length, slice_get, ◌+◌, ◌*◌, ◌≤◌, ◌-◌}
use Rattle.std.specs.declared.option.Option.TheVariants.{Some, None}
use Rattle.sabr_search.specs.declared.early.answers.Answer.{Answer}
use Rattle.sabr_search.specs.declared.bound.Bound.{Bound}
use Rattle.sabr_search.specs.declared.question.Question.{Question}
use Rattle.sabr_search.specs.answers.CachedAnswers.{IsAnswerTo}
use Rattle.sabr_search.specs.questions.Bounded.{bound_after, IsCutUpTo}
use Rattle.sabr_search.specs.questions.Task.{left_of}
use Rattle.sabr_search.specs.declared.early.Early.{Early}
use Rattle.sabr_search.specs.declared.early.Early.TheVariants.{Cached, Found as Searched}
use Rattle.sabr_search.specs.answers.Answers.{IsEnough, IsFound}
use Rattle.sabr_model.specs.routes.Asking.{most_hops}
use Rattle.sabr_search.specs.declared.bound.Sought.{Sought}
use Rattle.std.specs.declared.option.Option.{Option}
use Rattle.sabr_model.specs.plan.Plan.{ContactPlan}
use Rattle.sabr_model.specs.routes.Record.{RouteRecord}

-- the most hops that a way after the prefix may have
abbrev pub hops_left : {A : Type 0} → Question A → ℕ
hops_left question = left_of question.task.now question.prefix.now

-- what such a way is asked up to
abbrev pub bound_left : {A : Type 0} → Question A → Bound
bound_left question = bound_after question.bound (length question.prefix.now)

-- the answer at this place is the answer to the question, too
abbrev pub AnswersAt : {A : Type 0} → List (Answer A) → Question A → ℕ → Type 0
AnswersAt {A} answers question place = (a : Answer A) × (slice_get answers place ≡ Some a) × IsAnswerTo a question.task.now (hops_left question) (bound_left question)

-- An answer to a question before a search of its own.

-- one that is cached at this place, or what a search found, if that is enough for the question's bound
abbrev pub IsEarly : {A : Type 0} → Question A → List (Answer A) → Early A → Type 0
IsEarly question answers (Cached place) = AnswersAt answers question place
IsEarly question answers (Searched found) = IsFound question.task.now (hops_left question) found × IsEnough (bound_left question) found

-- How many looks an answer may take by its hops.

-- without a limit on hops, what was found with that many hops took no more than two passes for each, and three more
abbrev pub IsCutBefore : {A : Type 0} → Question A → ℕ → ℕ → Type 0
IsCutBefore asked hops looks = asked.task.now.request.max_hops ≡ most_hops → looks ≤ (2 * hops + 3) * length asked.task.now.plan.contacts

-- and with its route the answer took no more than three for each
abbrev pub IsCutAfter : {A : Type 0} → Question A → ℕ → Sought A → Type 0
IsCutAfter asked looks answer = IsCutUpTo asked.task.now.plan asked.task.now.request.max_hops asked.bound asked.prefix.now looks answer

-- What a finder reports of a route that is found.

-- the number of hops of an answer, 0 if there is no route
abbrev pub answer_hops : Option RouteRecord → ℕ
answer_hops None = 0
answer_hops (Some route) = length route.contacts

-- without a limit on hops, the answer took no more looks than three passes over all contacts for each hop after the
-- prefix, and three more
abbrev pub IsCut : ContactPlan → ℕ → List ℕ → ℕ → Option RouteRecord → Type 0
IsCut p max_hops prefix looks answer = max_hops ≡ most_hops → looks ≤ (3 * (answer_hops answer - length prefix) + 3) * length p.contacts
