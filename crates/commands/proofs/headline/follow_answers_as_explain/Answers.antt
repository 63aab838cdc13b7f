use Rattle.commands.proofs.RunLemmas.ManyAnswers.{follow_answers_as_explain}
use Rattle.commands.proofs.headline.follow_answers_as_explain.Goals as goal

pub returns : goal.returns
returns c = follow_answers_as_explain
