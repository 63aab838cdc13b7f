use Rattle.commands.proofs.RunLemmas.ManyAnswers.{many_answers_as_first}
use Rattle.commands.proofs.headline.many_answers_as_first.Goals as goal

pub returns : goal.returns
returns c = many_answers_as_first
