use Rattle.commands.proofs.RunLemmas.RunsInTurn.{runs_go_on}
use Rattle.commands.proofs.headline.runs_go_on.Goals as goal

pub returns : goal.returns
returns c = runs_go_on
