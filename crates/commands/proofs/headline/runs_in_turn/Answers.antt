use Rattle.commands.proofs.RunLemmas.RunsInTurn.{runs_in_turn}
use Rattle.commands.proofs.headline.runs_in_turn.Goals as goal

pub returns : goal.returns
returns c = runs_in_turn
