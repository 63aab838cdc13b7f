use Rattle.commands.proofs.RunLemmas.CallsInTurn.{calls_in_turn}
use Rattle.commands.proofs.headline.calls_in_turn.Goals as goal

pub returns : goal.returns
returns c = calls_in_turn
