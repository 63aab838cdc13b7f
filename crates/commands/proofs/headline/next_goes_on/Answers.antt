use Rattle.commands.proofs.RunLemmas.PageTexts.{next_goes_on}
use Rattle.commands.proofs.headline.next_goes_on.Goals as goal

pub returns : goal.returns
returns c = next_goes_on
