use Rattle.sabr_frontier.proofs.ListingLemmas.Lawful.{states_are_told}
use Rattle.sabr_frontier.proofs.laws.law5.Goals as goal

pub returns : goal.returns
returns c = states_are_told
