use Rattle.sabr_frontier.proofs.ListingLemmas.Lawful.{parts_divide}
use Rattle.sabr_frontier.proofs.laws.law4.Goals as goal

pub returns : goal.returns
returns c = parts_divide
