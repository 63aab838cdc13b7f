use Rattle.sabr_model.proofs.RouteLemmas.RoutesListed.{candidates_are_listed}
use Rattle.sabr_model.proofs.laws.candidates_hold_each_once.Goals as goal

pub returns : goal.returns
returns c = candidates_are_listed
