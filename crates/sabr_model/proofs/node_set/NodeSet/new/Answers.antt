use Rattle.sabr_model.proofs.RouteLemmas.Follows.{none_in}
use Rattle.sabr_model.proofs.node_set.NodeSet.new.Goals as goal

pub returns : goal.returns
returns c = none_in
