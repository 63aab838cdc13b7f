use Rattle.sabr_model.proofs.RouteLemmas.Follows.{tested}
use Rattle.sabr_model.proofs.node_set.NodeSet.contains.Goals as goal

pub returns : goal.returns
returns c = tested c.args.self.now c.args.index
