use Rattle.std.proofs.Common.{arith}
use Rattle.sabr_model.proofs.RouteLemmas.Follows.{in_it, others_stay}
use Rattle.sabr_model.proofs.node_set.NodeSet.insert.Goals as goal

pub returns-clause-this : goal.returns-clause-this
returns-clause-this c = in_it c.args.self.now.words c.args.index (omega arith)

pub returns-clause-others : goal.returns-clause-others
returns-clause-others c = λ k. others_stay c.args.self.now.words c.args.index k (omega arith)
