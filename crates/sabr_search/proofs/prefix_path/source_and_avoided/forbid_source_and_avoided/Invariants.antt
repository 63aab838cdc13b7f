use Rattle.std.proofs.Common.{take}
use Rattle.sabr_model.specs.plan.Plan.{has}
use Rattle.sabr_search.specs.questions.PrefixPath.{AreForbidden}
use Rattle.sabr_search.proofs.prefix_path.source_and_avoided.forbid_source_and_avoided.Given as goal

abbrev pub invariant-loop-node : goal.invariant-loop-node
invariant-loop-node g l = AreForbidden l.plan.table l.forbidden (λ x. has x (take l.node-index l.node-items))
