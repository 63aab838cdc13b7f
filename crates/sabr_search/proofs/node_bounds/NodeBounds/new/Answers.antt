use Rattle.std.proofs.Common.{arith}
use Rattle.sabr_search.proofs.BackwardLemmas.Relaxing.{none_late, no_costs}
use Rattle.sabr_search.proofs.AnswerLemmas.Answered.{none_soon}
use Rattle.sabr_search.proofs.node_bounds.NodeBounds.new.Goals as goal

pub returns : goal.returns
returns g c = λ p r. record {
  deadline = none_late p r _ _ (omega arith) c.new.ensures.items;
  deadline_until = tt;
  costs = no_costs p r _ c.new-2.ensures.items;
  soon = none_soon p r _ c.new-4.ensures.items;
}
