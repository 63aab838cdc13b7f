use Rattle.std.proofs.Common.{rules}
use Rattle.std.specs.List.Sorted.{IsStrictlySortedBy}
use Rattle.sabr_model.proofs.rows.worked_plans_are_plans.Goals as goal

pub returns : goal.returns
unfolding IsStrictlySortedBy
returns c = search rules
