use Rattle.std.proofs.Common.{◌≡◌, Option, ℕ, Some, sym, subst}
use Rattle.std.specs.Prelude.{MatchOption, slice_get, false}
use Rattle.indexmap.specs.IndexMap.{keys}
use Rattle.sabr_model.specs.plan.Plan.{has}
use Rattle.sabr_model.proofs.PlanLemmas.Tabled.{index_tells, index_of_member}
use Rattle.sabr_model.proofs.plan.known.index_of.Goals as goal

pub returns : goal.returns
returns g c =
    let nodes = keys c.args.table.now in
    let node = c.args.node in
    let tells = subst (λ (o : Option ℕ). MatchOption o (has node nodes ≡ false) (λ k. slice_get nodes k ≡ Some node)) (sym c.get_index_of.ensures.index) (index_tells nodes node) in
    subst (λ k. slice_get nodes k ≡ Some node) (sym c.unwrap_or.ensures) (index_of_member nodes node c.get_index_of.result tells c.requires)
