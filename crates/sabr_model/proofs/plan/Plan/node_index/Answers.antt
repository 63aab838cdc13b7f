use Rattle.std.proofs.Common.{◌≡◌, Option, ℕ, sym, subst}
use Rattle.std.specs.Prelude.{MatchOption, IsFalse, slice_get, Some}
use Rattle.sabr_model.specs.plan.Plan.{TabledPlan, has}
use Rattle.indexmap.specs.IndexMap.{keys}
use Rattle.sabr_model.proofs.PlanLemmas.Tabled.{index_tells}
use Rattle.sabr_model.proofs.plan.Plan.node_index.Goals as goal

pub returns : goal.returns
returns g c =
    subst (λ (p : TabledPlan). MatchOption c.get_index_of.result (IsFalse (has c.args.node p.table)) (λ k. slice_get p.table k ≡ Some c.args.node)) c.self.view_is
    (subst (λ (o : Option ℕ). MatchOption o (IsFalse (has c.args.node (keys c.self.inside.table))) (λ k. slice_get (keys c.self.inside.table) k ≡ Some c.args.node)) (sym c.get_index_of.ensures.index)
    (index_tells (keys c.self.inside.table) c.args.node))
