use Rattle.std.proofs.Common.{◌≡◌, ◌∙◌, ap, subst}
use Rattle.std.specs.Prelude.{IfOk}
use Rattle.sabr_model.specs.plan.Plan.{TabledPlan}
use Rattle.libcgrlist.specs.Answers.{none_or_one, first_routes}
use Rattle.libcgrlist.specs.Opened.{OpenPlan}
use Rattle.libcgrlist.proofs.best.find_best.Goals as goal

pub returns-clause-best : goal.returns-clause-best
returns-clause-best c =
    subst (λ (q : TabledPlan). IfOk c.best_route.result (λ best. none_or_one best ≡ first_routes q.plan c.args.request.now 1)) (c.in_ok-index.ensures ∙ ap (λ (o : OpenPlan). o.plan) c.link.ensures) c.best_route.ensures
