use Rattle.std.proofs.Common.{ℕ, List, [], subst}
use Rattle.std.specs.Prelude.{IfOk}
use Rattle.sabr_model.proofs.RouteLemmas.Prefixes.{empty_is_prefix}
use Rattle.sabr_model.specs.plan.Plan.{TabledPlan, IsPlan}
use Rattle.sabr_search.specs.questions.Part.{IsBestOf}
use Rattle.libcgrlist.proofs.AnswerLemmas.{found_is_first}
use Rattle.libcgrlist.proofs.best.best_route.Goals as goal

pub best_beside-requires-clause-fits : goal.best_beside-requires-clause-fits
best_beside-requires-clause-fits c = empty_is_prefix c.args.index.now.plan c.args.request.now

pub best_beside-requires-clause-cache : goal.best_beside-requires-clause-cache
best_beside-requires-clause-cache c = c.new-cache.ensures c.args.index.now c.args.request.now

pub returns : goal.returns
returns c =
    let p = c.args.index.now.plan in
    let r = c.args.request.now in
    let rules = subst (λ (q : TabledPlan). IsPlan q.plan) c.plan.ensures c.rules_hold.ensures in
    let best = subst (λ (excluded : List ℕ). IfOk c.best_beside.result (IsBestOf p r [] excluded)) c.of.ensures c.best_beside.ensures.least in
    found_is_first p r c.best_beside.result rules c.law3.ensures best
