use Rattle.std.proofs.Common.{subst}
use Rattle.sabr_model.specs.plan.Plan.{TabledPlan, IsPlan}
use Rattle.sabr_model.specs.routes.Asking.{IsRequest}
use Rattle.commands.proofs.RunLemmas.ManyAnswers.{first_pages}
use Rattle.commands.proofs.runs.answering.Answering.first_page.Goals as goal

pub returns-clause-page : goal.returns-clause-page
returns-clause-page g c =
    let started = (c.in_ok-listing.ensures {u = tt}).started in
    let rules = subst (λ (q : TabledPlan). IsPlan q.plan) c.plan.ensures c.rules_hold.ensures in
    first_pages c.args.self.now c.args.request c.in_ok-listing.listing c.args.count c.last_page.result rules (subst IsRequest c.request.ensures c.limits_hold.ensures) started c.last_page.ensures
