use Rattle.std.proofs.Common.{subst}
use Rattle.sabr_model.specs.plan.Plan.{TabledPlan, IsPlan}
use Rattle.libcgrlist.proofs.AnswerLemmas.{first_of}
use Rattle.libcgrlist.proofs.first.listed.Goals as goal

pub returns : goal.returns
returns c = first_of c.args.index c.args.request c.args.count c.first_page.result (subst (λ (q : TabledPlan). IsPlan q.plan) c.plan.ensures c.rules_hold.ensures) c.limits_hold.ensures c.law6.ensures c.law3.ensures c.first_page.ensures
