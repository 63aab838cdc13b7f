use Rattle.sabr_plan.proofs.SpelledPlans.{plan_is}
use Rattle.sabr_plan.proofs.laws.spelled_plans_obey.Goals as goal

pub returns : goal.returns
returns c = plan_is
