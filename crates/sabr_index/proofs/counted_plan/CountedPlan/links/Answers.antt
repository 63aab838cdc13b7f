use Rattle.sabr_index.proofs.counted_plan.CountedPlan.links.Goals as goal

pub returns : goal.returns
returns g c = λ node e. c.plan_links.ensures.links c.args.index node _ c.of.ensures e
