use Rattle.std.proofs.Common.{◌≡◌, ◌∙◌, insert, ap, arith}
use Rattle.sabr_model.specs.Order.{put_in}
use Rattle.sabr_model.specs.plan.Plan.{TabledPlan}
use Rattle.sabr_model.specs.plan.Adding.{range_refusal, with_range, by_range_key}
use Rattle.sabr_model.proofs.PlanLemmas.RangeLemmas.{IsPlan-range}
use Rattle.sabr_model.proofs.PlanLemmas.RangeOrder.{range_list, count_is_put}
use Rattle.sabr_model.proofs.PlanLemmas.KnownLemmas.{unlit}
use Rattle.sabr_model.proofs.plan.Plan.put_range.Given.{Over}
use Rattle.sabr_model.proofs.plan.Plan.put_range.Goals.{After-ranges_until-place}
use Rattle.sabr_model.proofs.plan.Plan.put_range.Goals as goal

pub ranges_until-place-requires : goal.ranges_until-place-requires
ranges_until-place-requires g c =
    rw c.deref.ensures.value (range_list _ c.self.invariant.0)

-- the range goes where a put puts it
put : (g : Over) (c : After-ranges_until-place g) → insert c.self.inside.ranges.items c.ranges_until-place.result c.args.range ≡ put_in by_range_key c.args.range c.self.inside.ranges.items
put g c =
    count_is_put _ c.args.range c.ranges_until-place.result c.self.invariant.0 (ap (λ (q : TabledPlan). range_refusal q.plan c.args.range) c.self.view_is ∙ c.requires.accepted) (rw (c.deref.ensures.value, c.key.ensures) at c.ranges_until-place.ensures)

pub invariant_of-self-2 : goal.invariant_of-self-2
invariant_of-self-2 g c =
    rw (c.in_ok-insert.ensures.items, put g (goal.at.invariant_of-self-2 g c).After-ranges_until-place) (
      IsPlan-range _ c.args.range c.self.invariant.0 (c.requires.one, omega arith) (c.requires.other, omega arith) c.requires.end c.requires.light (ap (λ (q : TabledPlan). range_refusal q.plan c.args.range) c.self.view_is ∙ c.requires.accepted),
      c.self.invariant.1,
      unlit _ _ _ _ _ _ c.self.invariant.2,
      c.self.invariant.3,
    )

pub returns-clause-ok : goal.returns-clause-ok
returns-clause-ok g c =
    rw (c.in_ok-insert.ensures.items, put g (goal.at.returns-clause-ok g c).After-ranges_until-place)
    (ap (λ (q : TabledPlan). let r : TabledPlan = record { plan = with_range q.plan c.args.range; table = q.table } in r) c.self.view_is)
