use Rattle.std.proofs.Common.{◌≡◌, ◌∙◌, Ok, inl, inr, ap, sym, ⊎_elim}
use Rattle.sabr_model.specs.plan.Plan.{ContactPlan, TabledPlan}
use Rattle.libcgrlist.specs.Additions.{all_put, over_ranges, row_put}
use Rattle.libcgrlist.proofs.AdditionLemmas.{idle, makes_none}
use Rattle.libcgrlist.proofs.additions.with_ranges.Goals as goal

pub returns-in-Err-clause-made : goal.returns-in-Err-clause-made
returns-in-Err-clause-made c =
    let o = c.args.opened.now in
    let p = o.plan.plan in
    let rows = c.args.ranges.now in
    let whole : over_ranges p c.in-Ok.growing ≡ p = ap (over_ranges p) (c.in-Ok.ensures {u = tt} ∙ c.ranges-2.ensures ∙ ap (λ (q : TabledPlan). q.plan.ranges) c.plan-plan.ensures) in
    makes_none o (all_put row_put 0 p rows) c.in-Err.refused (sym c.has_listing.ensures ∙ c.if-has_listing.false)
    (⊎_elim (λ memory. inl memory) (λ refused. inr (ap (λ (q : ContactPlan). all_put row_put 0 q rows) (sym whole) ∙ refused)) (c.in-Err.ensures {u = tt} p))

pub returns-in-Ok-copy_over-clause-made : goal.returns-in-Ok-copy_over-clause-made
returns-in-Ok-copy_over-clause-made c =
    let o = c.args.opened.now in
    let p = o.plan.plan in
    let rows = c.args.ranges.now in
    let whole : over_ranges p c.in-Ok.growing ≡ p = ap (over_ranges p) (c.in-Ok.ensures {u = tt} ∙ c.ranges-2.ensures ∙ ap (λ (q : TabledPlan). q.plan.ranges) c.plan-plan.ensures) in
    let made : c.in-Ok-copy_over.made.plan ≡ over_ranges p c.put_ranges.new.growing =
    c.in-Ok-copy_over.ensures {u = tt}
    ∙ ap (λ (q : TabledPlan). over_ranges q.plan c.into_ranges.result.items) c.plan-plan.ensures
    ∙ ap (over_ranges p) c.into_ranges.ensures.value in
    idle o (all_put row_put 0 p rows) (sym c.has_listing.ensures ∙ c.if-has_listing.false)
    ∙ ap (λ (q : ContactPlan). all_put row_put 0 q rows) (sym whole)
    ∙ c.in_default-put_ranges.ensures {u = tt} p
    ∙ sym (ap (λ q. Ok q) made)
