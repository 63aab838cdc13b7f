use Rattle.std.proofs.Common.{◌-◌, ◌∙◌, arith}
use Rattle.sabr_search.specs.answers.Asked.{hops_left}
use Rattle.sabr_search.proofs.AnswerLemmas.Answered.{left_less}
use Rattle.sabr_search.proofs.AnswerLemmas.BoundedWays.{beyond_within, dead_beyond, dead_fewer, picked_is}
use Rattle.sabr_search.proofs.WholeLemmas.Leaves.{dead_none, level_fewer}
use Rattle.sabr_search.proofs.early.whole_deadlines.WholeDeadlines.find.Goals as goal
use Rattle.sabr_search.proofs.early.whole_deadlines.WholeDeadlines.find.Goals.{then-most-hops, else-most-hops}

pub overflow_add-count-end : goal.overflow_add-count-end
overflow_add-count-end g c = omega (arith, c.hops_left-hops.ensures, c.hops_at-most.ensures.most, left_less c.args.asked.now.task.now c.args.asked.now.prefix.now c.requires.asked, c.requires.asked.task_is.few)

pub loop-count-init : goal.loop-count-init
loop-count-init g c = record {
  delivery = c.begin.ensures.delivery;
  some = omega arith;
  ends = rw c.begin.ensures.ends (λ k d less. absurd (omega (arith, less)));
  dead = dead_none c.args.asked.now.task.now c.requires.asked.task_is c.args.asked.now.floor;
}

pub loop-count-preserved-then-is_too_late : goal.loop-count-preserved-then-is_too_late
loop-count-preserved-then-is_too_late g c = record {
  delivery = c.loop-count.invariant.delivery;
  some = omega arith;
  ends = c.loop-count.invariant.ends;
  dead = dead_fewer c.args.asked.now.task.now _ _ _ c.loop-count.count _ (omega arith) (rw c.loop-count.invariant.delivery at (c.is_too_late.ensures c.if-is_too_late.true));
}

pub is_too_late-requires-clause-whole_deadlines : goal.is_too_late-requires-clause-whole_deadlines
is_too_late-requires-clause-whole_deadlines g c = rw c.loop-count.invariant.delivery (level_fewer c.args.asked.now.task.now c.requires.asked.task_is _ (hops_left c.args.asked.now) _ c.requires.whole_deadlines c.loop-count.count (omega (arith, c.loop-count-test.true, c.hops_at-most.ensures.most, c.hops_left-hops.ensures)))

pub pick-requires-clause-whole_deadlines : goal.pick-requires-clause-whole_deadlines
pick-requires-clause-whole_deadlines g c = rw c.loop-count.invariant.delivery (level_fewer c.args.asked.now.task.now c.requires.asked.task_is _ (hops_left c.args.asked.now) _ c.requires.whole_deadlines (c.loop-count.count - 1) (omega (arith, c.loop-count-test.true, c.hops_at-most.ensures.most, c.hops_left-hops.ensures)))

pub pick-requires-clause-floor : goal.pick-requires-clause-floor
pick-requires-clause-floor g c = rw c.loop-count.invariant.delivery (λ ns e few way. c.requires.floor ns e (omega (arith, few, c.loop-count-test.true, c.hops_at-most.ensures.most, c.hops_left-hops.ensures)) way)

pub returns-in-Some : goal.returns-in-Some
returns-in-Some g c =
    let picked = rw (c.in-Some.is, c.loop-count.invariant.delivery) at c.in_ok-way.ensures.walked in
    rw picked.0 (picked_is c.args.asked.now.task.now c.args.asked.now.floor (hops_left c.args.asked.now) c.loop-count.count _ c.requires.floor c.loop-count.invariant.some
    (omega (arith, c.loop-count-test.true, c.hops_at-most.ensures.most, c.hops_left-hops.ensures)) c.loop-count.invariant.dead picked.1)

pub loop-count-preserved : goal.loop-count-preserved
loop-count-preserved g c = record {
  delivery = c.pick.ensures.delivery ∙ c.loop-count.invariant.delivery;
  some = omega arith;
  ends = rw c.loop-count.invariant.delivery at c.in_ok-way.ensures.ends;
  dead = dead_fewer c.args.asked.now.task.now _ _ _ c.loop-count.count _ (omega arith) (rw (c.in_default.is, c.loop-count.invariant.delivery) at c.in_ok-way.ensures.walked);
}

pub returns : goal.returns
returns g c =
    let task = c.args.asked.now.task.now in
    let d = c.args.asked.now.floor in
    let hops = hops_left c.args.asked.now in
    let most = c.hops_at-most.result in
    let dead = dead_fewer task d _ _ _ most (omega (arith, c.loop-count-test.false)) c.loop-count.invariant.dead in
    elim c.if-most-hops.branch [
      | then-most-hops w ↦ dead_beyond task d hops _ (dead_fewer task d _ _ _ hops (omega (arith, w.if-most-hops.true, c.hops_left-hops.ensures)) dead)
      | else-most-hops w ↦ rw w.result-is (beyond_within task hops d most c.requires.floor (λ ns e few way. dead ns task.at e (omega arith) few way))
    ]
