use Rattle.std.proofs.Common.{subst, arith}
use Rattle.std.specs.Prelude.{IsTrue}
use Rattle.sabr_search.specs.declared.bound.Bound.{Bound}
use Rattle.sabr_search.specs.questions.Bounded.{is_up_to}
use Rattle.sabr_search.proofs.WayLemmas.EarliestSeconds.{arrivals_lowered}
use Rattle.sabr_search.specs.answers.Asked.{hops_left}
use Rattle.sabr_search.proofs.AnswerLemmas.Answered.{bounds_of_nodes}
use Rattle.sabr_search.proofs.AnswerLemmas.BoundedWays.{any_up_to, none_by, stops_by, stops_weaker}
use Rattle.std.proofs.lemmas.Result.{IfOk-weaker}
use Rattle.sabr_search.proofs.search.Search.run.Goals as goal

pub run-requires-clause-bound : goal.run-requires-clause-bound
run-requires-clause-bound g c =
    let deadline = c.deadlines_for.ensures _ _ c.requires.node_bounds in
    rw c.deref.ensures.value (bounds_of_nodes c.args.asked.now.task.now c.requires.task.nodes c.requires.request _ _ _ deadline c.requires.node_bounds.costs)

pub returns-in_default-clause-found : goal.returns-in_default-clause-found
returns-in_default-clause-found g c =
    let none = (rw (c.in_default.is, c.until-until.ensures) at c.in_ok-reached.ensures.reached).0 in
    rw c.at_any_hops.ensures (none_by c.args.asked.now.task.now c.requires.task (hops_left c.args.asked.now) c.bound_left-bound.result (λ ns e within way. none ns e way))

pub returns-in_default-clause-enough : goal.returns-in_default-clause-enough
returns-in_default-clause-enough g c =
    let bound = c.bound_left-bound.result in
    let enough : IsTrue (is_up_to c.at_any_hops.result bound.delivery bound.hops) = rw c.at_any_hops.ensures (any_up_to bound (omega arith) (omega arith)) in
    subst (λ (b : Bound). IsTrue (is_up_to c.at_any_hops.result b.delivery b.hops)) c.bound_left-bound.ensures enough

pub best_within-requires-clause-arrivals : goal.best_within-requires-clause-arrivals
best_within-requires-clause-arrivals g c =
    let by = (rw c.in-Some.is at c.in_ok-reached.ensures.reached).1 in
    arrivals_lowered c.args.asked.now.task.now c.node_count-2.result c.deref-3.result.now c.deref-4.result.now c.deref-5.result.now c.in-Some.best.delivery (omega (arith, c.node_count-2.ensures, c.requires.task.as_many)) (rw c.deref-5.ensures.value c.requires.soon)
    (rw (c.deref-3.ensures.value, c.deref-4.ensures.value) (rw c.deref.ensures.value at by))

pub best_at-requires-clause-arrivals : goal.best_at-requires-clause-arrivals
best_at-requires-clause-arrivals g c =
    let by = (rw c.in-Some.is at c.in_ok-reached.ensures.reached).1 in
    arrivals_lowered c.args.asked.now.task.now c.node_count-2.result c.deref-3.result.now c.deref-4.result.now c.deref-5.result.now c.in-Some.best.delivery (omega (arith, c.node_count-2.ensures, c.requires.task.as_many)) (rw c.deref-5.ensures.value c.requires.soon)
    (rw (c.deref-3.ensures.value, c.deref-4.ensures.value) (rw c.deref.ensures.value at by))

pub returns-in_err-reached-clause-stops : goal.returns-in_err-reached-clause-stops
returns-in_err-reached-clause-stops g c = stops_by _ _ (λ is. let few = rw is at c.in_err-reached.ensures.stops in omega (arith, few)) c.from_residual.result c.from_residual.ensures.1

pub returns-then-best-hops-clause-stops : goal.returns-then-best-hops-clause-stops
returns-then-best-hops-clause-stops g c = stops_weaker _ _ (λ few. omega (arith, few, c.run.ensures.counted)) c.best_within.result c.best_within.ensures.stops

pub returns-clause-stops : goal.returns-clause-stops
returns-clause-stops g c = stops_weaker _ _ (λ few. omega (arith, few, c.run.ensures.counted)) c.best_at.result c.best_at.ensures.stops

pub best_at-requires-clause-some : goal.best_at-requires-clause-some
best_at-requires-clause-some g c =
    let way = (rw c.in-Some.is at c.in_ok-reached.ensures.reached).0.some in
    (way.0, omega (arith, way.1, c.if-best-hops.false), way.2)

-- the first way has fewer hops than there are nodes, so that only a limit forbids it
pub returns-then-best-hops-clause-cut : goal.returns-then-best-hops-clause-cut
returns-then-best-hops-clause-cut g c =
    let first = (rw c.in-Some.is at c.in_ok-reached.ensures.reached).0 in
    IfOk-weaker c.best_within.result _ _ (λ found is all. absurd (omega (arith, all, first.few, c.if-best-hops.true, c.hops_left-hops.ensures))) c.best_within.ensures.found

pub returns-clause-cut : goal.returns-clause-cut
returns-clause-cut g c = IfOk-weaker c.best_at.result _ _ (λ found is all. omega (arith, is, c.run.ensures.counted)) c.best_at.ensures.cut

pub best_within-requires-clause-steps : goal.best_within-requires-clause-steps
best_within-requires-clause-steps g c = rw c.deref-then-best-hops.ensures.value c.in_ok-reached.ensures.steps

pub best_at-requires-clause-steps : goal.best_at-requires-clause-steps
best_at-requires-clause-steps g c = rw c.deref-6.ensures.value c.in_ok-reached.ensures.steps
