use Rattle.std.proofs.Common.{subst, arith}
use Rattle.std.specs.Prelude.{IsTrue}
use Rattle.sabr_search.specs.declared.bound.Bound.{Bound}
use Rattle.sabr_search.specs.questions.Bounded.{is_up_to}
use Rattle.sabr_search.specs.answers.Asked.{hops_left}
use Rattle.sabr_search.proofs.AnswerLemmas.BoundedWays.{any_up_to, none_by, stops_weaker}
use Rattle.sabr_search.proofs.layer_search.LayerSearch.best_within.Goals as goal

pub returns-in_default-clause-found : goal.returns-in_default-clause-found
returns-in_default-clause-found g c =
    rw c.at_any_hops.ensures (none_by c.args.asked.now.task.now c.requires.task (hops_left c.args.asked.now) c.bound_left-bound.result (rw (c.in_default.is, c.until.ensures, c.hops_left.ensures) at c.in_ok-made.ensures.made))

pub returns-in_default-clause-enough : goal.returns-in_default-clause-enough
returns-in_default-clause-enough g c =
    let bound = c.bound_left-bound.result in
    let enough : IsTrue (is_up_to c.at_any_hops.result bound.delivery bound.hops) = rw c.at_any_hops.ensures (any_up_to bound (omega arith) (omega arith)) in
    subst (λ (b : Bound). IsTrue (is_up_to c.at_any_hops.result b.delivery b.hops)) c.bound_left-bound.ensures enough

pub best_at-requires-clause-least : goal.best_at-requires-clause-least
best_at-requires-clause-least g c = (rw (c.in-Some.is, c.hops_left.ensures) at c.in_ok-made.ensures.made).least

pub best_at-requires-clause-some : goal.best_at-requires-clause-some
best_at-requires-clause-some g c =
    let found = (rw (c.in-Some.is, c.hops_left.ensures) at c.in_ok-made.ensures.made).found in
    (found.3.0, omega (arith, found.3.1, found.1), found.3.2)

pub returns-clause-stops : goal.returns-clause-stops
returns-clause-stops g c = stops_weaker _ _ (λ few. omega (arith, few, rw c.hops_left.ensures at c.make.ensures.counted)) c.best_at.result c.best_at.ensures.stops
