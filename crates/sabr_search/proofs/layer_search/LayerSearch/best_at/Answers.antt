use Rattle.std.proofs.Common.{◌≡◌, ℕ, ◌+◌, ◌-◌, ◌*◌, ◌≤◌, length, Some, subst, sym, arith}
use Rattle.std.proofs.Math.Nat.{mul-le-mul_right}
use Rattle.sabr_search.proofs.AnswerLemmas.Law.{way_early}
use Rattle.sabr_search.proofs.AnswerLemmas.BoundedWays.{beyond_within, stops_by, same_up_to, early_bound, least_stopped, picked_is}
use Rattle.sabr_search.specs.answers.Asked.{bound_left, hops_left}
use Rattle.sabr_search.specs.layers.WholeDeadlines.{IsDeadEnd, AreWholeDeadlinesOf, IsMadeBack, LeadOn}
use Rattle.sabr_search.proofs.layer_search.LayerSearch.best_at.Given.{Over}
use Rattle.sabr_search.proofs.layer_search.LayerSearch.best_at.Goals.{After-begin}
use Rattle.sabr_search.proofs.layer_search.LayerSearch.best_at.Goals as goal

pub make_back-requires-clause-early : goal.make_back-requires-clause-early
make_back-requires-clause-early g c =
    let task = c.args.asked.now.task.now in
    let way = c.requires.some in
    omega (arith, way_early task c.requires.task way.0 task.start task.at task.goal c.args.delivery c.requires.task.time way.2)

pub returns-in_default-clause-found : goal.returns-in_default-clause-found
returns-in_default-clause-found g c =
    beyond_within c.args.asked.now.task.now (hops_left c.args.asked.now) c.args.delivery c.hops_at-most.result c.requires.least (rw c.in_default.is at c.in_ok-layer.ensures.made)

pub returns-in_default-clause-enough : goal.returns-in_default-clause-enough
returns-in_default-clause-enough g c =
    let bound = bound_left c.args.asked.now in
    let most = c.hops_at-most in
    let stopped = least_stopped c.args.asked.now.task.now bound (hops_left c.args.asked.now) most.result c.args.delivery c.requires.some (rw (c.hops_left.ensures, c.bound_left.ensures) at most.ensures.same) (rw (c.hops_left.ensures, c.bound_left.ensures) at most.ensures.other) (rw c.in_default.is at c.in_ok-layer.ensures.made) in
    same_up_to (record { delivery = c.args.delivery; hops = most.result }) bound.delivery bound.hops (sym stopped.0) (omega (arith, stopped.1))

pub returns-in_default-clause-cut : goal.returns-in_default-clause-cut
returns-in_default-clause-cut g c =
    let task = c.args.asked.now.task.now in
    let bound = bound_left c.args.asked.now in
    let most = c.hops_at-most in
    let way = c.requires.some in
    let stopped = least_stopped task bound (hops_left c.args.asked.now) most.result c.args.delivery way (rw (c.hops_left.ensures, c.bound_left.ensures) at most.ensures.same) (rw (c.hops_left.ensures, c.bound_left.ensures) at most.ensures.other) (rw c.in_default.is at c.in_ok-layer.ensures.made) in
    let by : c.args.looks.now.left ≤ c.make_back.new.looks.left + bound.hops * length task.plan.contacts = rw stopped.1 at c.make_back.ensures.counted in
    rw (early_bound c.args.delivery most.result (way_early task c.requires.task way.0 task.start task.at task.goal c.args.delivery c.requires.task.time way.2)) (omega (arith, by))

pub returns-in_err-layer-clause-stops : goal.returns-in_err-layer-clause-stops
returns-in_err-layer-clause-stops g c =
    stops_by _ _ (λ is. let few = rw is at c.in_err-layer.ensures.stops in omega (arith, few, mul-le-mul_right (length c.args.asked.now.task.now.plan.contacts) (rw c.hops_left.ensures at c.hops_at-most.ensures.most))) c.from_residual.result c.from_residual.ensures.1

one_less : (left : ℕ) → left ≡ left + 1 - 1
one_less left = omega arith

-- the layers that were made
made : (g : Over) (c : After-begin g) → IsMadeBack c.args.asked.now.task.now c.args.delivery c.hops_at-most.result c.args.looks.now c.make_back.new.looks c.make_back.new.self (Some c.in-Some.layer)
made g c = rw c.in-Some.is at c.in_ok-layer.ensures.made

-- are met, and the pick goes by them
lead : (g : Over) (c : After-begin g) → LeadOn c.args.asked.now.task.now (c.in-Some.layer + 1) c.make_back.new.self c.begin.new.self
lead g c = record {
  begun = c.begin.ensures.ends;
  sound = rw c.begin.ensures.delivery (made g c).2.sound;
  met = rw c.begin.ensures.delivery (made g c).2.met;
}

pub pick-requires-clause-whole_deadlines : goal.pick-requires-clause-whole_deadlines
pick-requires-clause-whole_deadlines g c = rw c.begin.ensures.delivery (subst (λ h. AreWholeDeadlinesOf c.args.asked.now.task.now c.args.delivery h c.make_back.new.self) (one_less c.in-Some.layer) (made g (goal.at.pick-requires-clause-whole_deadlines g c).After-begin).2.whole_deadlines)

pub pick-requires-clause-floor : goal.pick-requires-clause-floor
pick-requires-clause-floor g c = rw c.begin.ensures.delivery (λ ns e few way. c.requires.least ns e (omega (arith, few, (made g (goal.at.pick-requires-clause-floor g c).After-begin).0, c.hops_left.ensures, c.hops_at-most.ensures.most)) way)

pub pick-requires-clause-ends : goal.pick-requires-clause-ends
pick-requires-clause-ends g c = rw c.begin.ensures.ends (λ k d less. absurd (omega (arith, less)))

pub pick-requires-clause-fewer : goal.pick-requires-clause-fewer
pick-requires-clause-fewer g c = rw c.begin.ensures.delivery (subst (IsDeadEnd c.args.asked.now.task.now c.args.delivery c.args.asked.now.task.now.start c.args.asked.now.task.now.at) (one_less c.in-Some.layer) (made g (goal.at.pick-requires-clause-fewer g c).After-begin).2.fewer)

pub unreachable-requires : goal.unreachable-requires
unreachable-requires g c = (made g (goal.at.unreachable-requires g c).After-begin).2.met (rw (c.in_default-2.is, c.begin.ensures.delivery) at c.in_ok-way.ensures.walked)

-- the looks for the layers and for the pick
looks : (g : Over) (c : After-begin g) → (c.in-Some.layer + 1) * length c.args.asked.now.task.now.plan.contacts ≤ hops_left c.args.asked.now * length c.args.asked.now.task.now.plan.contacts
looks g c = mul-le-mul_right (length c.args.asked.now.task.now.plan.contacts) (omega (arith, (made g c).0, c.hops_left.ensures, c.hops_at-most.ensures.most))

pub returns-in_err-way-clause-stops : goal.returns-in_err-way-clause-stops
returns-in_err-way-clause-stops g c =
    let begun = (goal.at.returns-in_err-way-clause-stops g c).After-begin in
    stops_by _ _ (λ is. let few = rw is at c.in_err-way.ensures.stops in omega (arith, (made g begun).1, looks g begun, few (lead g begun))) c.from_residual-in_err-way.result c.from_residual-in_err-way.ensures.1

pub returns-in_err-way-clause-counted : goal.returns-in_err-way-clause-counted
returns-in_err-way-clause-counted g c =
    let begun = (goal.at.returns-in_err-way-clause-counted g c).After-begin in
    omega (arith, (made g begun).1, looks g begun, c.pick.ensures.counted (lead g begun))

pub returns-clause-counted : goal.returns-clause-counted
returns-clause-counted g c =
    let begun = (goal.at.returns-clause-counted g c).After-begin in
    omega (arith, (made g begun).1, looks g begun, c.pick.ensures.counted (lead g begun))

pub returns-clause-found : goal.returns-clause-found
returns-clause-found g c =
    let task = c.args.asked.now.task.now in
    let made = made g (goal.at.returns-clause-found g c).After-begin in
    let picked = rw (c.in-Some-2.is, c.begin.ensures.delivery) at c.in_ok-way.ensures.walked in
    rw picked.0 (picked_is task c.args.delivery (hops_left c.args.asked.now) (c.in-Some.layer + 1) _ c.requires.least (omega arith) (omega (arith, made.0, c.hops_left.ensures, c.hops_at-most.ensures.most)) (subst (IsDeadEnd task c.args.delivery task.start task.at) (one_less c.in-Some.layer) made.2.fewer) picked.1)

pub returns-clause-cut : goal.returns-clause-cut
returns-clause-cut g c =
    let begun = (goal.at.returns-clause-cut g c).After-begin in
    let picked = rw c.in-Some-2.is at c.in_ok-way.ensures.walked in
    rw picked.1.many (omega (arith, (made g begun).1, c.pick.ensures.counted (lead g begun)))
