use Rattle.std.proofs.Common.{◌≡◌, ◌≢◌, ◌+◌, ◌<◌, ℕ, List, length, Bool, true, false, slice_index, slice_index_or, refl, sym, ap, ◌∙◌, arith, rules}
use Rattle.std.proofs.lemmas.List.Sorted.{length_permutation}
use Rattle.sabr_search.specs.declared.visit.Visit.{Visit}
use Rattle.sabr_search.proofs.ForwardLemmas.LayerEntries.{read_at}
use Rattle.sabr_search.proofs.ForwardLemmas.Queues.{found_better, flag_within, open_sooner, pushed, pushed_falls}
use Rattle.sabr_search.proofs.forward.settling.Settling.reach.Goals as goal

-- what is read of a settled node
read_hops : (settled : List Bool) (hops : List ℕ) (u x : ℕ) → slice_index_or settled u false ≡ true → length settled ≡ length hops → x ≡ slice_index_or hops u x → x ≡ slice_index hops u
read_hops settled hops u x on many at = read_at hops u x (omega (arith, flag_within settled u on, many)) at

pub index-requires : goal.index-requires
index-requires g c = omega (arith, flag_within c.args.self.now.settled.items c.args.event.node c.requires.state.on, c.requires.state.many, c.requires.state.hops_are.many)

pub returns-then-node-goal-clause-state : goal.returns-then-node-goal-clause-state
returns-then-node-goal-clause-state g c =
    let task = c.args.forward.now.task.now in
    let at : c.args.step.node ≡ task.goal = c.if-node-goal.true ∙ c.goal.ensures in
    let step = c.requires.step (ap (λ k. slice_index_or task.forbidden k false) at ∙ c.requires.task.goal_open) in
    let hops = read_hops c.args.self.now.settled.items c.args.self.now.hops.items c.args.event.node c.index.result.now c.requires.state.on (c.requires.state.many ∙ sym c.requires.state.hops_are.many) c.index.ensures in
    found_better task c.requires.task _ _ _ _ _ _ step.0 c.args.step.node c.index.result.now _ _ _ _ c.args.step.at c.requires.state hops (omega (arith, c.requires.sooner)) at step.1

pub returns : goal.returns
returns g c =
    let task = c.args.forward.now.task.now in
    let w = c.args.step.node in
    let b = c.args.step.at in
    let state = c.requires.state in
    let within : w < length c.args.self.now.arrival.items = omega (arith, state.flags, c.requires.task.as_many, c.requires.receiver) in
    let other : w ≢ task.goal = λ same. c.if-node-goal.false (same ∙ sym c.goal.ensures) in
    let less : b < slice_index c.args.self.now.arrival.items w = c.requires.news other in
    let step = c.requires.step (open_sooner task _ _ _ _ _ _ w b _ _ _ _ state c.requires.later less) in
    let hops = read_hops c.args.self.now.settled.items c.args.self.now.hops.items c.args.event.node c.index.result.now state.on (state.many ∙ sym state.hops_are.many) c.index.ensures in
    let event : Visit = record { at = b + c.cost-cost.result; node = w } in
    let at_is : event.at ≡ b + slice_index c.args.forward.now.costs.now w = omega (arith, c.cost-cost.ensures) in
    record {
      settled = refl;
      state = pushed task c.requires.task _ _ _ _ c.args.event.node c.args.event.at step.0 b _ event _ _ _ _ c.args.best state c.requires.later within less other step.1 hops at_is c.in_ok-push.ensures.ok;
      fallen = pushed_falls task c.requires.task c.args.forward.now.until _ _ _ c.args.event.node c.args.event.at step.0 b _ event _ _ _ _ c.args.best state c.requires.later within less other step.1 hops at_is c.in_ok-push.ensures.ok;
      known = search rules;
      pushes = omega (arith, length_permutation _ _ c.in_ok-push.ensures.ok);
    }
