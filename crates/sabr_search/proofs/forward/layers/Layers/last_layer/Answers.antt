use Rattle.std.proofs.Common.{◌≡◌, ◌≤◌, inl, inr, ℕ, List, true, false, slice_index, slice_index_or, subst, sym, ap, ◌∙◌, arith}
use Rattle.std.proofs.lemmas.Bool.{both_ways, cases_lt}
use Rattle.std.proofs.lemmas.Option.{slice_get_within}
use Rattle.sabr_index.specs.Links.{SentLink}
use Rattle.sabr_search.specs.questions.Task.{SearchTask, Takes}
use Rattle.sabr_search.specs.questions.Linked.{HasNumber}
use Rattle.sabr_search.proofs.BackwardLemmas.Relaxing.{each_until}
use Rattle.sabr_search.proofs.ForwardLemmas.LayerEntries.{read_at, received_all}
use Rattle.sabr_search.proofs.LinkLemmas.Linking.{passes_within}
use Rattle.sabr_search.proofs.LinkLemmas.OverLinks.{ruled_out}
use Rattle.sabr_search.proofs.WayLemmas.RoutesAndWays.{same_some}
use Rattle.sabr_search.proofs.forward.layers.Layers.last_layer.Goals as goal

-- what is known of one link to the goal
abbrev IsKnownOf : SearchTask → ℕ → List ℕ → ℕ → SentLink → Type 0
IsKnownOf task to arrival earliest s = (n b : ℕ) → HasNumber s.passes n → Takes task n s.sender (slice_index arrival s.sender) to b → slice_index_or task.forbidden s.sender false ≡ false → earliest ≤ b

pub loop-place-preserved-then-rules_out : goal.loop-place-preserved-then-rules_out
loop-place-preserved-then-rules_out g c =
    let task = c.args.task.now in
    let to = c.goal-goal.result in
    let arrival = c.args.self.now.arrival.items in
    let so_far = c.loop-place.invariant in
    let here = c.head-head.ensures in
    let u = c.head-head.result.node in
    let link = c.senders-senders.ensures.each c.loop-place.place (record { sender = u; passes = here.0 }) here.1 in
    let at = read_at arrival u c.index-at.result.now (omega (arith, c.senders-senders.ensures.senders c.loop-place.place _ here.1, c.requires.many)) c.index-at.ensures in
    record {
      counted = omega (arith, so_far.counted, (passes_within task to c.senders-senders.result c.senders-senders.ensures c.loop-place.place _ here.1).0);
      lower = so_far.lower;
      known = each_until (IsKnownOf task to arrival c.loop-place.earliest) c.senders-senders.result c.loop-place.place _ here.1 so_far.known
          (λ n b has s open'. ruled_out task c.requires.task u to here.0 link c.head-head.result.bounds here.2 c.index-at.result.now c.loop-place.earliest (c.rules_out.ensures.ruled_out c.if-rules_out.true) n (slice_index arrival u) to b has (omega (arith, at)) s);
      found = so_far.found;
    }

pub loop-place-preserved-then-forbidden-head : goal.loop-place-preserved-then-forbidden-head
loop-place-preserved-then-forbidden-head g c =
    let task = c.args.task.now in
    let to = c.goal-goal.result in
    let arrival = c.args.self.now.arrival.items in
    let so_far = c.loop-place.invariant in
    let here = c.head-head.ensures in
    record {
      counted = omega (arith, so_far.counted, (passes_within task to c.senders-senders.result c.senders-senders.ensures c.loop-place.place _ here.1).0);
      lower = so_far.lower;
      known = each_until (IsKnownOf task to arrival c.loop-place.earliest) c.senders-senders.result c.loop-place.place _ here.1 so_far.known
          (λ n b has s open'. absurd (both_ways (slice_index_or task.forbidden c.head-head.result.node false) open' (subst (λ xs. slice_index_or xs c.head-head.result.node false ≡ true) c.forbidden.ensures c.if-forbidden-head.true)));
      found = so_far.found;
    }

pub arrive_over-earliest-requires-clause-few : goal.arrive_over-earliest-requires-clause-few
arrive_over-earliest-requires-clause-few g c =
    let task = c.args.task.now in
    let to = c.goal-goal.result in
    omega (arith, c.requires.few, c.loop-place.invariant.counted, (passes_within task to c.senders-senders.result c.senders-senders.ensures c.loop-place.place _ c.at-from.ensures.link).1, received_all task to)

pub loop-place-preserved : goal.loop-place-preserved
loop-place-preserved g c =
    let task = c.args.task.now in
    let to = c.goal-goal.result in
    let arrival = c.args.self.now.arrival.items in
    let so_far = c.loop-place.invariant in
    let over = c.arrive_over-earliest.ensures in
    let u = c.at-from.result.node in
    let here = c.at-from.ensures.link in
    let node : u ≡ c.head-head.result.node = ap (λ (s : SentLink). s.sender) (same_some (sym here ∙ c.head-head.ensures.1)) in
    let at = read_at arrival u c.index-at.result.now (omega (arith, c.senders-senders.ensures.senders c.loop-place.place _ here, c.requires.many)) (rw node c.index-at.ensures) in
    record {
      counted = omega (arith, so_far.counted, over.looks, (passes_within task to c.senders-senders.result c.senders-senders.ensures c.loop-place.place _ here).0);
      lower = omega (arith, over.upper, so_far.lower);
      known = each_until (IsKnownOf task to arrival c.arrive_over-earliest.result) c.senders-senders.result c.loop-place.place _ here
          (λ j s less there n b has step open'. omega (arith, over.upper, so_far.known j s less there n b has step open'))
          (λ n b has s open'. over.full n to b has (rw (← at) at s));
      found = elim (cases_lt c.arrive_over-earliest.result c.loop-place.earliest) [
        | inr more ↦ (let same : c.arrive_over-earliest.result ≡ c.loop-place.earliest = omega (arith, more, over.upper) in rw same so_far.found)
        | inl less ↦
            (let step = over.sound less (ap (λ k. slice_index_or task.forbidden k false) c.goal-goal.ensures ∙ c.requires.task.goal_open) in
            let open' : slice_index_or task.forbidden c.head-head.result.node false ≡ false = subst (λ xs. slice_index_or xs c.head-head.result.node false ≡ false) c.forbidden.ensures c.if-forbidden-head.false in
            inr (u, step.0, subst (λ k. slice_index_or task.forbidden k false ≡ false) (sym node) open', subst (λ t. Takes task step.0 u t task.goal c.arrive_over-earliest.result) at (subst (λ k. Takes task step.0 u c.index-at.result.now k c.arrive_over-earliest.result) c.goal-goal.ensures step.1)))
      ];
    }

pub returns-clause-known : goal.returns-clause-known
returns-clause-known g c = λ n u b step open'.
    let s = subst (λ k. Takes c.args.task.now n u (slice_index c.args.self.now.arrival.items u) k b) (sym c.goal-goal.ensures) step in
    let on = c.senders-senders.ensures.whole n u (slice_index c.args.self.now.arrival.items u) b s in
    c.loop-place.invariant.known on.0 on.1 (omega (arith, slice_get_within c.senders-senders.result on.0 on.1 on.2, c.loop-place-test.false, c.len-place-end.ensures)) on.2 n b on.4 (rw (← on.3) at s) (rw (← on.3) at open')
