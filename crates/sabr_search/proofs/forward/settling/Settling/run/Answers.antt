use Rattle.std.proofs.Common.{◌≡◌, ◌<◌, length, slice_index_or, false, refl, sym, ◌∙◌, arith}
use Rattle.std.proofs.lemmas.List.Sorted.{length_permutation}
use Rattle.sabr_search.proofs.ForwardLemmas.Queues.{head_inside, waits_later, queue_stale}
use Rattle.sabr_search.proofs.ForwardLemmas.FirstWays.{start_sent, next_most, next_state, next_counted, next_settled, settled_stale, reached_found, read_flag}
use Rattle.sabr_search.proofs.ForwardLemmas.LayerEntries.{read_at}
use Rattle.sabr_search.proofs.AnswerLemmas.BoundedWays.{stops_by}
use Rattle.sabr_search.proofs.WholeLemmas.Walks.{degree_at_most}
use Rattle.sabr_search.proofs.forward.settling.Settling.run.Goals as goal

pub loop-event-init : goal.loop-event-init
loop-event-init g c =
    let task = c.args.forward.now.task.now in
    let start = c.in_ok-best.ensures in
    record {
      counted = omega (arith, c.first_steps.ensures.counted, start_sent task c.requires.task c.first_events.new.self.settled.items c.settle_start.new.self.settled.items task.start c.in_ok-first_events.ensures.settled refl c.settle_start.ensures.settled);
      settled = start.state;
    }

pub returns-in_err-first_steps-clause-stops : goal.returns-in_err-first_steps-clause-stops
returns-in_err-first_steps-clause-stops g c =
    stops_by _ _ (λ is. let few = rw is at c.in_err-first_steps.ensures.stops in omega (arith, few, degree_at_most c.args.forward.now.task.now c.args.forward.now.task.now.start)) c.from_residual.result c.from_residual.ensures.1

pub index-requires : goal.index-requires
index-requires g c =
    let was = c.loop-event.invariant.settled in
    omega (arith, was.flags, was.many, head_inside _ _ _ _ _ _ _ c.in-Some.event was.queue_is c.in-Some.ensures.moved c.in-Some.ensures.first)

pub index-requires-then-not-index : goal.index-requires-then-not-index
index-requires-then-not-index g c = omega (arith, head_inside _ _ _ _ _ _ _ c.in-Some.event c.loop-event.invariant.settled.queue_is c.in-Some.ensures.moved c.in-Some.ensures.first)

pub settle-requires-clause-node : goal.settle-requires-clause-node
settle-requires-clause-node g c =
    let was = c.loop-event.invariant.settled in
    omega (arith, was.flags, c.requires.task.as_many, head_inside _ _ _ _ _ _ _ c.in-Some.event was.queue_is c.in-Some.ensures.moved c.in-Some.ensures.first)

pub settle-requires-clause-reached : goal.settle-requires-clause-reached
settle-requires-clause-reached g c =
    let was = c.loop-event.invariant.settled in
    sym (read_at c.loop-event.self.arrival.items c.in-Some.event.node c.index-then-not-index.result.now (head_inside _ _ _ _ _ _ _ c.in-Some.event was.queue_is c.in-Some.ensures.moved c.in-Some.ensures.first) c.index-then-not-index.ensures)

pub settle-requires-clause-state : goal.settle-requires-clause-state
settle-requires-clause-state g c =
    let was = c.loop-event.invariant.settled in
    let within : c.in-Some.event.node < length c.loop-event.self.settled.items = omega (arith, was.flags, was.many, head_inside _ _ _ _ _ _ _ c.in-Some.event was.queue_is c.in-Some.ensures.moved c.in-Some.ensures.first) in
    let off : slice_index_or c.loop-event.self.settled.items c.in-Some.event.node false ≡ false = sym (read_flag c.loop-event.self.settled.items c.in-Some.event.node c.index.result.now within c.index.ensures) ∙ c.if-not-index.true in
    let at = read_at c.loop-event.self.arrival.items c.in-Some.event.node c.index-then-not-index.result.now (omega (arith, was.many, was.flags, within)) c.index-then-not-index.ensures in
    rw at (next_state c.args.forward.now.task.now c.requires.task _ _ _ _ _ _ _ _ _ c.in-Some.event was c.in-Some.ensures.moved c.in-Some.ensures.first off c.requires.bound)

pub links-links-requires-clause-node : goal.links-links-requires-clause-node
links-links-requires-clause-node g c =
    let was = c.loop-event.invariant.settled in
    omega (arith, was.flags, c.requires.task.as_many, head_inside _ _ _ _ _ _ _ c.in-Some.event was.queue_is c.in-Some.ensures.moved c.in-Some.ensures.first)

pub returns-then-links-left-clause-stops : goal.returns-then-links-left-clause-stops
returns-then-links-left-clause-stops g c =
    let was = c.loop-event.invariant.settled in
    let within : c.in-Some.event.node < length c.loop-event.self.settled.items = omega (arith, was.flags, was.many, head_inside _ _ _ _ _ _ _ c.in-Some.event was.queue_is c.in-Some.ensures.moved c.in-Some.ensures.first) in
    let off : slice_index_or c.loop-event.self.settled.items c.in-Some.event.node false ≡ false = sym (read_flag c.loop-event.self.settled.items c.in-Some.event.node c.index.result.now within c.index.ensures) ∙ c.if-not-index.true in
    let most = next_most c.args.forward.now.task.now c.requires.task _ _ _ _ _ _ _ _ _ c.in-Some.event was c.in-Some.ensures.moved c.in-Some.ensures.first off in
    omega (arith, most, c.loop-event.invariant.counted, c.if-links-left.true, c.left.ensures, c.links-links.ensures.few)

pub returns-in_err-best-2-clause-counted : goal.returns-in_err-best-2-clause-counted
returns-in_err-best-2-clause-counted g c =
    let was = c.loop-event.invariant.settled in
    let within : c.in-Some.event.node < length c.loop-event.self.settled.items = omega (arith, was.flags, was.many, head_inside _ _ _ _ _ _ _ c.in-Some.event was.queue_is c.in-Some.ensures.moved c.in-Some.ensures.first) in
    let off : slice_index_or c.loop-event.self.settled.items c.in-Some.event.node false ≡ false = sym (read_flag c.loop-event.self.settled.items c.in-Some.event.node c.index.result.now within c.index.ensures) ∙ c.if-not-index.true in
    let most = next_most c.args.forward.now.task.now c.requires.task _ _ _ _ _ _ _ _ _ c.in-Some.event was c.in-Some.ensures.moved c.in-Some.ensures.first off in
    omega (arith, most, c.loop-event.invariant.counted, c.settle.ensures.looks, c.links-links.ensures.few)

pub loop-event-smaller-then-not-index : goal.loop-event-smaller-then-not-index
loop-event-smaller-then-not-index g c = omega (arith, length_permutation _ _ c.in-Some.ensures.moved, c.in_ok-best-2.ensures.pushes)

pub loop-event-preserved-then-not-index : goal.loop-event-preserved-then-not-index
loop-event-preserved-then-not-index g c =
    let task = c.args.forward.now.task.now in
    let was = c.loop-event.invariant.settled in
    let within : c.in-Some.event.node < length c.loop-event.self.settled.items = omega (arith, was.flags, was.many, head_inside _ _ _ _ _ _ _ c.in-Some.event was.queue_is c.in-Some.ensures.moved c.in-Some.ensures.first) in
    let off : slice_index_or c.loop-event.self.settled.items c.in-Some.event.node false ≡ false = sym (read_flag c.loop-event.self.settled.items c.in-Some.event.node c.index.result.now within c.index.ensures) ∙ c.if-not-index.true in
    let arrives = read_at c.loop-event.self.arrival.items c.in-Some.event.node c.index-then-not-index.result.now (omega (arith, was.many, was.flags, within)) c.index-then-not-index.ensures in
    let settled = c.in_ok-best-2.ensures in
    record {
      counted = next_counted task c.requires.task _ _ _ _ _ _ _ _ _ c.in-Some.event was c.in-Some.ensures.moved c.in-Some.ensures.first off _ _ _ settled.settled (omega (arith, settled.looks, c.links-links.ensures.few, c.loop-event.invariant.counted));
      settled = next_settled task c.requires.task _ _ _ _ _ _ _ _ _ c.in-Some.event was c.in-Some.ensures.moved c.in-Some.ensures.first off _ _ _ _ _
          settled.settled (rw arrives at settled.state) settled.fallen settled.taken;
    }

pub loop-event-smaller : goal.loop-event-smaller
loop-event-smaller g c = omega (arith, length_permutation _ _ c.in-Some.ensures.moved)

pub loop-event-preserved : goal.loop-event-preserved
loop-event-preserved g c =
    let was = c.loop-event.invariant.settled in
    let within : c.in-Some.event.node < length c.loop-event.self.settled.items = omega (arith, was.flags, was.many, head_inside _ _ _ _ _ _ _ c.in-Some.event was.queue_is c.in-Some.ensures.moved c.in-Some.ensures.first) in
    let on = sym (read_flag c.loop-event.self.settled.items c.in-Some.event.node c.index.result.now within c.index.ensures) ∙ c.if-not-index.false in
    record {
      counted = c.loop-event.invariant.counted;
      settled = settled_stale _ _ _ _ _ _ _ _ _ _ was (queue_stale _ _ _ _ _ _ _ c.in-Some.event was.queue_is c.in-Some.ensures.moved c.in-Some.ensures.first on);
    }

pub returns-then-event-best-clause-reached : goal.returns-then-event-best-clause-reached
returns-then-event-best-clause-reached g c =
    let was = c.loop-event.invariant.settled in
    reached_found c.args.forward.now.task.now c.requires.task _ _ _ c.requires.bound _ _ _ _ c.loop-event.best was
    (λ f there. omega (arith, c.if-event-best.true, waits_later _ _ _ _ _ _ _ c.in-Some.event was.queue_is c.in-Some.ensures.moved c.in-Some.ensures.first f there)) _ c.found.ensures

pub returns-clause-reached : goal.returns-clause-reached
returns-clause-reached g c =
    reached_found c.args.forward.now.task.now c.requires.task _ _ _ c.requires.bound _ _ _ _ c.loop-event.best c.loop-event.invariant.settled
    (λ f there. (let none = rw c.in_default.ensures.none at there in absurd (omega (arith, none.1)))) _ c.found-2.ensures

pub settle_start-requires-clause-steps : goal.settle_start-requires-clause-steps
settle_start-requires-clause-steps g c = rw c.deref.ensures.value c.in_ok-first_steps.ensures.all
