use Rattle.std.proofs.Common.{◌≡◌, ◌<◌, slice_index, ap, sym, ◌∙◌, arith}
use Rattle.std.proofs.lemmas.Option.{slice_get_within}
use Rattle.sabr_index.specs.Links.{SentLink}
use Rattle.sabr_search.specs.layers.Relaxation.{AreLeftOver}
use Rattle.sabr_search.proofs.ForwardLemmas.LayerEntries.{read_at}
use Rattle.sabr_search.proofs.WayLemmas.RoutesAndWays.{takes_timely}
use Rattle.sabr_search.proofs.BackwardLemmas.Relaxing.{each_until, left_here, left_more, raised_here, raised_later, raised_other, still_relaxing}
use Rattle.sabr_search.proofs.backward.relaxation.Relaxation.relax_senders.Goals as goal

pub loop-place-init : goal.loop-place-init
loop-place-init g c = record {
  relaxing = c.requires.relaxing;
  rises = λ k. omega arith;
  same = sym (read_at c.args.self.now.seconds.items c.args.node c.index.result.now (omega (arith, c.requires.node, c.requires.relaxing.many)) c.index.ensures);
  reached = λ j s less. absurd (omega (arith, less));
}

pub index-latest-requires : goal.index-latest-requires
index-latest-requires g c = omega (arith, c.senders-senders.ensures.senders c.loop-place.place _ c.head-from.ensures.1, c.loop-place.invariant.relaxing.many)

pub loop-place-preserved-then-second-latest : goal.loop-place-preserved-then-second-latest
loop-place-preserved-then-second-latest g c =
    let task = c.args.backward.now.task.now in
    let rule = c.args.backward.now.rule in
    let seconds = c.loop-place.self.seconds.items in
    let so_far = c.loop-place.invariant in
    let from : SentLink = record { sender = c.head-from.result.node; passes = c.head-from.ensures.0 } in
    let latest = read_at seconds from.sender c.index-latest.result.now (omega (arith, c.senders-senders.ensures.senders c.loop-place.place from c.head-from.ensures.1, so_far.relaxing.many)) c.index-latest.ensures in
    record {
      relaxing = so_far.relaxing;
      rises = so_far.rises;
      same = so_far.same;
      reached = each_until (λ (s : SentLink). AreLeftOver rule task s.sender s.passes c.args.node (slice_index seconds s.sender) c.index.result.now) c.senders-senders.result c.loop-place.place from c.head-from.ensures.1 so_far.reached
          (λ n t b has step open' other. left_more rule _ _ _ _ t b (omega (arith, latest, c.if-second-latest.true)) (c.in_ok-second.ensures from c.head-from.ensures.1 n t b has step open' other));
    }

pub loop-place-preserved-then-from-node : goal.loop-place-preserved-then-from-node
loop-place-preserved-then-from-node g c =
    let task = c.args.backward.now.task.now in
    let rule = c.args.backward.now.rule in
    let seconds = c.loop-place.self.seconds.items in
    let so_far = c.loop-place.invariant in
    let from : SentLink = record { sender = c.head-from.result.node; passes = c.head-from.ensures.0 } in
    let here : slice_index seconds from.sender ≡ c.index.result.now = ap (slice_index seconds) c.if-from-node.true ∙ so_far.same in
    record {
      relaxing = so_far.relaxing;
      rises = so_far.rises;
      same = so_far.same;
      reached = each_until (λ (s : SentLink). AreLeftOver rule task s.sender s.passes c.args.node (slice_index seconds s.sender) c.index.result.now) c.senders-senders.result c.loop-place.place from c.head-from.ensures.1 so_far.reached
          (λ n t b has step open' other. rw here (left_here rule _ _ t b ((takes_timely task c.requires.task.nodes).later n from.sender t c.args.node b step)));
    }

pub raise-requires-clause-seconds : goal.raise-requires-clause-seconds
raise-requires-clause-seconds g c = omega (arith, c.senders-senders.ensures.senders c.loop-place.place _ c.head-from.ensures.1, c.loop-place.invariant.relaxing.many)

pub raise-requires-clause-relaxed : goal.raise-requires-clause-relaxed
raise-requires-clause-relaxed g c = omega (arith, c.senders-senders.ensures.senders c.loop-place.place _ c.head-from.ensures.1, c.loop-place.invariant.relaxing.flags)

pub raise-requires-clause-hops : goal.raise-requires-clause-hops
raise-requires-clause-hops g c = (omega (arith, c.senders-senders.ensures.senders c.loop-place.place _ c.head-from.ensures.1, c.loop-place.invariant.relaxing.hops_many), omega (arith, c.requires.node, c.loop-place.invariant.relaxing.hops_many))

pub raise-requires-clause-node : goal.raise-requires-clause-node
raise-requires-clause-node g c = omega (arith, c.senders-senders.ensures.senders c.loop-place.place _ c.head-from.ensures.1, c.requires.task.few)

pub loop-place-preserved : goal.loop-place-preserved
loop-place-preserved g c =
    let task = c.args.backward.now.task.now in
    let rule = c.args.backward.now.rule in
    let old = c.loop-place.self in
    let new = c.raise.new.self in
    let so_far = c.loop-place.invariant in
    let from : SentLink = record { sender = c.head-from.result.node; passes = c.head-from.ensures.0 } in
    let inside = c.senders-senders.ensures.senders c.loop-place.place from c.head-from.ensures.1 in
    let latest = read_at old.seconds.items from.sender c.index-latest.result.now (omega (arith, inside, so_far.relaxing.many)) c.index-latest.ensures in
    let less : slice_index old.seconds.items from.sender < c.in_ok-second.second = omega (arith, latest, c.if-second-latest.false) in
    let raised = c.in_ok-raise.ensures in
    let later = raised_later c.args.backward.now old new c.args.node from.sender _ so_far.relaxing inside less raised in
    let here = raised_here c.args.backward.now old new c.args.node from.sender _ so_far.relaxing inside less raised in
    record {
      relaxing = still_relaxing c.args.backward.now old new c.args.node from.sender _ so_far.relaxing inside less raised;
      rises = λ k. omega (arith, so_far.rises k, later k);
      same = raised_other c.args.backward.now old new c.args.node from.sender _ so_far.relaxing inside less raised c.args.node (λ same. c.if-from-node.false (sym same)) ∙ so_far.same;
      reached = each_until (λ (s : SentLink). AreLeftOver rule task s.sender s.passes c.args.node (slice_index new.seconds.items s.sender) c.index.result.now) c.senders-senders.result c.loop-place.place from c.head-from.ensures.1
          (λ j s before at n t b has step open' other. left_more rule _ _ _ _ t b (later s.sender) (so_far.reached j s before at n t b has step open' other))
          (λ n t b has step open' other. rw here (c.in_ok-second.ensures from c.head-from.ensures.1 n t b has step open' other));
    }

pub returns-clause-relaxed : goal.returns-clause-relaxed
returns-clause-relaxed g c = λ n u t b step open' other.
    let task = c.args.backward.now.task.now in
    let so_far = c.loop-place.invariant in
    let on = c.senders-senders.ensures.whole n u t b step in
    let left = so_far.reached on.0 on.1 (omega (arith, slice_get_within c.senders-senders.result on.0 on.1 on.2, c.loop-place-test.false, c.len-place-end.ensures)) on.2 n t b on.4 (rw (← on.3) at step) (rw (← on.3) at open') (rw (← on.3) at other) in
    rw so_far.same (rw on.3 at left)
