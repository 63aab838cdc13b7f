use Rattle.std.proofs.Common.{◌≡◌, ◌+◌, length, slice_index, sym, ap, ◌∙◌, arith}
use Rattle.sabr_index.specs.Links.{SentLink}
use Rattle.std.proofs.lemmas.Option.{slice_get_within}
use Rattle.sabr_search.specs.layers.Late.{AreLeftInTimeOver}
use Rattle.sabr_search.proofs.BackwardLemmas.Relaxing.{each_until}
use Rattle.sabr_search.proofs.BackwardLemmas.LateLists.{in_time_kept, left_rises}
use Rattle.sabr_search.proofs.WholeLemmas.Chained.{grown_more, grown_none}
use Rattle.sabr_search.proofs.LinkLemmas.Linking.{passes_within}
use Rattle.sabr_search.proofs.LinkLemmas.PlanFacts.{sum_taken_le}
use Rattle.sabr_search.proofs.backward.deadlines.Deadlines.take_senders.Given.{Over}
use Rattle.sabr_search.proofs.backward.deadlines.Deadlines.take_senders.Goals.{After-at-from}
use Rattle.sabr_search.proofs.backward.deadlines.Deadlines.take_senders.Goals as goal
use Rattle.sabr_search.proofs.WayLemmas.RoutesAndWays.{same_some}

pub take_sender-requires-clause-link : goal.take_sender-requires-clause-link
take_sender-requires-clause-link g c = (c.senders-senders.ensures.each c.loop-place.place (record { sender = c.at-from.result.node; passes = c.at-from.result.passes.now }) c.at-from.ensures.link, c.at-from.ensures.bounds)

pub loop-place-init : goal.loop-place-init
loop-place-init g c = record {
  grown = grown_none _ _ _ c.requires.growing;
  counted = omega arith;
  in_time = λ j s less. absurd (omega (arith, less));
}

pub take_sender-requires-clause-given : goal.take_sender-requires-clause-given
take_sender-requires-clause-given g c = λ b less.
    let old = c.args.self.now in
    let so_far = c.loop-place.invariant.grown in
    rw so_far.ends (in_time_kept (slice_index old.ends.items c.args.left) (slice_index old.ends.items (c.args.left + 1)) c.loop-place.self.entries.items old.entries.items so_far.before c.args.to.node b (c.requires.given b less))

-- the sender and the head at one place are of one node
one_node : (g : Over) (c : After-at-from g) → c.at-from.result.node ≡ c.head-head.result.node
one_node g c = ap (λ (s : SentLink). s.sender) (same_some (sym c.at-from.ensures.link ∙ c.head-head.ensures.1))

pub take_sender-requires-clause-permitted : goal.take_sender-requires-clause-permitted
take_sender-requires-clause-permitted g c = rw (one_node g (goal.at.take_sender-requires-clause-permitted g c).After-at-from) (c.brings_nothing.ensures.permitted c.if-brings_nothing.false)

pub take_sender-requires-clause-other : goal.take_sender-requires-clause-other
take_sender-requires-clause-other g c = rw (one_node g (goal.at.take_sender-requires-clause-other g c).After-at-from) (c.brings_nothing.ensures.other c.if-brings_nothing.false)

pub brings_nothing-requires-clause-node : goal.brings_nothing-requires-clause-node
brings_nothing-requires-clause-node g c = c.senders-senders.ensures.senders c.loop-place.place (record { sender = c.head-head.result.node; passes = c.head-head.ensures.0 }) c.head-head.ensures.1

pub loop-place-preserved-then-brings_nothing : goal.loop-place-preserved-then-brings_nothing
loop-place-preserved-then-brings_nothing g c =
    let so_far = c.loop-place.invariant in
    let here = c.head-head.ensures in
    let link = c.senders-senders.ensures.each c.loop-place.place (record { sender = c.head-head.result.node; passes = here.0 }) here.1 in
    record {
      grown = so_far.grown;
      counted = omega (arith, so_far.counted, (passes_within c.args.aim.now.task.now c.args.to.node c.senders-senders.result c.senders-senders.ensures c.loop-place.place _ here.1).0);
      in_time = each_until (λ (s : SentLink). AreLeftInTimeOver c.args.aim.now.task.now c.args.aim.now.since.now c.loop-place.self.deadline.items s.sender s.passes c.args.to.before) c.senders-senders.result c.loop-place.place _ here.1 so_far.in_time
          (c.brings_nothing.ensures.in_time c.if-brings_nothing.true c.args.to.node here.0 (link, here.2));
    }

pub loop-place-preserved : goal.loop-place-preserved
loop-place-preserved g c =
    let task = c.args.aim.now.task.now in
    let so_far = c.loop-place.invariant in
    let one = c.in_ok-take_sender.ensures in
    record {
      grown = grown_more _ _ _ _ _ so_far.grown one.grown;
      counted = omega (arith, so_far.counted, c.take_sender.ensures.looks, (passes_within task c.args.to.node c.senders-senders.result c.senders-senders.ensures c.loop-place.place _ c.at-from.ensures.link).0);
      in_time = each_until (λ (s : SentLink). AreLeftInTimeOver task c.args.aim.now.since.now c.take_sender.new.self.deadline.items s.sender s.passes c.args.to.before) c.senders-senders.result c.loop-place.place _ c.at-from.ensures.link
          (λ j s less at n t w b has step by. left_rises task c.args.aim.now.since.now _ _ s.sender t one.grown.rises (so_far.in_time j s less at n t w b has step by))
          one.in_time;
    }

pub returns-then-from-left-clause-stops : goal.returns-then-from-left-clause-stops
returns-then-from-left-clause-stops g c =
    omega (arith, c.if-from-left.true, c.left.ensures, c.loop-place.invariant.counted, (passes_within c.args.aim.now.task.now c.args.to.node c.senders-senders.result c.senders-senders.ensures c.loop-place.place _ c.at-from.ensures.link).1)

pub returns-then-from-left-clause-counted : goal.returns-then-from-left-clause-counted
returns-then-from-left-clause-counted g c =
    omega (arith, c.loop-place.invariant.counted, (passes_within c.args.aim.now.task.now c.args.to.node c.senders-senders.result c.senders-senders.ensures c.loop-place.place _ c.at-from.ensures.link).1)

pub returns-in_err-take_sender-clause-counted : goal.returns-in_err-take_sender-clause-counted
returns-in_err-take_sender-clause-counted g c =
    omega (arith, c.take_sender.ensures.looks, c.loop-place.invariant.counted, (passes_within c.args.aim.now.task.now c.args.to.node c.senders-senders.result c.senders-senders.ensures c.loop-place.place _ c.at-from.ensures.link).1)

pub returns-clause-counted : goal.returns-clause-counted
returns-clause-counted g c =
    omega (arith, c.loop-place.invariant.counted, sum_taken_le (λ (x : SentLink). length x.passes) c.senders-senders.result c.loop-place.place, c.senders-senders.ensures.few)

pub returns-clause-in_time : goal.returns-clause-in_time
returns-clause-in_time g c = λ n u t b step by.
    let on = c.senders-senders.ensures.whole n u t b step in
    rw (← on.3) (c.loop-place.invariant.in_time on.0 on.1 (omega (arith, slice_get_within c.senders-senders.result on.0 on.1 on.2, c.loop-place-test.false, c.len-place-end.ensures)) on.2 n t c.args.to.node b on.4 (rw (← on.3) at step) by)
