use Rattle.std.proofs.Common.{◌≡◌, ◌+◌, ◌<◌, ◌≤◌, ℕ, inl, inr, Some, length, slice_get, slice_index, slice_index_or, false, refl, sym, ap, ◌∙◌, arith}
use Rattle.sabr_search.specs.questions.Linked.{received}
use Rattle.sabr_search.specs.layers.Late.{InTimeFor}
use Rattle.sabr_search.proofs.ForwardLemmas.LayerEntries.{late_between, received_by_all, entry_read, received_next, received_within, received_at_most, read_at}
use Rattle.sabr_search.proofs.ForwardLemmas.Forward.{last_or_before}
use Rattle.sabr_search.proofs.BackwardLemmas.LateLists.{in_time_kept, left_rises}
use Rattle.sabr_search.proofs.WholeLemmas.Chained.{grown_more, grown_none}
use Rattle.sabr_search.proofs.BackwardLemmas.LateMade.{open_entry}
use Rattle.sabr_search.proofs.WayLemmas.RoutesAndWays.{same_some}
use Rattle.sabr_search.proofs.AnswerLemmas.BoundedWays.{stops_by}
use Rattle.sabr_search.proofs.backward.deadlines.Deadlines.next_back.Given.{Over}
use Rattle.sabr_search.proofs.backward.deadlines.Deadlines.next_back.Goals.{After-index-to}
use Rattle.sabr_search.proofs.backward.deadlines.Deadlines.next_back.Goals as goal

-- where the layer begins and ends, and the entry that is taken: it stood there before
read : (g : Over) (c : After-index-to g) → (c.index-first.result.now ≡ slice_index c.args.self.now.ends.items c.args.left) × (c.index-begin.result.now ≡ slice_index c.args.self.now.ends.items (c.args.left + 1)) × (slice_get c.args.self.now.entries.items c.loop-place.place ≡ Some c.index-to.result.now)
read g c =
    let old = c.args.self.now in
    let so_far = c.loop-place.invariant in
    let begin : c.index-begin.result.now ≡ slice_index old.ends.items (c.args.left + 1) = read_at old.ends.items (c.args.left + 1) c.index-begin.result.now c.requires.growing.bounded c.index-begin.ensures in (
      read_at old.ends.items c.args.left c.index-first.result.now (omega (arith, c.requires.growing.bounded)) c.index-first.ensures,
      begin,
      entry_read c.loop-place.self.entries.items old.entries.items (slice_index old.ends.items (c.args.left + 1)) c.loop-place.place c.index-to.result.now so_far.grown.before (omega (arith, begin, c.loop-place-test.true)) (rw so_far.grown.ends at so_far.grown.growing.lists.begins) c.index-to.ensures,
    )

-- whoever is at its node before its deadline is in time for it
in_time : (g : Over) (c : After-index-to g) (b : ℕ) → b < c.index-to.result.now.before →
    InTimeFor c.args.self.now.entries.items (slice_index c.args.self.now.ends.items c.args.left) (slice_index c.args.self.now.ends.items (c.args.left + 1)) c.index-to.result.now.node b
in_time g c b less = (c.loop-place.place, c.index-to.result.now, omega (arith, (read g c).0), omega (arith, (read g c).1, c.loop-place-test.true), (read g c).2, refl, less)

-- the looks for it are within those of all contacts
within : (g : Over) (c : After-index-to g) → received_by_all c.args.aim.now.task.now (late_between c.args.self.now.entries.items c.index-first.result.now c.loop-place.place) + received c.args.aim.now.task.now c.index-to.result.now.node ≤ length c.args.aim.now.task.now.plan.contacts
within g c =
    let old = c.args.self.now in
    rw (read g c).0 (received_within c.args.aim.now.task.now old.ends.items old.entries.items c.args.left c.loop-place.place c.index-to.result.now c.requires.apart (omega (arith, (read g c).0)) (omega (arith, (read g c).1, c.loop-place-test.true)) (read g c).2)

-- and its node is open
open_node : (g : Over) (c : After-index-to g) → (c.index-to.result.now.node < length c.args.aim.now.task.now.table) × (slice_index_or c.args.aim.now.task.now.forbidden c.index-to.result.now.node false ≡ false)
open_node g c = open_entry c.args.aim.now.task.now c.requires.growing.task _ _ _ _ c.args.self.now.entries.items c.requires.growing.lists c.loop-place.place c.index-to.result.now (read g c).2

pub take_senders-requires-clause-node : goal.take_senders-requires-clause-node
take_senders-requires-clause-node g c = (open_node g (goal.at.take_senders-requires-clause-node g c).After-index-to).0

pub take_senders-requires-clause-receiver : goal.take_senders-requires-clause-receiver
take_senders-requires-clause-receiver g c = (open_node g (goal.at.take_senders-requires-clause-receiver g c).After-index-to).1

pub loop-place-init : goal.loop-place-init
loop-place-init g c = record {
  grown = grown_none _ _ _ c.requires.growing;
  counted = omega arith;
  in_time = λ p e n u t b above below. absurd (omega (arith, above, below, read_at c.args.self.now.ends.items c.args.left c.index-first.result.now (omega (arith, c.requires.growing.bounded)) c.index-first.ensures));
}

pub take_senders-requires-clause-given : goal.take_senders-requires-clause-given
take_senders-requires-clause-given g c = λ b less.
    let old = c.args.self.now in
    let so_far = c.loop-place.invariant.grown in
    rw so_far.ends (in_time_kept (slice_index old.ends.items c.args.left) (slice_index old.ends.items (c.args.left + 1)) c.loop-place.self.entries.items old.entries.items so_far.before c.index-to.result.now.node b
    (in_time g (goal.at.take_senders-requires-clause-given g c).After-index-to b less))

pub loop-place-preserved : goal.loop-place-preserved
loop-place-preserved g c =
    let old = c.args.self.now in
    let task = c.args.aim.now.task.now in
    let so_far = c.loop-place.invariant in
    let place = c.loop-place.place in
    let to = c.index-to.result.now in
    let read = read g (goal.at.loop-place-preserved g c).After-index-to in
    let one = c.in_ok-take_senders.ensures in
    let received_here = rw (← read.0) at (received_next task old.ends.items old.entries.items c.args.left place to c.requires.apart (omega (arith, read.0)) (omega (arith, read.1, c.loop-place-test.true)) read.2) in
    record {
      grown = grown_more _ _ _ _ _ so_far.grown one.grown;
      counted = omega (arith, c.take_senders.ensures.counted, so_far.counted, received_here);
      in_time = λ p e n u t b above below here s less. elim (last_or_before p place below) [
        | inl before ↦ left_rises task c.args.aim.now.since.now _ _ u t one.grown.rises (so_far.in_time p e n u t b above before here s less)
        | inr same ↦
            (let entry : e ≡ to = same_some (sym here ∙ ap (slice_get old.entries.items) same ∙ read.2) in
            one.in_time n u t b (rw entry at s) (rw entry at less))
      ];
    }

pub returns-in_err-take_senders-clause-counted : goal.returns-in_err-take_senders-clause-counted
returns-in_err-take_senders-clause-counted g c = omega (arith, c.take_senders.ensures.counted, c.loop-place.invariant.counted, within g (goal.at.returns-in_err-take_senders-clause-counted g c).After-index-to)

pub returns-in_err-take_senders-clause-stops : goal.returns-in_err-take_senders-clause-stops
returns-in_err-take_senders-clause-stops g c =
    let within = within g (goal.at.returns-in_err-take_senders-clause-stops g c).After-index-to in
    stops_by _ _ (λ is. let few = rw is at c.in_err-take_senders.ensures.stops in omega (arith, few, c.loop-place.invariant.counted, within)) c.from_residual.result c.from_residual.ensures.1

pub returns-clause-counted : goal.returns-clause-counted
returns-clause-counted g c = omega (arith, c.loop-place.invariant.counted, received_at_most c.args.aim.now.task.now (late_between c.args.self.now.entries.items c.index-first.result.now c.loop-place.place))

pub returns-clause-in_time : goal.returns-clause-in_time
returns-clause-in_time g c = λ p e n u t b above below here s less.
    let begin = read_at c.args.self.now.ends.items (c.args.left + 1) c.index-begin.result.now c.requires.growing.bounded c.index-begin.ensures in
    c.loop-place.invariant.in_time p e n u t b above (omega (arith, begin, c.loop-place-test.false)) here s less
