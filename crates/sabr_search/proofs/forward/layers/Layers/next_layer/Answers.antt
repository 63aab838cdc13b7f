use Rattle.std.proofs.Common.{◌≡◌, ◌+◌, ◌≤◌, ℕ, inl, inr, Some, length, slice_get, sym, ap, ◌∙◌, arith}
use Rattle.sabr_search.specs.questions.Task.{Takes}
use Rattle.sabr_search.specs.questions.Linked.{degree}
use Rattle.sabr_search.specs.layers.Lists.{GivenFrom}
use Rattle.sabr_search.proofs.ForwardLemmas.Forward.{lowered_more, known_lower, last_or_before}
use Rattle.sabr_search.proofs.ForwardLemmas.LayerEntries.{nodes_between, sent_by_all, entry_read, sent_next, sent_at_most}
use Rattle.sabr_search.proofs.forward.layers.Layers.next_layer.Given.{Over}
use Rattle.sabr_search.proofs.forward.layers.Layers.next_layer.Goals.{After-index-from}
use Rattle.sabr_search.proofs.forward.layers.Layers.next_layer.Goals as goal

-- the entry that is taken stood there before
read : (g : Over) (c : After-index-from g) → slice_get c.args.self.now.reached.items c.loop-place.place ≡ Some c.index-from.result.now
read g c =
    let so_far = c.loop-place.invariant.lowered in
    entry_read c.loop-place.self.reached.items c.args.self.now.reached.items c.args.begin c.loop-place.place c.index-from.result.now so_far.before c.loop-place-test.true so_far.lists.layer.begins c.index-from.ensures

-- the looks at it are those that its layer takes more, and within those of all contacts
more : (g : Over) (c : After-index-from g) → sent_by_all c.args.task.now (nodes_between c.args.self.now.reached.items c.args.first c.loop-place.place) + degree c.args.task.now c.index-from.result.now.node ≡ sent_by_all c.args.task.now (nodes_between c.args.self.now.reached.items c.args.first (c.loop-place.place + 1))
more g c = sent_next c.args.task.now c.args.self.now.reached.items c.args.first c.args.begin c.loop-place.place c.index-from.result.now c.requires.sources (omega arith) c.loop-place-test.true (read g c)

within : (g : Over) (c : After-index-from g) → sent_by_all c.args.task.now (nodes_between c.args.self.now.reached.items c.args.first c.loop-place.place) + degree c.args.task.now c.index-from.result.now.node ≤ length c.args.task.now.plan.contacts
within g c = omega (arith, more g c, sent_at_most c.args.task.now (nodes_between c.args.self.now.reached.items c.args.first (c.loop-place.place + 1)))

pub take_all-requires-clause-few : goal.take_all-requires-clause-few
take_all-requires-clause-few g c = omega (arith, c.requires.few, c.loop-place.invariant.counted, within g (goal.at.take_all-requires-clause-few g c).After-index-from)

pub returns-in_err-earliest-clause-looks : goal.returns-in_err-earliest-clause-looks
returns-in_err-earliest-clause-looks g c = omega (arith, c.take_all.ensures.looks, c.loop-place.invariant.counted, within g (goal.at.returns-in_err-earliest-clause-looks g c).After-index-from)

pub loop-place-preserved : goal.loop-place-preserved
loop-place-preserved g c =
    let old = c.args.self.now in
    let task = c.args.task.now in
    let from = c.index-from.result.now in
    let place = c.loop-place.place in
    let here = (goal.at.loop-place-preserved g c).After-index-from in
    let so_far = c.loop-place.invariant in
    let le : c.args.first ≤ place = omega arith in
    let at = read g here in
    let gained = c.in_ok-earliest.ensures.lowered in
    record {
      counted = omega (arith, c.take_all.ensures.looks, so_far.counted, more g here);
      lowered = lowered_more task.forbidden task.goal task.at c.args.begin (GivenFrom task old.reached.items c.args.first c.args.begin) (λ w x. (n : ℕ) × Takes task n from.node from.at w x) _ _ _ _ _ _ _ _ _ _ _
          (λ w x given. (place, from, given.0, le, c.loop-place-test.true, at, given.1)) so_far.lowered gained;
      known = λ p e n w x above below here s. elim (last_or_before p place below) [
        | inl before ↦ known_lower task.goal _ _ _ _ w x gained.lowered gained.lower (so_far.known p e n w x above before here s)
        | inr same ↦ (let entry : e ≡ from = (let q : Some e ≡ Some from = sym here ∙ ap (slice_get old.reached.items) same ∙ at in cc (q)) in c.in_ok-earliest.ensures.known n w x (rw entry at s))
      ];
    }

pub returns-clause-known : goal.returns-clause-known
returns-clause-known g c = λ p e n w x above below here s. c.loop-place.invariant.known p e n w x above (omega (arith, c.loop-place-test.false)) here s
