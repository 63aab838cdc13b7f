use Rattle.std.proofs.Common.{inl, inr, ap, sym, ◌∙◌, ◌-◌, slice_index, slice_get, arith}
use Rattle.std.proofs.lemmas.Option.{slice_get_within, slice_get-get_or}
use Rattle.sabr_search.proofs.ForwardLemmas.LayerEntries.{read_at}
use Rattle.sabr_search.proofs.ForwardLemmas.Forward.{known_lower, last_or_before}
use Rattle.sabr_search.proofs.WayLemmas.RoutesAndWays.{same_some}
use Rattle.sabr_search.proofs.LinkLemmas.OverLinks.{known_skipped, no_link, in_place}
use Rattle.sabr_search.proofs.ForwardLemmas.Queues.{fallen_more, taken_settled}
use Rattle.sabr_search.proofs.forward.settling.Settling.settle.Goals as goal

pub index-requires : goal.index-requires
index-requires g c =
    let so_far = c.loop-place.invariant in
    omega (arith, so_far.links.receivers c.loop-place.place _ (slice_get-get_or c.args.links.links.now c.loop-place.place no_link c.loop-place-test.true), so_far.state.flags, c.requires.task.as_many)

pub loop-place-preserved-then-rules_out : goal.loop-place-preserved-then-rules_out
loop-place-preserved-then-rules_out g c =
    let task = c.args.forward.now.task.now in
    let so_far = c.loop-place.invariant in
    let here = slice_get-get_or c.args.links.links.now c.loop-place.place no_link c.loop-place-test.true in
    let known = read_at c.loop-place.self.arrival.items _ c.index.result.now (omega (arith, so_far.links.receivers c.loop-place.place _ here, so_far.state.flags, c.requires.task.as_many)) c.index.ensures in
    record {
      links = so_far.links;
      settled = so_far.settled;
      counted = so_far.counted;
      placed = λ k x from at. so_far.placed k x (omega (arith, from)) at;
      state = so_far.state;
      fallen = so_far.fallen;
      known = λ j x n w b less at has s. elim (last_or_before j c.loop-place.place less) [
        | inl before ↦ so_far.known j x n w b before at has s
        | inr same ↦
            (let is = same_some (sym at ∙ ap (slice_get c.args.links.links.now) same ∙ here) in
            known_skipped task c.requires.task c.args.event.node c.args.event.at _ _ so_far.links c.loop-place.self.arrival.items (c.loop-place.earliest.delivery - slice_index c.args.forward.now.costs.now w)
            (omega (arith, so_far.state.goal_late)) j x at (rw is (rw known at (c.rules_out.ensures.ruled_out c.if-rules_out.true))) n w b has s)
      ];
      pushes = so_far.pushes;
    }

pub take_link-requires-clause-few : goal.take_link-requires-clause-few
take_link-requires-clause-few g c =
    let so_far = c.loop-place.invariant in
    let here = c.link-link.ensures.here in
    omega (arith, so_far.placed c.loop-place.place here.link (omega arith) here.here, (in_place _ _ _ _ so_far.links _ _ _ here).few, c.requires.few)

pub returns-in_err-earliest-clause-looks : goal.returns-in_err-earliest-clause-looks
returns-in_err-earliest-clause-looks g c =
    let so_far = c.loop-place.invariant in
    let here = c.link-link.ensures.here in
    omega (arith, so_far.placed c.loop-place.place here.link (omega arith) here.here, c.take_link.ensures.looks, (in_place _ _ _ _ so_far.links _ _ _ here).few)

pub loop-place-preserved : goal.loop-place-preserved
loop-place-preserved g c =
    let task = c.args.forward.now.task.now in
    let so_far = c.loop-place.invariant in
    let here = c.link-link.ensures.here in
    let link = in_place _ _ _ _ so_far.links _ _ _ here in
    let own = so_far.placed c.loop-place.place here.link (omega arith) here.here in
    let gained = rw so_far.settled at c.in_ok-earliest.ensures.fallen in
    record {
      links = so_far.links;
      settled = ap (λ v. v.items) c.take_link.ensures.settled ∙ so_far.settled;
      counted = omega (arith, own, c.take_link.ensures.looks, link.few);
      placed = λ k x from at. omega (arith, own, c.take_link.ensures.looks, link.later k x (omega (arith, from)) at);
      state = rw so_far.settled at c.in_ok-earliest.ensures.state;
      fallen = fallen_more _ _ _ _ _ _ _ so_far.fallen gained;
      known = λ j x n w b less at has s. elim (last_or_before j c.loop-place.place less) [
        | inl before ↦ known_lower task.goal _ _ _ _ w b gained.lowered (omega (arith, gained.lower)) (so_far.known j x n w b before at has s)
        | inr same ↦ (rw c.link-link.ensures.from at c.in_ok-earliest.ensures.known) n w b (link.own j x n at same has) s
      ];
      pushes = omega (arith, so_far.pushes, c.in_ok-earliest.ensures.pushes);
    }

pub returns-clause-taken : goal.returns-clause-taken
returns-clause-taken g c =
    let task = c.args.forward.now.task.now in
    let u = c.args.event.node in
    let t = c.args.event.at in
    taken_settled task _ _ u t _ c.args.best _ c.loop-place.earliest c.requires.reached c.requires.taken c.loop-place.invariant.fallen
    (λ n w x s.
    (let on = c.loop-place.invariant.links.whole n t w x s in
    c.loop-place.invariant.known on.0 on.1 n w x (omega (arith, slice_get_within c.args.links.links.now on.0 on.1 on.2, c.loop-place-test.false)) on.2 on.3 s))
