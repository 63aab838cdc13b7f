use Rattle.std.proofs.Common.{ℕ, inl, inr, ap, sym, ◌∙◌, slice_get, arith}
use Rattle.std.proofs.lemmas.Option.{slice_get_within, slice_get-get_or}
use Rattle.sabr_search.specs.questions.Task.{Takes}
use Rattle.sabr_search.proofs.ForwardLemmas.MadeLayers.{goal_unreached}
use Rattle.sabr_search.proofs.ForwardLemmas.LayerEntries.{read_at}
use Rattle.sabr_search.proofs.ForwardLemmas.Forward.{lowered_more, known_lower, last_or_before}
use Rattle.sabr_search.proofs.WayLemmas.RoutesAndWays.{same_some}
use Rattle.sabr_search.proofs.LinkLemmas.OverLinks.{known_skipped, no_link, in_place}
use Rattle.sabr_search.proofs.forward.layers.Layers.take_all.Goals as goal

pub index-requires : goal.index-requires
index-requires g c =
    let so_far = c.loop-place.invariant in
    omega (arith, so_far.links.receivers c.loop-place.place _ (slice_get-get_or c.links-links.result.links.now c.loop-place.place no_link c.loop-place-test.true), so_far.lowered.lists.flags, c.requires.task.as_many)

pub loop-place-preserved-then-rules_out : goal.loop-place-preserved-then-rules_out
loop-place-preserved-then-rules_out g c =
    let task = c.args.task.now in
    let so_far = c.loop-place.invariant in
    let here = slice_get-get_or c.links-links.result.links.now c.loop-place.place no_link c.loop-place-test.true in
    let known = read_at c.loop-place.self.arrival.items _ c.index.result.now (omega (arith, so_far.links.receivers c.loop-place.place _ here, so_far.lowered.lists.flags, c.requires.task.as_many)) c.index.ensures in
    let goal_late = goal_unreached task c.requires.task c.args.begin _ _ _ so_far.lowered.lists in
    record {
      links = so_far.links;
      counted = so_far.counted;
      placed = λ k x from at. so_far.placed k x (omega (arith, from)) at;
      lowered = so_far.lowered;
      known = λ j x n w b less at has s. elim (last_or_before j c.loop-place.place less) [
        | inl before ↦ so_far.known j x n w b before at has s
        | inr same ↦
            (let is = same_some (sym at ∙ ap (slice_get c.links-links.result.links.now) same ∙ here) in
            known_skipped task c.requires.task c.args.from.node c.args.from.at _ _ so_far.links c.loop-place.self.arrival.items c.loop-place.earliest
            (omega (arith, goal_late)) j x at (rw is (rw known at (c.rules_out.ensures.ruled_out c.if-rules_out.true))) n w b has s)
      ];
    }

pub take_link-requires-clause-few : goal.take_link-requires-clause-few
take_link-requires-clause-few g c =
    let so_far = c.loop-place.invariant in
    let here = c.link-link.ensures.here in
    omega (arith, so_far.placed c.loop-place.place here.link (omega arith) here.here, (in_place _ _ _ _ so_far.links _ _ _ here).few, so_far.links.few, c.requires.few)

pub returns-in_err-earliest-clause-looks : goal.returns-in_err-earliest-clause-looks
returns-in_err-earliest-clause-looks g c =
    let so_far = c.loop-place.invariant in
    let here = c.link-link.ensures.here in
    omega (arith, so_far.placed c.loop-place.place here.link (omega arith) here.here, c.take_link.ensures.looks, (in_place _ _ _ _ so_far.links _ _ _ here).few, so_far.links.few)

pub loop-place-preserved : goal.loop-place-preserved
loop-place-preserved g c =
    let task = c.args.task.now in
    let u = c.args.from.node in
    let t = c.args.from.at in
    let so_far = c.loop-place.invariant in
    let here = c.link-link.ensures.here in
    let link = in_place _ _ _ _ so_far.links _ _ _ here in
    let own = so_far.placed c.loop-place.place here.link (omega arith) here.here in
    let gained = rw c.link-link.ensures.from at c.in_ok-earliest.ensures.lowered in
    record {
      links = so_far.links;
      counted = omega (arith, own, c.take_link.ensures.looks, link.few);
      placed = λ k x from at. omega (arith, own, c.take_link.ensures.looks, link.later k x (omega (arith, from)) at);
      lowered = lowered_more task.forbidden task.goal task.at c.args.begin (λ w x. (n : ℕ) × Takes task n u t w x) _ _ _ _ _ _ _ _ _ _ _ _ (λ w x given. given) so_far.lowered gained;
      known = λ j x n w b less at has s. elim (last_or_before j c.loop-place.place less) [
        | inl before ↦ known_lower task.goal _ _ _ _ w b gained.lowered gained.lower (so_far.known j x n w b before at has s)
        | inr same ↦ (rw c.link-link.ensures.from at c.in_ok-earliest.ensures.known) n w b (link.own j x n at same has) s
      ];
    }

pub returns-clause-looks : goal.returns-clause-looks
returns-clause-looks g c = omega (arith, c.loop-place.invariant.counted, c.loop-place.invariant.links.few)

pub returns-clause-known : goal.returns-clause-known
returns-clause-known g c = λ n w x s.
    let on = c.loop-place.invariant.links.whole n c.args.from.at w x s in
    c.loop-place.invariant.known on.0 on.1 n w x (omega (arith, slice_get_within c.links-links.result.links.now on.0 on.1 on.2, c.loop-place-test.false)) on.2 on.3 s
