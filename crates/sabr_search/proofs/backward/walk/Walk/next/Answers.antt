use Rattle.std.proofs.Common.{inl, inr, false, true, slice_index, slice_index_or, ◌≡◌, ◌<◌, ◌≤◌, length, ap, sym, subst, ◌∙◌, arith}
use Rattle.std.proofs.lemmas.Bool.{both_ways, cases_lt}
use Rattle.std.proofs.lemmas.Option.{slice_get_within}
use Rattle.sabr_search.specs.questions.Task.{Takes}
use Rattle.sabr_search.specs.layers.WholeDeadlines.{IsDeadEnd}
use Rattle.sabr_search.proofs.ForwardLemmas.Forward.{last_or_before}
use Rattle.sabr_search.proofs.WholeLemmas.Walks.{chosen_in_time, entry_within, level_nodes, some_end, step_late, step_ended, step_over, step_chosen, step_missing}
use Rattle.sabr_search.proofs.ForwardLemmas.LayerEntries.{read_at}
use Rattle.sabr_search.proofs.LinkLemmas.OverLinks.{in_place}
use Rattle.sabr_search.proofs.WayLemmas.RoutesAndWays.{takes_timely}
use Rattle.sabr_search.proofs.backward.walk.Walk.next.Goals as goal

pub least_over-best-requires-clause-few : goal.least_over-best-requires-clause-few
least_over-best-requires-clause-few g c =
    let so_far = c.loop-place.invariant in
    let here = c.link-link.ensures.here in
    let link = in_place _ _ _ _ so_far.links _ _ _ here in
    omega (arith, so_far.placed c.loop-place.place here.link (omega arith) here.here, link.few, so_far.links.few, c.requires.few)

pub end_of-end-requires : goal.end_of-end-requires
end_of-end-requires g c = some_end c.args.task.now c.requires.task c.args.self.now.delivery c.args.hops c.args.layers.now c.requires.whole_deadlines

pub before-deadline-requires-clause-node : goal.before-deadline-requires-clause-node
before-deadline-requires-clause-node g c = omega (arith, level_nodes c.args.task.now c.requires.task c.args.self.now.delivery c.args.hops c.args.layers.now c.requires.whole_deadlines, c.link-link.ensures.receiver)

pub loop-place-preserved-then-index-from : goal.loop-place-preserved-then-index-from
loop-place-preserved-then-index-from g c =
    let task = c.args.task.now in
    let d = c.args.self.now.delivery in
    let layers = c.args.layers.now in
    let chained = c.requires.whole_deadlines.layers.chained in
    let from = c.args.from in
    let so_far = c.loop-place.invariant in
    let here = c.link-link.ensures.here in
    let link = in_place _ _ _ _ so_far.links _ _ _ here in
    let node : c.link-link.result.to < length layers.deadline.items = omega (arith, chained.many, level_nodes task c.requires.task d c.args.hops layers c.requires.whole_deadlines, c.link-link.ensures.receiver) in
    let known = read_at layers.deadline.items c.link-link.result.to c.index.result.now node c.index.ensures in
    record {
      links = so_far.links;
      counted = so_far.counted;
      looked = so_far.looked;
      placed = λ k m from at. omega (arith, so_far.placed c.loop-place.place here.link (omega arith) here.here, link.few, link.later k m (omega (arith, from)) at);
      chosen = so_far.chosen;
      least = λ j x n w b less at has s. elim (last_or_before j c.loop-place.place less) [
        | inl before ↦ so_far.least j x n w b before at has s
        | inr same ↦
            (let to = link.leads c.requires.task n from.at w b (link.own j x n at same has) s in
            let deadline : slice_index layers.deadline.items c.link-link.result.to ≤ b = omega (arith, (takes_timely task c.requires.task.nodes).later n from.node from.at w b s, known, c.if-index-from.true) in
            inl (subst (λ k. IsDeadEnd task d k b c.args.hops) (sym to)
            (step_late task c.requires.task d c.args.hops layers c.requires.whole_deadlines c.requires.here.0 from c.requires.here.1 n c.link-link.result.to b (slice_index layers.deadline.items c.link-link.result.to) (subst (λ k. Takes task n from.node from.at k b) to s)
            (λ p e less at same. omega (arith, chained.by p e at, ap (slice_index layers.deadline.items) same)) deadline)))
      ];
    }

pub loop-place-preserved-then-forbidden-link : goal.loop-place-preserved-then-forbidden-link
loop-place-preserved-then-forbidden-link g c =
    let task = c.args.task.now in
    let so_far = c.loop-place.invariant in
    let here = c.link-link.ensures.here in
    let link = in_place _ _ _ _ so_far.links _ _ _ here in
    record {
      links = so_far.links;
      counted = so_far.counted;
      looked = so_far.looked;
      placed = λ k m from at. omega (arith, so_far.placed c.loop-place.place here.link (omega arith) here.here, link.few, link.later k m (omega (arith, from)) at);
      chosen = so_far.chosen;
      least = λ j x n w b less at has s. elim (last_or_before j c.loop-place.place less) [
        | inl before ↦ so_far.least j x n w b before at has s
        | inr same ↦
            (let to = link.leads c.requires.task n c.args.from.at w b (link.own j x n at same has) s in
            absurd (both_ways (slice_index_or task.forbidden w false) s.permitted (ap (λ k. slice_index_or task.forbidden k false) to ∙ subst (λ xs. slice_index_or xs c.link-link.result.to false ≡ true) c.forbidden.ensures c.if-forbidden-link.true)))
      ];
    }

pub loop-place-preserved-then-deadline-from : goal.loop-place-preserved-then-deadline-from
loop-place-preserved-then-deadline-from g c =
    let task = c.args.task.now in
    let d = c.args.self.now.delivery in
    let layers = c.args.layers.now in
    let from = c.args.from in
    let so_far = c.loop-place.invariant in
    let here = c.link-link.ensures.here in
    let link = in_place _ _ _ _ so_far.links _ _ _ here in
    record {
      links = so_far.links;
      counted = so_far.counted;
      looked = so_far.looked;
      placed = λ k m from at. omega (arith, so_far.placed c.loop-place.place here.link (omega arith) here.here, link.few, link.later k m (omega (arith, from)) at);
      chosen = so_far.chosen;
      least = λ j x n w b less at has s. elim (last_or_before j c.loop-place.place less) [
        | inl before ↦ so_far.least j x n w b before at has s
        | inr same ↦
            (let to = link.leads c.requires.task n from.at w b (link.own j x n at same has) s in
            let deadline : c.before-deadline.result ≤ b = omega (arith, (takes_timely task c.requires.task.nodes).later n from.node from.at w b s, c.if-deadline-from.true) in
            inl (subst (λ k. IsDeadEnd task d k b c.args.hops) (sym to)
            (step_late task c.requires.task d c.args.hops layers c.requires.whole_deadlines c.requires.here.0 from c.requires.here.1 n c.link-link.result.to b c.before-deadline.result (subst (λ k. Takes task n from.node from.at k b) to s) (rw c.end_of-end.ensures at c.before-deadline.ensures.latest) deadline)))
      ];
    }

pub loop-place-preserved : goal.loop-place-preserved
loop-place-preserved g c =
    let task = c.args.task.now in
    let d = c.args.self.now.delivery in
    let layers = c.args.layers.now in
    let from = c.args.from in
    let so_far = c.loop-place.invariant in
    let here = c.link-link.ensures.here in
    let link = in_place _ _ _ _ so_far.links _ _ _ here in
    let over = c.least_over-best.ensures in
    let before = c.before_end-before.result in
    record {
      links = so_far.links;
      counted = omega (arith, so_far.placed c.loop-place.place here.link (omega arith) here.here, over.looks, link.few);
      looked = omega (arith, so_far.looked, over.looked);
      placed = λ k m from at. omega (arith, so_far.placed c.loop-place.place here.link (omega arith) here.here, over.looks, link.later k m (omega (arith, from)) at);
      chosen = elim (rw c.link-link.ensures.from at over.sound) [
        | inl same ↦ rw same so_far.chosen
        | inr found ↦
            step_over task layers.ends.items layers.entries.items c.args.hops from c.link-link.result.to before c.least_over-best.result (subst (λ xs. slice_index_or xs c.link-link.result.to false ≡ false) c.forbidden.ensures c.if-forbidden-link.false)
            (λ b less.
            (let by : b < c.before-deadline.result = omega (arith, less, c.before_end-before.ensures.upper) in
            entry_within task c.requires.task d c.args.hops layers c.requires.whole_deadlines c.link-link.result.to c.before-deadline.result b (rw c.end_of-end.ensures at (c.before-deadline.ensures.met (omega (arith, by)))) by))
            found
      ];
      least = λ j x n w b less at has s. elim (last_or_before j c.loop-place.place less) [
        | inl earlier ↦ elim (so_far.least j x n w b earlier at has s) [ inl dead ↦ inl dead | inr most ↦ inr (over.lower n most) ]
        | inr same ↦
            (let has' = link.own j x n at same has in
            let to = link.leads c.requires.task n from.at w b has' s in
            elim (cases_lt b before) [
              | inl early ↦ inr ((rw c.link-link.ensures.from at over.full) n w b has' s early)
              | inr late ↦ inl (subst (λ k. IsDeadEnd task d k b c.args.hops) (sym to)
                  (step_ended task c.requires.task d c.args.hops layers c.requires.whole_deadlines c.requires.here.0 from c.requires.here.1 c.args.self.now.ends.items c.requires.ends n c.link-link.result.to b c.before-deadline.result before
                  (subst (λ k. Takes task n from.node from.at k b) to s) (rw c.end_of-end.ensures at c.before-deadline.ensures.latest) c.before_end-before.ensures.end late))
            ])
      ];
    }

pub returns-clause-some : goal.returns-clause-some
returns-clause-some g c =
    let so_far = c.loop-place.invariant in
    step_chosen c.args.task.now c.requires.task c.args.self.now.delivery c.args.hops c.args.layers.now c.requires.whole_deadlines c.args.from c.loop-place.best so_far.chosen
    (λ n w b s.
    (let on = so_far.links.whole n c.args.from.at w b s in
    so_far.least on.0 on.1 n w b (omega (arith, slice_get_within c.args.links.links.now on.0 on.1 on.2, c.loop-place-test.false)) on.2 on.3 s))

pub returns-clause-in_time : goal.returns-clause-in_time
returns-clause-in_time g c = chosen_in_time c.args.task.now c.args.layers.now.ends.items c.args.layers.now.entries.items c.args.hops c.args.from c.loop-place.best c.loop-place.invariant.chosen

pub returns-clause-none : goal.returns-clause-none
returns-clause-none g c =
    let so_far = c.loop-place.invariant in
    step_missing c.args.task.now c.requires.task c.args.self.now.delivery c.args.hops c.args.from c.loop-place.best c.requires.goal
    (λ n w b s.
    (let on = so_far.links.whole n c.args.from.at w b s in
    so_far.least on.0 on.1 n w b (omega (arith, slice_get_within c.args.links.links.now on.0 on.1 on.2, c.loop-place-test.false)) on.2 on.3 s))
