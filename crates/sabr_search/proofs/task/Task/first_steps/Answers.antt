use Rattle.std.proofs.Common.{ℕ, ◌≡◌, ◌≤◌, ◌<◌, false, true, inl, inr, slice_index_or, ap, sym, subst, ◌∙◌, arith}
use Rattle.std.proofs.lemmas.Option.{slice_get_within}
use Rattle.std.proofs.lemmas.Bool.{both_ways}
use Rattle.sabr_search.specs.questions.Task.{Takes, never}
use Rattle.sabr_search.specs.questions.FirstSteps.{ComesTo}
use Rattle.sabr_search.proofs.LinkLemmas.PlanFacts.{takes_early}
use Rattle.sabr_search.proofs.ForwardLemmas.Forward.{last_or_before}
use Rattle.sabr_search.proofs.LinkLemmas.OverLinks.{in_place}
use Rattle.sabr_search.proofs.task.Task.first_steps.Goals as goal

pub loop-place-preserved-then-forbidden-link : goal.loop-place-preserved-then-forbidden-link
loop-place-preserved-then-forbidden-link g c =
    let task = c.args.self.now in
    let so_far = c.loop-place.invariant in
    let here = c.link-link.ensures.here in
    let link = in_place _ _ _ _ so_far.links _ _ _ here in
    record {
      links = so_far.links;
      placed = λ k m from at. omega (arith, so_far.placed c.loop-place.place here.link (omega arith) here.here, link.later k m (omega (arith, from)) at);
      all = so_far.all;
      real = so_far.real;
      come = λ j x n w b less at has s. elim (last_or_before j c.loop-place.place less) [
        | inl before ↦ so_far.come j x n w b before at has s
        | inr same ↦
            (let has' = link.own j x n at same has in
            let to = link.leads c.requires.task n c.beginning-from.result.at w b has' s in
            absurd (both_ways (slice_index_or task.forbidden w false) s.permitted (ap (λ k. slice_index_or task.forbidden k false) to ∙ subst (λ xs. slice_index_or xs c.link-link.result.to false ≡ true) c.forbidden.ensures c.if-forbidden-link.true)))
      ];
    }

pub loop-place-preserved : goal.loop-place-preserved
loop-place-preserved g c =
    let task = c.args.self.now in
    let so_far = c.loop-place.invariant in
    let here = c.link-link.ensures.here in
    let link = in_place _ _ _ _ so_far.links _ _ _ here in
    record {
      links = so_far.links;
      placed = λ k m from at. omega (arith, so_far.placed c.loop-place.place here.link (omega arith) here.here, c.arrive_over-at.ensures.looks, link.few, link.later k m (omega (arith, from)) at);
      all = omega (arith, so_far.placed c.loop-place.place here.link (omega arith) here.here, c.arrive_over-at.ensures.looks, link.few);
      real = λ k x at. elim (c.in_ok-put_step.ensures.only k x at) [
        | inl old ↦ so_far.real k x old
        | inr is ↦ rw (← is.0) ((rw c.link-link.ensures.from at c.arrive_over-at.ensures.sound) is.1 (subst (λ xs. slice_index_or xs c.link-link.result.to false ≡ false) c.forbidden.ensures c.if-forbidden-link.false))
      ];
      come = λ j x n w b less at has s. elim (last_or_before j c.loop-place.place less) [
        | inl before ↦ (let old = so_far.come j x n w b before at has s in (old.0, old.1, c.in_ok-put_step.ensures.stay old.0 old.1 old.2, old.3, old.4))
        | inr same ↦
            (let has' = link.own j x n at same has in
            let to = link.leads c.requires.task n c.beginning-from.result.at w b has' s in
            let le : c.arrive_over-at.result ≤ b = (rw c.link-link.ensures.from at c.arrive_over-at.ensures.full) n w b has' s in
            let early : c.arrive_over-at.result < never = omega (arith, le, takes_early task c.requires.task n c.beginning-from.result.node c.beginning-from.result.at w b s) in
            let put = c.in_ok-put_step.ensures.put early in
            (put.0, record { node = c.link-link.result.to; at = c.arrive_over-at.result }, put.1, sym to, le))
      ];
    }

pub returns-clause-all : goal.returns-clause-all
returns-clause-all g c =
    let all : (n w b : ℕ) → Takes c.args.self.now n c.beginning-from.result.node c.beginning-from.result.at w b → ComesTo c.loop-place.first.items w b = λ n w b s.
    (let on = c.loop-place.invariant.links.whole n c.beginning-from.result.at w b s in
    c.loop-place.invariant.come on.0 on.1 n w b (omega (arith, slice_get_within c.links-links.result.links.now on.0 on.1 on.2, c.loop-place-test.false)) on.2 on.3 s) in
    rw c.beginning-from.ensures at all

pub returns-then-link-left-clause-stops : goal.returns-then-link-left-clause-stops
returns-then-link-left-clause-stops g c =
    let so_far = c.loop-place.invariant in
    let here = c.link-link.ensures.here in
    let link = in_place _ _ _ _ so_far.links _ _ _ here in
    omega (arith, so_far.placed c.loop-place.place here.link (omega arith) here.here, link.few, c.if-link-left.true, c.left.ensures, rw c.beginning-from.ensures at so_far.links.few)
