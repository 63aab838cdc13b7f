use Rattle.sabr_frontier.proofs.Names.{◌≡◌, inl, inr, List, refl, sym, ap, subst, ◌∙◌, true≢false, arith, length, Some, None, slice_get_within, IsTrue, slice_get, IsStrictlyIncreasing, cases_lt, is_prefix, Node, Asked, best_for, best_of, shape_of, prefix_of}
use Rattle.sabr_frontier.proofs.TreeLemmas.ModifiedPlaces.{get_there}
use Rattle.sabr_frontier.proofs.TreeLemmas.ListFronts.{increasing}
use Rattle.sabr_frontier.proofs.SessionLemmas.Verdicts.{excluded_rise, front_is, least_best, best_least}
use Rattle.sabr_frontier.proofs.tree.Tree.carries_least.Goals as goal

pub find_best-requires : goal.find_best-requires
find_best-requires g c =
    let p = c.args.searcher.now.asked.plan.plan in
    let r = c.args.searcher.now.asked.request in
    let t = shape_of c.args.self.now in
    let n = c.node-item.result in
    let here = subst (λ (xs : List (Node g.row.A.Denot)). slice_get xs c.loop-node.node-index ≡ Some n) c.deref-node-items.ensures.value (get_there c.deref-node-items.result.now c.loop-node.node-index n c.loop-node-test.true c.node-item.is) in
    record {
      fits = subst (λ (a : Asked). IsTrue (is_prefix a.plan.plan a.request c.prefix-front.result.now)) (sym c.loop-node.invariant.same) (ap (is_prefix p r) (c.prefix-front.ensures ∙ ap (λ l. prefix_of l n) c.as_slice.ensures.value) ∙ front_is p r t c.requires.tree c.loop-node.node-index n here);
      increasing = subst IsStrictlyIncreasing (sym c.as_slice-in-loop-node.ensures) (increasing n.excluded (excluded_rise p r t c.requires.tree c.loop-node.node-index n here));
      floor = λ _ _. omega arith;
    }

pub returns-then-not-is_same-clause-least : goal.returns-then-not-is_same-clause-least
returns-then-not-is_same-clause-least g c =
    let p = c.args.searcher.now.asked.plan.plan in
    let r = c.args.searcher.now.asked.request in
    let t = shape_of c.args.self.now in
    let n = c.node-item.result in
    let here = subst (λ (xs : List (Node g.row.A.Denot)). slice_get xs c.loop-node.node-index ≡ Some n) c.deref-node-items.ensures.value (get_there c.deref-node-items.result.now c.loop-node.node-index n c.loop-node-test.true c.node-item.is) in
    let front = c.prefix-front.ensures ∙ ap (λ l. prefix_of l n) c.as_slice.ensures.value in
    let found = c.in_ok-found.ensures.best ∙ (λ i. best_for (c.loop-node.invariant.same i) None (front i) (c.as_slice-in-loop-node.ensures i)) in
    ((λ h. absurd (true≢false (sym h))), (λ h. absurd (true≢false (sym (c.is_same.ensures.1 (found ∙ sym (least_best p r t c.requires.tree h c.loop-node.node-index n here))) ∙ c.if-not-is_same.true))))

pub loop-node-preserved : goal.loop-node-preserved
loop-node-preserved g c = record {
  least = λ i m l e.
      let p = c.args.searcher.now.asked.plan.plan in
      let r = c.args.searcher.now.asked.request in
      let n = c.node-item.result in
      let at = c.loop-node.node-index in
      let here = subst (λ (xs : List (Node g.row.A.Denot)). slice_get xs at ≡ Some n) c.deref-node-items.ensures.value (get_there c.deref-node-items.result.now at n c.loop-node-test.true c.node-item.is) in
      let front = c.prefix-front.ensures ∙ ap (λ z. prefix_of z n) c.as_slice.ensures.value in
      let found = c.in_ok-found.ensures.best ∙ (λ j. best_for (c.loop-node.invariant.same j) None (front j) (c.as_slice-in-loop-node.ensures j)) in
      elim (cases_lt i at) [
        | inl k ↦ c.loop-node.invariant.least i m k e
        | inr k ↦
            let at_end : at ≡ i = omega arith in
            let same : n ≡ m = let f : Some n ≡ Some m = sym here ∙ ap (slice_get c.args.self.now.nodes.items) at_end ∙ e in cc in
            subst (λ (z : Node g.row.A.Denot). z.route ≡ best_of p r (prefix_of c.args.self.now.leaves.items z) z.excluded) same (sym (c.is_same.ensures.0 c.if-not-is_same.false) ∙ found)
      ];
  called = omega (arith, c.in_ok-found.ensures.called, c.loop-node.invariant.called);
  same = c.find_best.ensures.same ∙ c.loop-node.invariant.same;
}

pub returns-clause-least : goal.returns-clause-least
returns-clause-least g c = (
  (λ _. best_least c.args.searcher.now.asked.plan.plan c.args.searcher.now.asked.request (shape_of c.args.self.now) c.requires.tree (λ i n e.
      c.loop-node.invariant.least i n (let s = subst (λ (xs : List (Node g.row.A.Denot)). length xs ≡ length c.args.self.now.nodes.items) (sym c.deref-node-items.ensures.value) refl in let k = slice_get_within c.args.self.now.nodes.items i n e in let z = c.loop-node-test.false in omega arith) e)),
  (λ _. refl),
)
