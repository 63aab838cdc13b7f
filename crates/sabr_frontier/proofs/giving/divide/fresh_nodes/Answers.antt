use Rattle.sabr_frontier.proofs.Names.{◌≡◌, ◌+◌, ◌-◌, ◌≤◌, ◌<◌, ◌⊎◌, ◌++◌, ◌∷◌, [], None, Some, Option, List, ℕ, suc, inl, inr, take, drop, get_or, length, length-append, length-drop, refl, ap, subst, ◌∙◌, arith, IsPlan, RouteRecord, Bound, Node, Asked, best_for, fresh_nodes, IsBestWhere, carrying, modify}
use Rattle.sabr_frontier.proofs.TreeLemmas.Floors.{floor_on}
use Rattle.sabr_frontier.proofs.TreeLemmas.FoundNodes.{IsSearchedFrom, found_enough, nodes_on, none_found, search_on, unsearched}
use Rattle.sabr_frontier.proofs.TreeLemmas.ListFronts.{length_fresh}
use Rattle.sabr_frontier.proofs.giving.divide.fresh_nodes.Goals as goal
use Rattle.sabr_frontier.proofs.giving.divide.fresh_nodes.Goals.{then-loop-count-test+else-needs_more, else-loop-count-test}

-- no node that was added carries a route
first_nodes : {A : Type 0} (best : List ℕ → List ℕ → Option RouteRecord) (leaf : ℕ) (s : List ℕ) (n : ℕ) (old new : List (Node A)) → n ≤ length s → new ≡ old ++ fresh_nodes (λ _ _. None) leaf (take n s) (drop n s)
    → (new ≡ old ++ unsearched (length s - n) (fresh_nodes best leaf (take n s) (drop n s))) × (length new + n ≡ length old + length s)
first_nodes {A} best leaf s n old new within e =
    let bare : List (Node A) = fresh_nodes (λ _ _. None) leaf (take n s) (drop n s) in
    let found : List (Node A) = fresh_nodes best leaf (take n s) (drop n s) in (
      e ∙ ap (λ z. old ++ z) (none_found best leaf (take n s) (drop n s) ∙ ap (λ k. unsearched k found) (length-drop n s)),
      omega (arith, within, ap (length {A = Node A}) e, length-append old bare, length_fresh A (λ _ _. None) leaf (take n s) (drop n s), length-drop n s),
    )

pub loop-count-init : goal.loop-count-init
loop-count-init g c =
    let first = first_nodes (best_for c.args.searcher.now.asked c.args.given.bound) c.args.given.leaf c.args.route.now c.args.first c.args.nodes.now.items c.add_nodes.new.nodes.items c.requires.within c.add_nodes.ensures in
    record {
      nodes = first.0;
      ties = record { before = λ k e j u x l is carries. omega arith; many = omega arith };
      from = c.requires.within;
      to = omega arith;
      end = omega (arith, c.len-end.ensures, c.add_nodes.new.nodes.ok, first.1);
      long = omega (arith, c.len-end.ensures);
      few = omega arith;
      called = omega arith;
      same = refl;
    }

pub find_best_after-requires-clause-floor : goal.find_best_after-requires-clause-floor
find_best_after-requires-clause-floor g c =
    floor_on c.loop-count.invariant.same c.args.route.now c.args.first (c.loop-count.count - 1) c.args.given.floor (omega (arith, c.loop-count-test.true)) (omega (arith, c.loop-count.invariant.to)) c.requires.floor

pub carry-requires : goal.carry-requires
carry-requires g c =
    let i = c.loop-count.invariant in
    omega (arith, i.long, i.end, i.to, c.loop-count-test.true)

-- one more is found, at its place: the nodes then, and how far the search is
found_then : {A : Type 0} (a : Asked) (o : Option Bound) (leaf : ℕ) (s : List ℕ) (first d : ℕ) (needed : Option ℕ) → IsPlan a.plan.plan → IsBestWhere needed a.plan.plan a.request (take first s) [] s d
    → (count : ℕ) → first < count → count ≤ length s → (b : Asked) → b ≡ a → (found : Option RouteRecord) → found ≡ best_for b o (take (count - 1) s) (get_or s (count - 1) 0 ∷ [])
    → (old now then : List (Node A)) (end : ℕ) → end + first ≡ length old + length s → then ≡ modify (carrying found) now (end - (length s - (count - 1)))
    → (ties tie : ℕ) → tie ≤ 1 → (tie ≡ 1 → (y : RouteRecord) × (found ≡ Some y) × (y.delivery ≡ d) × (length y.contacts ≡ length s))
    → let us = fresh_nodes (best_for a o) leaf (take first s) (drop first s) in
    now ≡ old ++ unsearched (count - first) us → IsSearchedFrom needed us (count - first) ties
    → (then ≡ old ++ unsearched (count - 1 - first) us) × IsSearchedFrom needed us (count - 1 - first) (ties + tie)
found_then {A} a o leaf s first d needed good best count less to b same found is old now then end long written ties tie one tied nodes h =
    let i = count - 1 - first in
    let next : count - first ≡ suc i = omega (arith, less) in
    let place : count - 1 ≡ first + i = omega (arith, less) in
    let within : first + i < length s = omega (arith, less, to) in
    let us : List (Node A) = fresh_nodes (best_for a o) leaf (take first s) (drop first s) in
    let here = is ∙ (λ j. best_for (same j) o (take (place j) s) (get_or s (place j) 0 ∷ [])) in (
      written ∙ nodes_on a.plan.plan a.request good o leaf s first d needed best i within found here old now (end - (length s - (count - 1))) (nodes ∙ ap (λ n. old ++ unsearched n us) next) (omega (arith, long, less, to)),
      search_on a.plan.plan a.request good o leaf s first d needed best i within found here ties tie one tied (subst (λ n. IsSearchedFrom needed us n ties) next h),
    )

pub loop-count-preserved : goal.loop-count-preserved
loop-count-preserved g c =
    let i = c.loop-count.invariant in
    let a = c.args.given in
    let then = found_then c.args.searcher.now.asked a.bound a.leaf c.args.route.now c.args.first a.floor a.needed c.requires.plan c.requires.best c.loop-count.count c.loop-count-test.true i.to c.loop-count.searcher.asked i.same c.in_ok-found.found c.in_ok-found.ensures.best
    c.args.nodes.now.items c.loop-count.nodes.items c.carry.new.nodes.items c.len-end.result i.end c.carry.ensures.nodes c.loop-count.ties c.count_tie-ties.result c.count_tie-ties.ensures.most c.count_tie-ties.ensures.tie i.nodes i.ties in
    record {
      nodes = then.0;
      ties = then.1;
      from = omega (arith, c.loop-count-test.true);
      to = omega (arith, i.to);
      end = i.end;
      long = omega (arith, i.long, c.carry.ensures.len);
      few = omega (arith, i.few, c.count_tie-ties.ensures.most, c.loop-count-test.true);
      called = omega (arith, i.called, c.in_ok-found.ensures.called, c.loop-count-test.true);
      same = c.in_ok-found.ensures.same ∙ i.same;
    }

pub loop-count-preserved-in_ok-found : goal.loop-count-preserved-in_ok-found
loop-count-preserved-in_ok-found g c =
    let i = c.loop-count.invariant in
    let a = c.args.given in
    let then = found_then c.args.searcher.now.asked a.bound a.leaf c.args.route.now c.args.first a.floor a.needed c.requires.plan c.requires.best c.loop-count.count c.loop-count-test.true i.to c.loop-count.searcher.asked i.same c.in_ok-found.found c.in_ok-found.ensures.best
    c.args.nodes.now.items c.loop-count.nodes.items c.carry.new.nodes.items c.len-end.result i.end c.carry.ensures.nodes c.loop-count.ties c.count_tie-ties.result c.count_tie-ties.ensures.most c.count_tie-ties.ensures.tie i.nodes i.ties in
    record {
      nodes = then.0;
      ties = then.1;
      from = omega (arith, c.loop-count-test.true);
      to = omega (arith, i.to);
      end = i.end;
      long = omega (arith, i.long, c.carry.ensures.len);
      few = omega (arith, i.few, c.count_tie-ties.ensures.most, c.loop-count-test.true);
      called = omega (arith, i.called, c.in_ok-found.ensures.called, c.loop-count-test.true);
      same = c.in_ok-found.ensures.same ∙ i.same;
    }

pub returns-clause-nodes : goal.returns-clause-nodes
returns-clause-nodes g c =
    let i = c.loop-count.invariant in
    let n = c.loop-count.count - c.args.first in
    let us : List (Node g.row.A.Denot) = fresh_nodes (best_for c.args.searcher.now.asked c.args.given.bound) c.args.given.leaf (take c.args.first c.args.route.now) (drop c.args.first c.args.route.now) in
    let enough : (n ≡ 0) ⊎ ((k : ℕ) × (c.args.given.needed ≡ Some k) × (k ≤ c.loop-count.ties)) = elim c.loop-count-test.branch [
      | then-loop-count-test+else-needs_more w ↦ inr (w.needs_more.ensures.no w.if-needs_more.false)
      | else-loop-count-test w ↦ inl (omega (arith, w.loop-count-test.false))
    ] in
    (unsearched n us, i.nodes, found_enough c.args.given.needed us n c.loop-count.ties (length c.args.route.now - c.args.first) (length c.args.route.now - c.loop-count.count) i.ties (omega (arith, i.from, i.to)) enough)
