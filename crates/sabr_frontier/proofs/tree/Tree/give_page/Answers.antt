use Rattle.sabr_frontier.proofs.Names.{◌≡◌, ℕ, ◌+◌, ◌-◌, ◌≤◌, ◌⊎◌, List, ◌++◌, append-nil, suc, length, length-drop, drop, arith, refl, sym, ap, subst, ◌∙◌, inl, inr, zero-add, None, drop_at, length_push, take_all, RouteRecord, searches_in, State, Asked, records_for, shape_of, shown, IsTree, CarriesNone}
use Rattle.sabr_model.proofs.ListLemmas.Answered.{on_err}
use Rattle.sabr_frontier.proofs.SessionLemmas.Pages.{is_given, IsOnTheWay, at_first, one_on, idle, sound_tree, counts_on, counts_idle, counts_first, given_same}
use Rattle.sabr_frontier.proofs.tree.Tree.give_page.Goals as goal
use Rattle.sabr_frontier.proofs.tree.Tree.give_page.Goals.{then-loop-left-test+else-not-is_empty, else-loop-left-test}

pub loop-left-init : goal.loop-left-init
loop-left-init g c = record {
  most = omega arith;
  way = at_first c.args.searcher.now.asked.plan.plan c.args.searcher.now.asked.request c.args.count (shape_of c.args.self.now) c.requires.sound;
  long = omega (arith, c.len-first.ensures);
  index = refl;
  room = c.requires.room;
  sum = zero-add _;
  called = omega arith;
  few = omega arith;
  same = refl;
}

pub give_next-requires-clause-tree : goal.give_next-requires-clause-tree
give_next-requires-clause-tree g c =
    subst (λ (a : Asked). IsTree a.plan.plan a.request (shape_of c.loop-left.self)) (sym c.loop-left.invariant.same)
    (sound_tree c.args.searcher.now.asked.plan.plan c.args.searcher.now.asked.request (length c.loop-left.self.journal.items) (shape_of c.loop-left.self) c.loop-left.invariant.way.sound)

pub overflow_add-searches : goal.overflow_add-searches
overflow_add-searches g c =
    let p = c.args.searcher.now.asked.plan.plan in
    let r = c.args.searcher.now.asked.request in
    let t = shape_of c.loop-left.self in
    let taken = given_same None None c.loop-left.invariant.same c.in_ok-given.ensures.ok in
    let step = is_given p r c.requires.plan t (sound_tree p r (length t.journal) t c.loop-left.invariant.way.sound) _ _ taken in
    omega (arith, step.0.few, step.1, c.loop-left.invariant.few, c.requires.hops, c.requires.count, c.loop-left-test.true)

pub loop-left-preserved : goal.loop-left-preserved
loop-left-preserved g c =
    let p = c.args.searcher.now.asked.plan.plan in
    let r = c.args.searcher.now.asked.request in
    let t = shape_of c.loop-left.self in
    let first = shape_of c.args.self.now in
    let i = c.loop-left.invariant in
    let k : ℕ = c.loop-left.left - 1 in
    let step = is_given p r c.requires.plan t (sound_tree p r (length t.journal) t i.way.sound) _ _ (given_same None None i.same c.in_ok-given.ensures.ok) in
    let u = shape_of c.give_next.new.self in
    let left : c.loop-left.left ≡ suc k = omega (arith, c.loop-left-test.true) in
    record {
      most = omega (arith, i.most);
      way = one_on p r (shown first) c.args.count first k t u step.0 (subst (λ n. IsOnTheWay p r (shown first) c.args.count first n t) left i.way);
      long = omega (arith, i.long, ap (length {A = RouteRecord}) step.0.leaves, length_push t.leaves step.0.route);
      index = c.give_next.ensures.index ∙ i.index;
      room = c.in_ok-given.ensures.room;
      sum = counts_on p r t u step.0 k c.loop-left.searches c.in_ok-given.given.searches (searches_in p r c.args.count (shown first)) step.1
          (subst (λ n. c.loop-left.searches + searches_in p r n (shown t) ≡ searches_in p r c.args.count (shown first)) left i.sum);
      called = omega (arith, c.in_ok-given.ensures.called, i.called);
      few = omega (arith, step.0.few, step.1, i.few, c.requires.hops, left);
      same = c.give_next.ensures.same ∙ i.same;
    }

pub returns : goal.returns
returns g c =
    let a = c.args.searcher.now.asked in
    let i = c.loop-left.invariant in
    let stop : (c.loop-left.left ≡ 0) ⊎ CarriesNone c.loop-left.self.nodes.items = elim c.loop-left-test.branch [
      | then-loop-left-test+else-not-is_empty w ↦ inr (w.is_empty.ensures.none w.if-not-is_empty.false)
      | else-loop-left-test w ↦ inl (omega (arith, w.loop-left-test.false))
    ] in
    let t = shape_of c.loop-left.self in
    let end = idle a.plan.plan a.request c.requires.plan t i.way.sound c.loop-left.left stop in
    let routes = sym (append-nil t.leaves) ∙ ap (λ (z : List (List ℕ) × State). t.leaves ++ records_for a z.0) (sym end) ∙ i.way.routes in
    let n = c.len-first.result in
    let all = c.deref.result.now in
    record {
      routes = c.in_ok-routes.ensures ∙ take_all (length all - n) (drop n all) (omega (arith, length-drop n all)) ∙ ap (drop n) c.deref.ensures.value
          ∙ ap (drop n) routes ∙ drop_at c.args.self.now.leaves.items _ _ (omega (arith, c.len-first.ensures));
      state = ap (λ (z : List (List ℕ) × State). z.1) (sym end) ∙ i.way.state;
      entries = (let all = i.way.entries in let none = ap (λ (z : List (List ℕ) × State). length z.0) end in omega (arith, all, none));
      searches = (let still = counts_idle a.plan.plan a.request c.requires.plan t i.way.sound c.loop-left.left stop in omega (arith, still, i.sum));
      called = i.called;
      no_fewer = tt;
      at_most = tt;
      sound = i.way.sound;
      longer = i.way.longer;
      back = i.way.back;
      index = i.index;
      room = i.room;
      same = i.same;
    }

pub returns-in_err-given-clause-at_most : goal.returns-in_err-given-clause-at_most
returns-in_err-given-clause-at_most g c =
    let s = shown (shape_of c.loop-left.self) in
    let few = subst (λ (a : Asked). c.give_next.new.searcher.calls.count ≤ c.loop-left.searcher.calls.count + searches_in a.plan.plan a.request 1 s) c.loop-left.invariant.same c.in_err-given.ensures.at_most in
    let one = counts_first c.args.searcher.now.asked.plan.plan c.args.searcher.now.asked.request s c.loop-left.left (omega (arith, c.loop-left-test.true)) in
    on_err c.from_residual.result (omega (arith, few, one, c.loop-left.invariant.sum, c.loop-left.invariant.called))
