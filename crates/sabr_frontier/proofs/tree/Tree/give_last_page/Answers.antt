use Rattle.sabr_frontier.proofs.Names.{◌≡◌, refl, ◌+◌, ◌-◌, ◌≤◌, List, ◌++◌, ℕ, inl, inr, arith, ap, sym, subst, ◌∙◌, zero, suc, [], Some, None, append_assoc, append-nil, is_some, record_of, RouteRecord, next_route, given_first, one_step, searches_in, steps, State, detour_looks, HasLooks, looks_taken, Asked, records_for, steps_for, Shape, shape_of, shown, IsTree, map-append, ContactPlan, IsPlan, RouteRequest}
use Rattle.sabr_frontier.proofs.GivingLemmas.{then_ok}
use Rattle.sabr_frontier.proofs.GivingLemmas.CutPages.{IsSameStep, cut_looks, cut_next, cut_tree, two_looks}
use Rattle.sabr_frontier.proofs.SessionLemmas.Pages.{idle, more_is, counts_go, counts_none, counts_stop, steps_go, steps_none, steps_stop}
use Rattle.sabr_frontier.proofs.tree.Tree.give_last_page.Goals as goal

-- ---- the steps of a page, the last of them apart

-- what some steps give, and then others
abbrev and_then : List (List ℕ) × State → List (List ℕ) × State → List (List ℕ) × State
and_then first rest = (first.0 ++ rest.0, rest.1)

-- steps, and further ones from the state that they reach
steps_then : (p : ContactPlan) (r : RouteRequest) (m n : ℕ) (s : State) → steps p r (m + n) s ≡ and_then (steps p r m s) (steps p r n (steps p r m s).1)
steps_then p r zero n s =
    let none : 0 + n ≡ n = omega arith in
    ap (λ k. steps p r k s) none ∙ sym (ap (λ (z : List (List ℕ) × State). and_then z (steps p r n z.1)) (steps_none p r s))
steps_then p r (suc m) n s =
    let more : suc m + n ≡ suc (m + n) = omega arith in
    let then = λ (z : List (List ℕ) × State). and_then z (steps p r n z.1) in
    elim (one_step p r s) as (λ o. one_step p r s ≡ o → steps p r (suc m + n) s ≡ then (steps p r (suc m) s)) [
      | None ↦ λ e. steps_stop p r s (suc m + n) e ∙ sym (ap then (steps_stop p r s (suc m) e) ∙ ap (and_then ([], s)) (steps_stop p r s n e))
      | Some w ↦ λ e. ap (λ k. steps p r k s) more ∙ steps_go p r s w.1 w.0 (m + n) e ∙ ap (given_first w.0) (steps_then p r m n w.1) ∙ sym (ap then (steps_go p r s w.1 w.0 m e))
    ] refl

-- their searches
counts_then : (p : ContactPlan) (r : RouteRequest) (m n : ℕ) (s : State) → searches_in p r (m + n) s ≡ searches_in p r m s + searches_in p r n (steps p r m s).1
counts_then p r zero n s =
    let none : 0 + n ≡ n = omega arith in
    let same = ap (λ (z : List (List ℕ) × State). searches_in p r n z.1) (steps_none p r s) in
    let all = ap (λ k. searches_in p r k s) none in
    omega (arith, all, same, counts_none p r s 0 refl)
counts_then p r (suc m) n s =
    let more : suc m + n ≡ suc (m + n) = omega arith in
    let all = ap (λ k. searches_in p r k s) more in
    let then = λ (z : List (List ℕ) × State). searches_in p r n z.1 in
    elim (one_step p r s) as (λ o. one_step p r s ≡ o → searches_in p r (suc m + n) s ≡ searches_in p r (suc m) s + searches_in p r n (steps p r (suc m) s).1) [
      | None ↦ λ e. omega (arith, all, counts_stop p r s (suc (m + n)) e, counts_stop p r s (suc m) e, ap then (steps_stop p r s (suc m) e), counts_stop p r s n e)
      | Some w ↦ λ e. omega (arith, all, counts_go p r s w.1 w.0 (m + n) e, counts_go p r s w.1 w.0 m e, ap then (steps_go p r s w.1 w.0 m e), counts_then p r m n w.1)
    ] refl

-- so many steps from s, and one more, asked for in the same way from a tree that tells the same of it
module _ {A : Type 0} (a : Asked) (s : State) (k count : ℕ) (less : k + 1 ≡ count) (b : Asked) (t : Shape A) (same : b ≡ a) (step : IsSameStep a (steps_for a k s).1 t) where
  page_is : steps_for a count s ≡ and_then (steps_for a k s) (steps_for a 1 (steps_for a k s).1)
  page_is = ap (λ n. steps_for a n s) (sym less) ∙ steps_then a.plan.plan a.request k 1 s

  all_given : (before xs ys : List RouteRecord) → xs ≡ before ++ records_for a (steps_for a k s).0 → ys ≡ xs ++ records_for b (steps_for b 1 (shown t)).0 → ys ≡ before ++ records_for a (steps_for a count s).0
  all_given before xs ys first last =
      let last_route = records_for a (steps_for a 1 (steps_for a k s).1).0 in
      last ∙ (λ i. first i ++ records_for (same i) (steps_for (same i) 1 (shown t)).0)
      ∙ ap (λ z. (before ++ records_for a (steps_for a k s).0) ++ records_for a z) step.routes
      ∙ append_assoc before (records_for a (steps_for a k s).0) last_route
      ∙ sym (ap (λ (z : List (List ℕ) × State). before ++ records_for a z.0) page_is ∙ ap (λ z. before ++ z) (map-append (record_of a.plan.plan a.request) (steps_for a k s).0 (steps_for a 1 (steps_for a k s).1).0))

  left_after_last : is_some (next_route b.plan.plan b.request (steps_for b 1 (shown t)).1) ≡ is_some (next_route a.plan.plan a.request (steps_for a count s).1)
  left_after_last =
      (λ i. is_some (next_route (same i).plan.plan (same i).request (steps_for (same i) 1 (shown t)).1))
      ∙ step.more ∙ sym (ap (λ (z : List (List ℕ) × State). is_some (next_route a.plan.plan a.request z.1)) page_is)

  all_searches : searches_in a.plan.plan a.request k s + searches_in b.plan.plan b.request 1 (shown t) ≡ searches_in a.plan.plan a.request count s
  all_searches =
      (λ i. searches_in a.plan.plan a.request k s + searches_in (same i).plan.plan (same i).request 1 (shown t))
      ∙ ap (λ n. searches_in a.plan.plan a.request k s + n) step.searches
      ∙ sym (ap (λ n. searches_in a.plan.plan a.request n s) (sym less) ∙ counts_then a.plan.plan a.request k 1 s)

pub returns-then-count-eq0-clause-routes : goal.returns-then-count-eq0-clause-routes
returns-then-count-eq0-clause-routes g c =
    let a = c.args.searcher.now.asked in
    let xs = c.args.self.now.leaves.items in
    let none = idle a.plan.plan a.request c.requires.plan (shape_of c.args.self.now) c.requires.sound c.args.count (inl (omega arith)) in
    sym (ap (λ (z : List (List ℕ) × State). xs ++ records_for a z.0) none ∙ append-nil xs)

pub returns-then-count-eq0-clause-more : goal.returns-then-count-eq0-clause-more
returns-then-count-eq0-clause-more g c =
    let p = c.args.searcher.now.asked.plan.plan in
    let r = c.args.searcher.now.asked.request in
    let t = shape_of c.args.self.now in
    let none = sym (idle p r c.requires.plan t c.requires.sound c.args.count (inl (omega arith))) in
    more_is p r c.requires.plan t c.requires.sound c.is_empty.result c.is_empty.ensures.none c.is_empty.ensures.some
    ∙ ap (λ (z : List (List ℕ) × State). is_some (next_route p r z.1)) none

pub give_last-requires-clause-tree : goal.give_last-requires-clause-tree
give_last-requires-clause-tree g c =
    let a = c.args.searcher.now.asked in
    let t = shape_of c.give_page_up_to.new.self in
    let same = c.give_page_up_to.ensures.same in
    subst (λ (b : Asked). IsTree b.plan.plan b.request t) (sym same) (cut_tree a 2 (steps_for a (c.args.count - 1) (shown (shape_of c.args.self.now))).1 t (c.in_ok-give_page_up_to.ensures {u = tt}).state)

pub give_last-requires-clause-plan : goal.give_last-requires-clause-plan
give_last-requires-clause-plan g c =
    let same = c.give_page_up_to.ensures.same in
    subst (λ (b : Asked). IsPlan b.plan.plan) (sym same) c.requires.plan

pub returns : goal.returns
returns g c =
    let a = c.args.searcher.now.asked in
    let b = c.give_page_up_to.new.searcher.asked in
    let k = c.args.count - 1 in
    let less : k + 1 ≡ c.args.count = omega arith in
    let given = c.in_ok-give_page_up_to.ensures {u = tt} in
    let first = shown (shape_of c.args.self.now) in
    let t = shape_of c.give_page_up_to.new.self in
    let same = c.give_page_up_to.ensures.same in
    let told = c.give_last.ensures in
    let step = cut_next a (steps_for a k first).1 t c.requires.plan given.state in
    let all = all_searches a first k c.args.count less b t same step in
    record {
      routes = then_ok c.give_last.result told.routes (λ _. all_given a first k c.args.count less b t same step c.args.self.now.leaves.items c.give_page_up_to.new.self.leaves.items c.give_last.new.self.leaves.items given.routes);
      more = then_ok c.give_last.result told.more (λ more h. h ∙ left_after_last a first k c.args.count less b t same step);
      no_fewer = then_ok c.give_last.result told.no_fewer (λ _ h. omega (arith, given.no_fewer, h));
      at_most = then_ok c.give_last.result told.at_most (λ _ h. omega (arith, given.at_most, h, all));
      looks = then_ok c.give_last.result told.looks (λ _. subst (λ (z : Asked). c.args.looks.now.left ≤ c.give_last.new.looks.left + detour_looks z.request.max_hops) same);
      least = then_ok c.give_last.result told.least (λ more h so _ called.
          cut_looks a (steps_for a k first).1 t c.requires.plan given.state (looks_taken c.give_last.new.looks) (elim given.called [
            | inl all ↦ subst (λ (z : Asked). HasLooks (looks_taken c.give_last.new.looks) z.plan.plan z.request (shown t)) same (h so (omega (arith, called, all)))
            | inr two ↦ two_looks a.plan.plan a.request c.requires.plan t (cut_tree a 2 (steps_for a k first).1 t given.state) two (looks_taken c.give_last.new.looks)
          ]));
      same = told.same ∙ same;
    }

pub give_last-requires-clause-few : goal.give_last-requires-clause-few
give_last-requires-clause-few g c =
    let same = c.give_page_up_to.ensures.same in
    subst (λ (z : Asked). detour_looks z.request.max_hops ≤ c.args.looks.now.left) (sym same) c.requires.few

pub returns-then-count-eq0-clause-least : goal.returns-then-count-eq0-clause-least
returns-then-count-eq0-clause-least g c _ some = absurd (omega (arith, some))
