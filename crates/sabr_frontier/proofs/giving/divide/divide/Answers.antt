use Rattle.sabr_frontier.proofs.Names.{[], false, inl, inr, None, Option, ◌-◌, ◌≡◌, ◌+◌, ◌<◌, ◌++◌, get_or, slice_index, length, length-take-le, take, drop, arith, sym, ap, subst, ◌∙◌, ℕ, List, Some, is_lt, nat_cmp, slice_get, IsStrictlyIncreasing, take_all, Node, Rises, including, modify, AreFound, IsBestWhere, excluding, fresh_nodes, Asked, best_for, ContactPlan, IsPlan, RouteRequest, by_key, CanExclude, IsFloor}
use Rattle.std.specs.Cmp.{nat_cmp_total}
use Rattle.sabr_model.proofs.ListLemmas.Answered.{on_err}
use Rattle.sabr_frontier.proofs.TreeLemmas.Floors.{OfPart, floor_wide, of_after}
use Rattle.sabr_frontier.proofs.TreeLemmas.ModifiedPlaces.{get_there, length-modify, within_get}
use Rattle.sabr_frontier.proofs.TreeLemmas.ListFronts.{increasing, excluded_there, included, including_none}
use Rattle.sabr_frontier.proofs.ListingLemmas.AllRoutes.{beginning_fits}
use Rattle.sabr_frontier.proofs.ListingLemmas.ListMembers.{Rises-put_in}
use Rattle.sabr_frontier.proofs.giving.divide.divide.Goals as goal

module _ {A : Type 0} (nodes : List (Node A)) {i : ℕ} {s : List ℕ} (can : (n : Node A) → slice_get nodes i ≡ Some n → CanExclude n s) (l : i < length nodes) where
  -- if the number isn't excluded yet, the nodes stay
  none_excluded : {now : List (Node A)} → now ≡ nodes → modify (including s) (take (length nodes) now) i ≡ nodes
  none_excluded e =
      let w = within_get nodes i l in
      ap (λ z. modify (including s) (take (length nodes) z) i) e ∙ ap (λ z. modify (including s) z i) (take_all (length nodes) nodes (omega arith)) ∙ including_none nodes i s w.0 w.1 (can w.0 w.1)

  module _ {then : List (Node A)} (e : then ≡ modify (excluding s) nodes i) where
    long : length nodes ≡ length then
    long = sym (ap (length {A = Node A}) e ∙ length-modify (excluding s) nodes i)

    -- else it is taken out again, and new nodes are cut off
    cut_off : (now : List (Node A)) → take (length then) now ≡ then → modify (including s) (take (length nodes) now) i ≡ nodes
    cut_off now front =
        let w = within_get nodes i l in
        ap (λ z. modify (including s) (take z now) i) long ∙ ap (λ z. modify (including s) z i) front ∙ included nodes then i s w.0 w.1 e (can w.0 w.1)

    -- what stands at the place then
    module _ {k : Node A} (read : k ≡ get_or then i k) where
      there : (n : Node A) → slice_get nodes i ≡ Some n → k ≡ excluding s n
      there n is = excluded_there nodes then i s n is e k (get_there then i k (omega (arith, l, long)) read)

      longer_then : k.length < length s
      longer_then = let w = within_get nodes i l in subst (λ (k : Node A). k.length < length s) (sym (there w.0 w.1)) (can w.0 w.1).longer

      rises_then : IsStrictlyIncreasing k.excluded
      rises_then =
          let w = within_get nodes i l in
          let c = can w.0 w.1 in
          increasing k.excluded (subst (λ (k : Node A). Rises nat_cmp k.excluded) (sym (there w.0 w.1)) (Rises-put_in nat_cmp_total (slice_index s w.0.length) w.0.excluded c.rises))

      -- no route of the parts that it makes delivers before a second that none of its own does
      module _ (p : ContactPlan) (r : RouteRequest) {d : ℕ} (floor : (n : Node A) → slice_get nodes i ≡ Some n → IsFloor p r (take n.length s) n.excluded d) where
        wide_then : IsFloor p r (take k.length s) k.excluded d
        wide_then = let w = within_get nodes i l in subst (λ (k : Node A). IsFloor p r (take k.length s) k.excluded d) (sym (there w.0 w.1)) (floor_wide p r d (take w.0.length s) w.0.excluded (slice_index s w.0.length) (floor w.0 w.1))

      -- what holds of each route of its own part holds of those that go on after one number more
      module _ (p : ContactPlan) (r : RouteRequest) (P : List ℕ → Type 0) (holds : (n : Node A) → slice_get nodes i ≡ Some n → OfPart p r P (take n.length s) n.excluded) where
        after_then : OfPart p r P (take (k.length + 1) s) []
        after_then =
            let w = within_get nodes i l in
            let c = can w.0 w.1 in
            subst (λ (k : Node A). OfPart p r P (take (k.length + 1) s) []) (sym (there w.0 w.1)) (of_after p r P s w.0.length w.0.excluded c.longer c.absent (holds w.0 w.1))

      best_then : (p : ContactPlan) (r : RouteRequest) (needed : Option ℕ) (d : ℕ) → ((n : Node A) → slice_get nodes i ≡ Some n → IsBestWhere needed p r (take n.length s) n.excluded s d) → IsBestWhere needed p r (take (k.length + 1) s) [] s d
      best_then p r None d best = tt
      best_then p r (Some m) d best = (let w = within_get nodes i l in (best w.0 w.1).0, after_then p r (λ t. is_lt (by_key p r t s) ≡ false) (λ n is. (best n is).1))

-- and one search more
found_more : {A : Type 0} (needed : Option ℕ) (few many : ℕ) (us ts : List (Node A)) (n : ℕ) → few + 1 ≡ many → AreFound needed few us ts n → AreFound needed many us ts (n + 1)
found_more None few many us ts n more h = (h.0, omega (arith, more, h.1))
found_more (Some k) few many us ts n more (inl h) = inl (h.0, omega (arith, more, h.1))
found_more (Some k) few many us ts n more (inr h) = inr (h.0, omega (arith, more, h.1))

pub slice_bounds-find_best-end : goal.slice_bounds-find_best-end
slice_bounds-find_best-end g c =
    let more = longer_then _ c.requires.next (omega arith) c.in_ok-exclude_next.ensures.ok c.index-part.ensures in
    sym (length-take-le c.index-part.result.now.length c.args.route.now (omega (arith, more)))

pub overflow_add-count : goal.overflow_add-count
overflow_add-count g c = let more = longer_then _ c.requires.next (omega arith) c.in_ok-exclude_next.ensures.ok c.index-part.ensures in omega (arith, more)

pub fresh_nodes-requires-clause-within : goal.fresh_nodes-requires-clause-within
fresh_nodes-requires-clause-within g c = let more = longer_then _ c.requires.next (omega arith) c.in_ok-exclude_next.ensures.ok c.index-part.ensures in omega (arith, more)

pub find_best-requires-clause-fits : goal.find_best-requires-clause-fits
find_best-requires-clause-fits g c = beginning_fits _ _ c.args.route.now _ c.requires.route (longer_then _ c.requires.next (omega arith) c.in_ok-exclude_next.ensures.ok c.index-part.ensures)

pub find_best-requires-clause-increasing : goal.find_best-requires-clause-increasing
find_best-requires-clause-increasing g c = subst IsStrictlyIncreasing (sym c.as_slice.ensures) (rises_then _ c.requires.next (omega arith) c.in_ok-exclude_next.ensures.ok c.index-part.ensures)

pub find_best-requires-clause-floor : goal.find_best-requires-clause-floor
find_best-requires-clause-floor g c =
    let a = c.args.searcher.now.asked in
    subst (λ X. IsFloor a.plan.plan a.request (take c.index-part.result.now.length c.args.route.now) X c.args.given.floor) (sym c.as_slice.ensures)
    (wide_then _ c.requires.next (omega arith) c.in_ok-exclude_next.ensures.ok c.index-part.ensures _ _ c.requires.floor)

pub fresh_nodes-requires-clause-plan : goal.fresh_nodes-requires-clause-plan
fresh_nodes-requires-clause-plan g c = subst (λ (a : Asked). IsPlan a.plan.plan) (sym c.find_best.ensures.same) c.requires.plan

pub fresh_nodes-requires-clause-floor : goal.fresh_nodes-requires-clause-floor
fresh_nodes-requires-clause-floor g c =
    subst (λ (b : Asked). IsFloor b.plan.plan b.request (take (c.index-part.result.now.length + 1) c.args.route.now) [] c.args.given.floor) (sym c.find_best.ensures.same)
    (after_then _ c.requires.next (omega arith) c.in_ok-exclude_next.ensures.ok c.index-part.ensures _ _ _ c.requires.floor)

pub fresh_nodes-requires-clause-best : goal.fresh_nodes-requires-clause-best
fresh_nodes-requires-clause-best g c =
    subst (λ (b : Asked). IsBestWhere c.args.given.needed b.plan.plan b.request (take (c.index-part.result.now.length + 1) c.args.route.now) [] c.args.route.now c.args.given.floor) (sym c.find_best.ensures.same)
    (best_then _ c.requires.next (omega arith) c.in_ok-exclude_next.ensures.ok c.index-part.ensures _ _ c.args.given.needed c.args.given.floor c.requires.best)

pub returns-clause-found : goal.returns-clause-found
returns-clause-found g c n is =
    let best = best_for c.args.searcher.now.asked c.args.given.bound (take c.index-part.result.now.length c.args.route.now) in
    c.in_ok-found.ensures.best ∙ ap best c.as_slice.ensures
    ∙ ap (λ (k : Node _). best_for c.args.searcher.now.asked c.args.given.bound (take k.length c.args.route.now) k.excluded) (there _ c.requires.next (omega arith) c.in_ok-exclude_next.ensures.ok c.index-part.ensures n is)

pub returns-clause-ok : goal.returns-clause-ok
returns-clause-ok g c n is =
    let s = c.args.route.now in
    let same = there _ c.requires.next (omega arith) c.in_ok-exclude_next.ensures.ok c.index-part.ensures n is in
    let w = c.in_ok-searches.ensures.nodes in (
      w.0,
      w.1 ∙ ap (λ z. z ++ w.0) c.in_ok-exclude_next.ensures.ok,
      found_more c.args.given.needed _ _ _ w.0 c.in_ok-searches.searches (omega (arith, (c.requires.next n is).longer, ap (λ (m : Node _). m.length) same))
          (subst (λ us. AreFound c.args.given.needed (length s - (c.index-part.result.now.length + 1)) us w.0 c.in_ok-searches.searches) (λ i. fresh_nodes (best_for (c.find_best.ensures.same i) c.args.given.bound) c.args.given.leaf (take ((same i).length + 1) s) (drop ((same i).length + 1) s)) w.2),
    )

pub returns-in_err-exclude_next-clause-at_most : goal.returns-in_err-exclude_next-clause-at_most
returns-in_err-exclude_next-clause-at_most g c = on_err c.from_residual.result (λ n stands. omega (arith, (c.requires.next n stands).longer))

pub returns-in_err-found-clause-at_most : goal.returns-in_err-found-clause-at_most
returns-in_err-found-clause-at_most g c = on_err c.from_residual-in_err-found.result (λ n stands. omega (arith, (c.requires.next n stands).longer, c.find_best.ensures.called))

pub returns-in_err-searches-clause-at_most : goal.returns-in_err-searches-clause-at_most
returns-in_err-searches-clause-at_most g c =
    on_err c.from_residual-in_err-searches.result (λ n is.
    let same = there _ c.requires.next (omega arith) c.in_ok-exclude_next.ensures.ok c.index-part.ensures n is in
    omega (arith, c.in_err-searches.ensures.at_most, c.find_best.ensures.called, ap (λ (m : Node _). m.length) same))

pub returns-in_err-exclude_next-clause-err : goal.returns-in_err-exclude_next-clause-err
returns-in_err-exclude_next-clause-err g c = on_err c.from_residual.result (none_excluded _ c.requires.next (omega arith) c.in_err-exclude_next.ensures.err)

pub returns-in_err-found-clause-err : goal.returns-in_err-found-clause-err
returns-in_err-found-clause-err g c = on_err c.from_residual-in_err-found.result (cut_off _ c.requires.next (omega arith) c.in_ok-exclude_next.ensures.ok _ (take_all _ c.exclude_next.new.nodes.items (omega arith)))

pub returns-in_err-searches-clause-err : goal.returns-in_err-searches-clause-err
returns-in_err-searches-clause-err g c = on_err c.from_residual-in_err-searches.result (cut_off _ c.requires.next (omega arith) c.in_ok-exclude_next.ensures.ok _ c.fresh_nodes.ensures.front)
