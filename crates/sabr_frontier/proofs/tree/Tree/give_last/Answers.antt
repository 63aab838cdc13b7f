use Rattle.sabr_frontier.proofs.Names.{◌≡◌, ◌≤◌, ℕ, List, [], ◌∷◌, ◌++◌, ◌||◌, Some, None, length, true≢false, append-nil, ap, sym, subst, ◌∙◌, slice_get_within, is_some, IsPlan, RouteRecord, is_route, Node, looks_taken, CarriesNoOther, others_carry, part_goes_on, next_route, State, Asked, best_for, records_for, steps_for, Shape, numbers_of, route_at, shape_of, shown, CanExclude, IsTree, CarriesNone}
use Rattle.sabr_frontier.proofs.SessionLemmas.LeftSteps.{no_others, one_route, left_after}
use Rattle.sabr_frontier.proofs.SessionLemmas.Pages.{counts_known, steps_stop, nothing_carried, nothing_given}
use Rattle.sabr_frontier.proofs.TreeLemmas.CarryingNodes.{known, inside, next_is}
use Rattle.sabr_frontier.proofs.TreeLemmas.Floors.{floor_known}
use Rattle.sabr_frontier.proofs.tree.Tree.give_last.Goals as goal

pub goes_on_after-requires : goal.goes_on_after-requires
goes_on_after-requires g c =
    let a = c.args.searcher.now.asked in
    let t = shape_of c.args.self.now in
    let k = known a c.requires.tree c.in-Some.ensures.some (sym (c.in-Some-carried.ensures ∙ ap (λ ns. route_at ns c.in-Some.node) c.as_slice.ensures.value)) in
    let numbers = c.numbers.ensures ∙ ap numbers_of k.copied in
    record {
      few = c.requires.few;
      in_range = slice_get_within t.nodes c.in-Some.node.0 k.part k.stands;
      route = ap (is_route a.plan.plan a.request) numbers ∙ (inside a.plan.plan a.request t c.requires.tree c.in-Some.node k.part k.route k.stands k.carries).0;
      floor = floor_known a t c.in-Some.node _ k c.requires.plan c.requires.tree _ c.numbers.ensures c.floor_of-floor.result c.floor_of-floor.ensures.yes c.floor_of-floor.ensures.no;
      next = λ n stands. (let same : k.part ≡ n = let there = k.stands in cc in subst (CanExclude n) (sym numbers) (subst (λ (m : Node _). CanExclude m k.route.contacts) same k.can));
    }

pub returns-clause-routes : goal.returns-clause-routes
returns-clause-routes g c =
    let a = c.args.searcher.now.asked in
    let k = known a c.requires.tree c.in-Some.ensures.some (sym c.in-Some-carry.ensures.route) in
    (c.in_ok-push.ensures {u = tt}).items
    ∙ ap (λ z. c.args.self.now.leaves.items ++ z)
    (ap (λ (x : RouteRecord). x ∷ []) k.copied ∙ sym (one_route a.plan.plan a.request c.requires.plan (shape_of c.args.self.now) c.requires.tree c.in-Some.node k.part k.route k.stands k.carries k.least))

pub returns-clause-more : goal.returns-clause-more
returns-clause-more g c =
    let a = c.args.searcher.now.asked in
    let t = shape_of c.args.self.now in
    let k = known a c.requires.tree c.in-Some.ensures.some (sym (c.in-Some-carried.ensures ∙ ap (λ ns. route_at ns c.in-Some.node) c.as_slice.ensures.value)) in
    c.in_ok-more.ensures.ok k.part k.stands
    ∙ ap (λ s. others_carry t.nodes c.in-Some.node || part_goes_on (best_for a None) k.part s) (c.numbers.ensures ∙ ap numbers_of k.copied)
    ∙ sym (left_after a.plan.plan a.request c.requires.plan t c.requires.tree c.in-Some.node k.part k.route k.stands k.carries k.least)

-- no step is left to take
no_step : {A : Type 0} (a : Asked) → IsPlan a.plan.plan → (t : Shape A) → IsTree a.plan.plan a.request t → CarriesNone t.nodes → steps_for a 1 (shown t) ≡ ([], shown t)
no_step a good t is none = steps_stop a.plan.plan a.request (shown t) 1 (nothing_given a.plan.plan a.request good t is none)

pub returns-in_default-clause-routes : goal.returns-in_default-clause-routes
returns-in_default-clause-routes g c =
    let a = c.args.searcher.now.asked in
    let routes = c.args.self.now.leaves.items in
    sym (ap (λ (z : List (List ℕ) × State). routes ++ records_for a z.0) (no_step a c.requires.plan (shape_of c.args.self.now) c.requires.tree c.in_default.ensures.none) ∙ append-nil routes)

pub returns-in_default-clause-more : goal.returns-in_default-clause-more
returns-in_default-clause-more g c =
    let a = c.args.searcher.now.asked in
    let t = shape_of c.args.self.now in
    sym (ap (λ (z : List (List ℕ) × State). is_some (next_route a.plan.plan a.request z.1)) (no_step a c.requires.plan t c.requires.tree c.in_default.ensures.none)
    ∙ ap is_some (nothing_carried a.plan.plan a.request c.requires.plan t c.requires.tree c.in_default.ensures.none))

pub returns-clause-at_most : goal.returns-clause-at_most
returns-clause-at_most g c =
    let k = known c.args.searcher.now.asked c.requires.tree c.in-Some.ensures.some (sym (c.in-Some-carried.ensures ∙ ap (λ ns. route_at ns c.in-Some.node) c.as_slice.ensures.value)) in
    counts_known c.requires.plan c.requires.tree k _ _ c.numbers.ensures (c.goes_on_after.ensures.at_most k.part k.stands)

pub returns-clause-least : goal.returns-clause-least
returns-clause-least g c so same x next only =
    let a = c.args.searcher.now.asked in
    let t = shape_of c.args.self.now in
    let k = known a c.requires.tree c.in-Some.ensures.some (sym (c.in-Some-carried.ensures ∙ ap (λ ns. route_at ns c.in-Some.node) c.as_slice.ensures.value)) in
    let is : k.route.contacts ≡ x = let both : Some k.route.contacts ≡ Some x = sym (next_is a.plan.plan a.request t c.requires.tree c.in-Some.node k.part k.route k.stands k.carries k.least) ∙ next in cc in
    let none = no_others a.plan.plan a.request t c.requires.tree c.in-Some.node k.part k.route k.stands k.carries (subst (CarriesNoOther (shown t)) (sym is) only) in
    let numbers = c.numbers.ensures ∙ ap numbers_of k.copied ∙ is in
    subst (λ s. length s ≤ looks_taken c.goes_on_after.new.looks) numbers (c.in_ok-more.ensures.least so same none)

pub returns-in_default-clause-least : goal.returns-in_default-clause-least
returns-in_default-clause-least g c so = absurd (true≢false (sym so))
