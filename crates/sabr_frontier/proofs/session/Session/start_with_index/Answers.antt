use Rattle.sabr_frontier.proofs.Names.{◌≡◌, [], length, reverse, arith, ap, refl, sym, subst, ◌∙◌, IsPlan, TabledPlan, empty_is_prefix, Calls, Asked, GoOn, IsAtRest, Searching, searching_first, Shape, shape_of, shown, root, AreStarts, IsSession, IsSound, former_of, started, best_of}
use Rattle.sabr_model.specs.routes.Asking.{IsRequest}
use Rattle.sabr_frontier.proofs.GivingLemmas.Sums.{calls_go_on}
use Rattle.sabr_frontier.proofs.TreeLemmas.SoundSteps.{root_is_tree, shown_root}
use Rattle.sabr_frontier.proofs.session.Session.start_with_index.Goals as goal

pub resume-searcher-requires : goal.resume-searcher-requires
resume-searcher-requires g c = c.new.ensures.cache _

pub find_best-requires-clause-fits : goal.find_best-requires-clause-fits
find_best-requires-clause-fits g c =
    empty_is_prefix c.resume-searcher.result.asked.plan.plan c.resume-searcher.result.asked.request

pub invariant_of-result : goal.invariant_of-result
invariant_of-result g c =
    let p = c.resume-searcher.result.asked.plan.plan in
    let r = c.resume-searcher.result.asked.request in
    let asked = c.take_looks.ensures.begun ∙ ap (λ (a : Asked). record a { before = c.find_best.new.self.calls }) c.find_best.ensures.same in
    let same : shape_of c.in_ok-tree.tree ≡ root (best_of p r [] []) = c.in_ok-tree.ensures.shape ∙ ap root c.in_ok-found.ensures.best in
    let rules : IsPlan p = subst (λ (a : Searching). IsPlan a.asked.plan.plan) (sym c.resume-searcher.ensures) (subst (λ (q : TabledPlan). IsPlan q.plan) c.plan.ensures c.rules_hold.ensures) in (
      subst (λ (a : Asked). IsSession a.plan a.request c.in_ok-tree.tree c.new-2.result.items) (sym asked) (record {
        rules = rules;
        limits = subst (λ (a : Searching). IsRequest a.asked.request) (sym c.resume-searcher.ensures) (subst IsRequest (sym c.new.ensures.request) c.limits_hold.ensures);
        sound = subst (IsSound p r) (sym same) (root_is_tree g.row.A.Denot p r rules);
        starts = subst (λ z. AreStarts (reverse z) (length c.in_ok-tree.tree.journal.items)) (sym c.new-2.ensures.items) (ap (λ (z : Shape g.row.A.Denot). length z.journal) same);
        index = c.in_ok-tree.ensures.index;
        room = c.in_ok-tree.ensures.room;
      }),
      c.take_looks.ensures.rest,
    )

pub returns : goal.returns
returns g c =
    let p = c.resume-searcher.result.asked.plan.plan in
    let r = c.resume-searcher.result.asked.request in
    let asked = c.take_looks.ensures.begun ∙ ap (λ (a : Asked). record a { before = c.find_best.new.self.calls }) c.find_best.ensures.same in
    let same : shape_of c.in_ok-tree.tree ≡ root (best_of p r [] []) = c.in_ok-tree.ensures.shape ∙ ap root c.in_ok-found.ensures.best in
    let state = ap shown same ∙ shown_root g.row.A.Denot p r in
    let former = ap (λ z. former_of (reverse z) (shape_of c.in_ok-tree.tree)) c.new-2.ensures.items in
    let calls = c.take_looks.new.self.calls in
    let first = c.resume-searcher.ensures ∙ (λ i. searching_first c.args.index (c.new.ensures.request i) (g.B.BestOf.calls_of (c.new.ensures.finder i))) in
    let taken = ap (λ (z : Calls). z.count) c.take_looks.ensures.calls in
    let before = ap (λ (a : Searching). a.calls.count) first in
    record {
      shows = (λ i. record { plan = (asked i).plan; request = (asked i).request; state = state i; former = former i; searches = 1; calls = calls; looks = 0 })
          ∙ ap (λ (a : Searching). started a.asked.plan a.asked.request calls) first;
      called = omega (arith, taken, c.find_best.ensures.called, before);
      go_on = subst (λ (a : Searching). GoOn a.asked.plan.plan a.calls calls) first (calls_go_on c.resume-searcher.result c.find_best.new.self (subst IsAtRest (sym first) refl) c.find_best.ensures.same _ c.take_looks.ensures.calls c.take_looks.ensures.go_on);
    }
