use Rattle.sabr_frontier.proofs.Names.{◌-◌, drop, ap, sym, subst, ◌∙◌, arith, Calls, HasLooks, Seen, Asked, steps_for, shape_of, shown, drop_at}
use Rattle.sabr_frontier.specs.session.LastPage.{IsLastPage, LastSeen}
use Rattle.sabr_frontier.proofs.GivingLemmas.Sums.{calls_go_on, looks_go_on}
use Rattle.sabr_frontier.proofs.session.Session.last_page.Goals as goal

pub returns : goal.returns
returns g c =
    let s = c.self.inside in
    let a = s.searcher.asked in
    let given = c.in_ok-more.ensures in
    let page : LastSeen = record { plan = c.take_looks-looks.new.self.asked.plan; routes = drop c.len-first.result c.give_last_page.new.self.leaves.items; more = c.in_ok-more.more; calls = c.take_looks-looks.new.self.calls; looks = c.take_looks-looks.result; detour_looks = c.taken.result } in
    subst (λ (v : Seen). IsLastPage v c.args.count page) c.self.view_is (record {
      plan = ap (λ (z : Asked). z.plan) c.take_looks-looks.ensures.begun ∙ ap (λ (z : Asked). z.plan) c.give_last_page.ensures.same;
      routes = ap (drop c.len-first.result) given.routes ∙ drop_at s.tree.leaves.items _ _ (omega (arith, c.len-first.ensures));
      more = given.more;
      go_on = calls_go_on s.searcher c.give_last_page.new.searcher c.self.invariant.1 c.give_last_page.ensures.same _ c.take_looks-looks.ensures.calls c.take_looks-looks.ensures.go_on;
      at_most = omega (arith, given.at_most, ap (λ (z : Calls). z.count) c.take_looks-looks.ensures.calls);
      looks = looks_go_on s.searcher c.give_last_page.new.searcher c.self.invariant.1 c.give_last_page.ensures.same _ c.take_looks-looks.ensures.calls _ c.take_looks-looks.ensures.sum;
      detours = omega (arith, given.looks, c.many-detours.ensures, c.taken.ensures);
      detour = λ so some called. subst (λ n. HasLooks n a.plan.plan a.request (steps_for a (c.args.count - 1) (shown (shape_of s.tree))).1) (sym c.taken.ensures) (given.least so some (omega (arith, called, ap (λ (z : Calls). z.count) c.take_looks-looks.ensures.calls)));
    })

pub give_last_page-requires-clause-few : goal.give_last_page-requires-clause-few
give_last_page-requires-clause-few g c =
    let limit = c.self.invariant.0.limits.hops.1 in
    omega (arith, limit, c.many-detours.ensures)
