use Rattle.sabr_frontier.proofs.Names.{◌≡◌, sym, subst, IsPausedOver, seen_over, IsSession, Seen, seen, RouteRequest, searching_first}
use Rattle.sabr_frontier.proofs.session.Session.pause.Goals as goal

pub returns-clause-seen : goal.returns-clause-seen
returns-clause-seen g c =
    let s = c.self.inside in
    subst (λ (v : Seen). seen_over g.B.BestOf.calls_of v.plan (record { searcher = c.pause.result; tree = s.tree; pages = s.pages; searches = s.searches; looks = s.looks }) ≡ v) c.self.view_is
    (λ i. seen (searching_first s.searcher.asked.plan (c.pause.ensures.request i) (c.pause.ensures.calls i)) s.tree s.pages.items s.searches s.looks)

pub returns-clause-paused : goal.returns-clause-paused
returns-clause-paused g c =
    let s = c.self.inside in
    subst (λ (v : Seen). IsPausedOver v.plan (record { searcher = c.pause.result; tree = s.tree; pages = s.pages; searches = s.searches; looks = s.looks })) c.self.view_is (record {
      session = subst (λ (r : RouteRequest). IsSession s.searcher.asked.plan r s.tree s.pages.items) (sym c.pause.ensures.request) c.self.invariant.0;
      cache = c.pause.ensures.cache;
    })
