-- What a last page shows, and what holds of it.
use Rattle.std.specs.Prelude.{◌≡◌, ℕ, ◌+◌, ◌-◌, ◌<◌, ◌≤◌, Bool, List, map, is_some, IsTrue}
use Rattle.sabr_model.specs.plan.Plan.{TabledPlan}
use Rattle.sabr_model.specs.routes.Record.{RouteRecord, record_of}
use Rattle.sabr_search.specs.questions.Calls.{Calls}
use Rattle.sabr_search.specs.questions.Detours.{detour_looks}
use Rattle.sabr_frontier.specs.tree.Left.{HasLooks}
use Rattle.sabr_frontier.specs.listing.Listing.{next_route}
use Rattle.sabr_frontier.specs.session.Session.{Seen, next_page, page_searches}
use Rattle.sabr_frontier.specs.tree.Searching.{GoOn, looks_since}

-- what callers see: the plan, the routes, whether one is left after them, the calls of the finder, by this session or
-- before, the looks that the page's searches took, and those that it took besides
pub record LastSeen : Type 0 where
  pub plan : TabledPlan
  pub routes : List RouteRecord
  pub more : Bool
  pub calls : Calls
  pub looks : ℕ
  pub detour_looks : ℕ

-- it has the next routes of a session, at most `count` of them, over the same plan. It took no more searches than their page, the
-- looks of these, and besides no more looks than one detour takes at most. If no search showed that a route is left after
-- the last one, and before that one no part carried another, a detour did: a look at least for each contact of the last one
pub record IsLastPage (s : Seen) (count : ℕ) (l : LastSeen) : Type 0 where
  pub plan : l.plan ≡ s.plan
  pub routes : l.routes ≡ map (record_of s.plan.plan s.request) (next_page s count).0
  pub more : l.more ≡ is_some (next_route s.plan.plan s.request (next_page s count).1)
  pub go_on : GoOn s.plan.plan s.calls l.calls
  pub at_most : l.calls.count ≤ s.calls.count + page_searches s count
  pub looks : l.looks ≡ looks_since s.calls l.calls
  pub detours : l.detour_looks ≤ detour_looks s.request.max_hops
  pub detour : IsTrue l.more → 0 < count → l.calls.count ≡ s.calls.count + page_searches s (count - 1) → HasLooks l.detour_looks s.plan.plan s.request (next_page s (count - 1)).1
