-- What a searcher shows.
use Rattle.std.specs.Prelude.{◌≡◌, ℕ, ◌+◌, ◌-◌, ◌*◌, ◌≤◌, min, List, length, map, Option}
use Rattle.sabr_index.specs.Looks.{many_looks}
use Rattle.sabr_model.specs.plan.Plan.{ContactPlan, TabledPlan}
use Rattle.sabr_model.specs.plan.Table.{node_count}
use Rattle.sabr_model.specs.routes.Arrival.{RouteRequest}
use Rattle.sabr_model.specs.routes.Record.{RouteRecord, record_of}
use Rattle.sabr_frontier.specs.declared.giving.searcher.PausedSearcher.{PausedSearcher}
use Rattle.sabr_frontier.specs.declared.plan_request.PlanRequest.{PlanRequest}
use Rattle.sabr_search.specs.declared.bound.Bound.{Bound}
use Rattle.sabr_search.specs.questions.Calls.{Calls, no_calls}
use Rattle.sabr_frontier.specs.tree.Best.{best_up_to}
use Rattle.sabr_frontier.specs.listing.State.{State}
use Rattle.sabr_frontier.specs.listing.Listing.{steps}

-- a plan, a request for its routes, and the calls of the finder before those whose looks are summed
pub record Asked : Type 0 where
  pub plan : TabledPlan
  pub request : RouteRequest
  pub before : Calls

-- what callers see of a searcher: what it asks for, and the calls of its finder, by it or before
pub record Searching : Type 0 where
  pub asked : Asked
  pub calls : Calls

-- its sum begins with the next call
abbrev pub IsAtRest : Searching → Type 0
IsAtRest a = a.asked.before ≡ a.calls

-- such a one, after these calls
abbrev pub searching_first : TabledPlan → RouteRequest → Calls → Searching
searching_first p r calls = record { asked = record { plan = p; request = r; before = calls }; calls = calls }

abbrev pub asked_of : {A : Type 0} → PlanRequest A → Asked
asked_of q = (searching_first q.plan.now q.request no_calls).asked

-- the calls of which these are the last, without them
abbrev pub without : Calls → Calls → Calls
without calls summed = record { count = calls.count - summed.count; looks = calls.looks - summed.looks }

-- one over a plan that sums the looks of some calls, if its finder's calls are seen so
abbrev pub searching_over : {B A : Type 0} → (B → Calls) → TabledPlan → PausedSearcher B A → Calls → Searching
searching_over calls_of p a summed =
    record {
      asked = record { plan = p; request = a.request; before = without (calls_of a.finder) summed };
      calls = calls_of a.finder;
    }

-- the most looks that a call of a finder takes
abbrev pub call_looks : ContactPlan → ℕ
call_looks p = (3 * node_count p.contacts + 1) * length p.contacts

-- these are calls of a finder, of which these are the last, and a sum of the looks of those
pub record IsSumOf (p : ContactPlan) (calls summed : Calls) (n : ℕ) : Type 0 where
  pub count : summed.count ≤ calls.count
  pub looks : summed.looks ≤ calls.looks
  pub most : summed.looks ≤ summed.count * call_looks p
  pub sum : n ≡ min summed.looks many_looks

-- later calls of a finder: none is undone, and none of the new ones took more looks than a call may take
pub record GoOn (p : ContactPlan) (before after : Calls) : Type 0 where
  pub count : before.count ≤ after.count
  pub looks : before.looks ≤ after.looks
  pub most : after.looks ≤ before.looks + (after.count - before.count) * call_looks p

-- the looks of the new ones together, or the largest `u64` if they are more
abbrev pub looks_since : Calls → Calls → ℕ
looks_since before after = min (after.looks - before.looks) many_looks

-- at most k steps from a state
abbrev pub steps_for : Asked → ℕ → State → List (List ℕ) × State
steps_for a k s = steps a.plan.plan a.request k s

-- the records of routes
abbrev pub records_for : Asked → List (List ℕ) → List RouteRecord
records_for a routes = map (record_of a.plan.plan a.request) routes

-- the record of the best route of a part if it is up to the bound, where there is one
abbrev pub best_for : Asked → Option Bound → List ℕ → List ℕ → Option RouteRecord
best_for a = best_up_to a.plan.plan a.request
