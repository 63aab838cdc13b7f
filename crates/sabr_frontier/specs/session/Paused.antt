-- What a paused session shows, and what holds of it.
use Rattle.std.specs.Prelude.{Bool, List, is_some, reverse}
use Rattle.sabr_model.specs.plan.Plan.{TabledPlan}
use Rattle.sabr_search.specs.answers.SearchCache.{IsSearchCache}
use Rattle.sabr_search.specs.questions.Calls.{Calls}
use Rattle.sabr_frontier.specs.declared.session.paused.PausedSession.{PausedSession}
use Rattle.sabr_frontier.specs.listing.Listing.{next_route}
use Rattle.sabr_frontier.specs.listing.State.{State}
use Rattle.sabr_frontier.specs.session.Session.{IsSession, Seen, former_of, seen}
use Rattle.sabr_frontier.specs.tree.Searching.{searching_first}
use Rattle.sabr_frontier.specs.tree.Shape.{shape_of, shown}

-- what it shows over a plan, if its finder's calls are seen so
abbrev pub seen_over : {B A : Type 0} → (B → Calls) → TabledPlan → PausedSession B A → Seen
seen_over calls_of p s = seen (searching_first p s.searcher.request (calls_of s.searcher.finder)) s.tree s.pages.items s.searches s.looks

-- its state and those that can be gone back to, the latest first, which are the same over each plan
abbrev pub state_of : {B A : Type 0} → PausedSession B A → State
state_of s = shown (shape_of s.tree)

abbrev pub former_states : {B A : Type 0} → PausedSession B A → List State
former_states s = former_of (reverse s.pages.items) (shape_of s.tree)

-- whether routes of a plan are left
abbrev pub has_more_over : {B A : Type 0} → TabledPlan → PausedSession B A → Bool
has_more_over p s = is_some (next_route p.plan s.searcher.request (state_of s))

-- what holds of one that was paused over a plan
pub record IsPausedOver {B A : Type 0} (p : TabledPlan) (s : PausedSession B A) : Type 0 where
  pub session : IsSession p s.searcher.request s.tree s.pages.items
  pub cache : IsSearchCache p s.searcher.request s.searcher.cache
