-- What stands behind an open handle.
use Rattle.std.specs.Prelude.{Option}
use Rattle.sabr_model.specs.plan.Plan.{TabledPlan}
use Rattle.sabr_frontier.specs.session.Session.{Seen}
use Rattle.sabr_frontier.specs.declared.session.paused.PausedSession.{PausedSession}
use Rattle.sabr_search.specs.questions.Calls.{no_calls}
use Rattle.sabr_frontier.specs.session.Paused.{seen_over}

-- a plan, and the listing over it if one is open
pub record OpenPlan : Type 0 where
  pub plan : TabledPlan
  pub listing : Option Seen

-- what callers see of a listing: searches, calls of the finder and looks aren't counted
abbrev pub listing_of : Seen → Seen
listing_of s = record s { searches = 0; calls = no_calls; looks = 0 }

-- the listing of a paused session over a plan
abbrev pub listing_over : {B A : Type 0} → TabledPlan → PausedSession B A → Seen
listing_over p s = listing_of (seen_over (λ _. no_calls) p s)
