-- What a plan's canonical text tells.
use Rattle.std.specs.Prelude.{◌≡◌, List, ℕ}
use Rattle.sabr_model.specs.plan.Plan.{ContactPlan, IsPlan}
use Rattle.sabr_model.specs.routes.Arrival.{RouteRequest}
use Rattle.sabr_model.specs.routes.Listing.{routes}
use Rattle.sabr_model.specs.routes.Record.{record_of}
use Rattle.sabr_plan.specs.Canonical.{canonical_text}

-- both have the same contacts, with their numbers, and the same ranges, and so the same listings, and the same record
-- of each list of contacts; only the largest number ever given may differ, which is in none of these
pub record RouteAlike (p q : ContactPlan) : Type 0 where
  pub contacts : p.contacts ≡ q.contacts
  pub ranges : p.ranges ≡ q.ranges
  pub listings : (r : RouteRequest) → routes p r ≡ routes q r
  pub records : (r : RouteRequest) (s : List ℕ) → record_of p r s ≡ record_of q r s

-- two plans with one canonical text
abbrev pub CanonicalTextsTellPlans : Type 0
CanonicalTextsTellPlans = (p q : ContactPlan) → IsPlan p → IsPlan q → canonical_text p ≡ canonical_text q → RouteAlike p q
