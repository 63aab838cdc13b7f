-- The earliest arrival over a contact (CCSDS 734.3-B-1, earliest arrival time: the earliest transmission
-- time, plus the one-way light time, plus the one-way light time margin).
use Rattle.std.specs.Prelude.{ℕ, ◌+◌, ◌*◌, ◌/◌, max, nat_lt, List, [], ◌∷◌, if◌then◌else◌}
use Rattle.std.specs.Option.{option_map, option_and_then}
use Rattle.std.specs.declared.option.Option.{Option}
use Rattle.std.specs.declared.option.Option.TheVariants.{Some, None}
use Rattle.sabr_model.specs.declared.contact.Contact.{Contact}
use Rattle.sabr_model.specs.plan.Plan.{ContactPlan, contact_named}
use Rattle.sabr_model.specs.plan.Light.{light_of}

-- a request: routes from the source to the destination for a bundle that is at the source at `at`, with this margin in
-- parts per million, at most `max_hops` hops, and no receiver among the avoided nodes
pub record RouteRequest : Type 0 where
  pub source : ℕ
  pub destination : ℕ
  pub at : ℕ
  pub margin : ℕ
  pub max_hops : ℕ
  pub avoided : List ℕ

-- the light time and its margin, in parts per million of it, rounded up to whole seconds (the margin's form is this
-- project's profile)
abbrev pub cost : ℕ → ℕ → ℕ
cost margin l = l + (l * margin + 999999) / 1000000

-- a bundle that is at the sender at t is sent once the contact has begun, and before its end; none if that is too late
-- or there is no light time (CCSDS 734.3-B-1: earliest transmission time)
abbrev pub arrival : ContactPlan → RouteRequest → ℕ → Contact → Option ℕ
arrival p r t c = if nat_lt (max t c.start) c.end then option_map (λ l. max t c.start + cost r.margin l) (light_of p c) else None

-- the arrival over the contacts of these numbers, one after another, for a bundle that is ready at t
abbrev pub arrival_after : ContactPlan → RouteRequest → ℕ → List ℕ → Option ℕ
arrival_after p r t [] = Some t
arrival_after p r t (n ∷ s) = option_and_then (λ c. option_and_then (λ u. arrival_after p r u s) (arrival p r t c)) (contact_named p n)
