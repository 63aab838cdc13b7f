-- What a listing loses with contacts of its plan, and by stricter limits.
use Rattle.std.specs.Prelude.{◌≡◌, ℕ, ◌≤◌, Bool, ◌&&◌, not, nat_le, IsTrue, List, length}
use Rattle.std.specs.List.{Contains, filter, list_all}
use Rattle.std.specs.declared.option.Option.TheVariants.{Some}
use Rattle.sabr_model.specs.declared.contact.Contact.{Contact}
use Rattle.sabr_model.specs.plan.Plan.{ContactPlan, IsPlan, has}
use Rattle.sabr_model.specs.plan.Adding.{number_of_opening, without_contact}
use Rattle.sabr_model.specs.routes.Arrival.{RouteRequest}
use Rattle.sabr_model.specs.routes.Asking.{with_limits}
use Rattle.sabr_model.specs.routes.Route.{contacts_of, receivers, delivery_of}
use Rattle.sabr_model.specs.routes.Listing.{routes}
use Rattle.sabr_model.specs.routes.Journeys.{FirstDeliversBy}

-- the listing of u over q is what a test leaves of that of r over p
pub record LeavesOf (p : ContactPlan) (r : RouteRequest) (q : ContactPlan) (u : RouteRequest) (stays : List ℕ → Bool) : Type 0 where
  -- the routes that pass, in the same order, and no others
  pub listing : routes q u ≡ filter stays (routes p r)
  -- each of them delivers as it did
  pub deliveries : (s : List ℕ) → Contains (routes q u) s → delivery_of q u s ≡ delivery_of p r s
  -- if a first route is left, the former first route delivered no later
  pub never_sooner : (d : ℕ) → FirstDeliversBy q u d → FirstDeliversBy p r d

-- the plan with those of its contacts alone that pass a test
abbrev pub with_only : (Contact → Bool) → ContactPlan → ContactPlan
with_only stays p = record { contacts = filter stays p.contacts; ranges = p.ranges; largest = p.largest }

-- with some of its contacts, the listing of a plan is the routes over these alone
abbrev pub FewerContactsTakeTheirRoutes : Type 0
FewerContactsTakeTheirRoutes =
    (p : ContactPlan) (r : RouteRequest) (stays : Contact → Bool) → IsPlan p
    → LeavesOf p r (with_only stays p) r (λ s. list_all stays (contacts_of p s))

-- without a contact, the listing is that of the plan without the routes that have its number
abbrev pub LostContactsTakeTheirRoutes : Type 0
LostContactsTakeTheirRoutes =
    (p : ContactPlan) (r : RouteRequest) (from to start n : ℕ) → IsPlan p → number_of_opening p from to start ≡ Some n
    → LeavesOf p r (without_contact p from to start) r (λ s. not (has n s))

-- whether a list has at most that many hops, and goes over no avoided node
abbrev pub keeps_limits : ContactPlan → ℕ → List ℕ → List ℕ → Bool
keeps_limits p max_hops avoided s = nat_le (length s) max_hops && list_all (λ v. not (has v avoided)) (receivers p s)

-- under limits that are no looser, the listing is the former without the routes that don't keep them
abbrev pub LimitsLeaveRoutesOut : Type 0
LimitsLeaveRoutesOut =
    (p : ContactPlan) (r : RouteRequest) (max_hops : ℕ) (avoided : List ℕ) → IsPlan p
    → max_hops ≤ r.max_hops → IsTrue (list_all (λ v. has v avoided) r.avoided)
    → LeavesOf p r p (with_limits r max_hops avoided) (keeps_limits p max_hops avoided)
