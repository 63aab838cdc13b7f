-- The hops of a list of contacts, up to the first fault, and the nodes that they visit.
use Rattle.std.specs.Prelude.{ℕ, ◌≡◌, ◌+◌, ◌++◌, ◌≤◌, Bool, IfSome, List, [], ◌∷◌, drop, length, max, is_none, take, if◌then◌else◌}
use Rattle.std.specs.Option.{option_map_or}
use Rattle.std.specs.declared.option.Option.{Option}
use Rattle.std.specs.declared.option.Option.TheVariants.{Some}
use Rattle.sabr_model.specs.declared.contact.Contact.{Contact}
use Rattle.sabr_model.specs.declared.fault.HopFault.{HopFault}
use Rattle.sabr_model.specs.declared.following.FollowedPath.{FollowedPath}
use Rattle.sabr_model.specs.declared.route_summary.RouteSummary.{RouteSummary}
use Rattle.sabr_model.specs.plan.Plan.{ContactPlan, TabledPlan, contact_named}
use Rattle.sabr_model.specs.routes.Arrival.{RouteRequest}
use Rattle.sabr_model.specs.routes.Following.{IsFollowedPath}
use Rattle.sabr_model.specs.routes.Route.{delivery_of}
use Rattle.sabr_model.specs.routes.Fault.{fault_at, fault_of}
use Rattle.sabr_model.specs.routes.Telling.{summary_of}
use Rattle.sabr_session.specs.declared.hops.FollowedHop.{FollowedHop}

-- a hop: its contact, and when the bundle is sent and arrives, in seconds since 1970-01-01T00:00:00Z
pub record Hop : Type 0 where
  pub contact : Contact
  pub sent : ℕ
  pub arrival : ℕ

-- the hop over the contact of a number that follows the list `front`: it is sent on arrival there, or as soon as its
-- contact starts
abbrev pub hop_after : ContactPlan → RouteRequest → List ℕ → ℕ → Contact → Hop
hop_after p r front n c = record { contact = c; sent = max (delivery_of p r front) c.start; arrival = delivery_of p r (front ++ n ∷ []) }

-- what is told of the hop of a number that follows `front`
abbrev pub told_after : {X : Type 0} → (List ℕ → Hop → List X) → ContactPlan → RouteRequest → List ℕ → ℕ → List X
told_after tell p r front n = option_map_or (λ c. tell front (hop_after p r front n c)) (contact_named p n) []

-- what is told of the hops of the numbers after `front`, up to the first fault
abbrev pub told_of : {X : Type 0} → (List ℕ → Hop → List X) → ContactPlan → RouteRequest → List ℕ → List ℕ → List X
told_of tell p r front [] = []
told_of tell p r front (n ∷ s) =
    if is_none (fault_at p r front n) then told_after tell p r front n ++ told_of tell p r (front ++ n ∷ []) s else []

-- a hop and its place in the list, from 1
pub record PlacedHop : Type 0 where
  pub place : ℕ
  pub hop : Hop

-- the hop that follows `front`, with its place
abbrev pub placed_after : List ℕ → Hop → List PlacedHop
placed_after front h = record { place = length front + 1; hop = h } ∷ []

-- the same, as the code has it
abbrev pub seen_hop : FollowedHop → PlacedHop
seen_hop h = record { place = h.place; hop = record { contact = h.contact.now; sent = h.sent; arrival = h.arrived } }

-- a list of contacts over a plan, for a request
pub record ListQuestion : Type 0 where
  pub plan : TabledPlan
  pub request : RouteRequest
  pub contacts : List ℕ

-- such a list, how many of its contacts were followed, and whether no other has a hop before the first fault
pub record Followed : Type 0 where
  pub question : ListQuestion
  pub count : ℕ
  pub over : Bool

-- the contacts that were followed
abbrev pub followed_of : Followed → List ℕ
followed_of f = take f.count f.question.contacts

-- the hops that are left, up to the first fault
abbrev pub hops_left : Followed → List PlacedHop
hops_left f = told_of placed_after f.question.plan.plan f.question.request (followed_of f) (drop f.count f.question.contacts)

-- what is known of that many numbers that were followed: they are this path, with this summary, and a fault that was
-- found is that of the whole list, and of the number that comes next
pub record IsFollowed (p : TabledPlan) (r : RouteRequest) (s : List ℕ) (count : ℕ) (followed : FollowedPath) (summary : RouteSummary) (fault : Option HopFault) : Type 0 where
  pub within : count ≤ length s
  pub path : IsFollowedPath p r (take count s) followed
  pub summed : summary ≡ summary_of p.plan (take count s)
  pub stops : IfSome fault (λ f. told_of placed_after p.plan r (take count s) (drop count s) ≡ [])
  pub faulty : IfSome fault (λ f. fault_of p.plan r s ≡ Some f)
