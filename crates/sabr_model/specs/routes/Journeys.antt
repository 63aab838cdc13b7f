-- Journeys of bundles, which wait at each node for as long as it likes.
use Rattle.std.specs.Prelude.{◌≡◌, ℕ, ◌+◌, ◌≤◌, ◌<◌, not, IsTrue, List, [], ◌∷◌, length, slice_get}
use Rattle.std.specs.List.{list_all}
use Rattle.std.specs.declared.option.Option.TheVariants.{Some}
use Rattle.sabr_model.specs.declared.contact.Contact.{Contact}
use Rattle.sabr_model.specs.plan.Plan.{ContactPlan, contact_named, has, are_different}
use Rattle.sabr_model.specs.plan.Light.{light_of}
use Rattle.sabr_model.specs.routes.Arrival.{RouteRequest, cost}
use Rattle.sabr_model.specs.routes.Route.{chain_end, receivers, delivery_of}
use Rattle.sabr_model.specs.routes.Listing.{routes}

-- A bundle that is ready at t can be at the end of these contacts at d. Over each in turn it is sent at some second, once it
-- is there and while the contact is open, and arrives the cost later.
abbrev pub CanArrive : ContactPlan → RouteRequest → ℕ → List ℕ → ℕ → Type 0
CanArrive p r t [] d = t ≡ d
CanArrive p r t (n ∷ s) d =
    (c : Contact) × (l : ℕ) × (sent : ℕ) × (contact_named p n ≡ Some c) × (light_of p c ≡ Some l)
    × (t ≤ sent) × (c.start ≤ sent) × (sent < c.end) × CanArrive p r (sent + cost r.margin l) s d

-- a journey over these contacts, from the source to the destination, that ends at d: within the limit on hops and over no
-- avoided node; it may come to a node more than once
pub record IsJourney (p : ContactPlan) (r : RouteRequest) (s : List ℕ) (d : ℕ) : Type 0 where
  pub reaches : chain_end p r.source s ≡ Some r.destination
  pub allowed : IsTrue (list_all (λ n. not (has n r.avoided)) (receivers p s))
  pub within : length s ≤ r.max_hops
  pub arrives : CanArrive p r r.at s d

-- it comes to no node twice
abbrev pub MeetsNoneTwice : ContactPlan → RouteRequest → List ℕ → Type 0
MeetsNoneTwice p r s = IsTrue (are_different (r.source ∷ receivers p s))

-- the list has a first route, which delivers by d
abbrev pub FirstDeliversBy : ContactPlan → RouteRequest → ℕ → Type 0
FirstDeliversBy p r d = (s : List ℕ) × (slice_get (routes p r) 0 ≡ Some s) × (delivery_of p r s ≤ d)

-- the same request for a bundle that is at the source at t
abbrev pub asked_at : RouteRequest → ℕ → RouteRequest
asked_at r t = record r { at = t }
