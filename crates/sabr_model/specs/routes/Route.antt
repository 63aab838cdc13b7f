-- Routes (CCSDS 734.3-B-1: a route is a sequence of contacts; the first is sent by the local node, the last
-- is received by the destination, and each contact's receiver is the next one's sender).
use Rattle.std.specs.Prelude.{◌≡◌, ℕ, ◌<◌, ◌≤◌, min, nat_lt, nat_le, ◌==◌, Bool, false, ◌&&◌, not, is_some, IsTrue, List, [], ◌∷◌, length, map, unwrap_or, if◌then◌else◌}
use Rattle.std.specs.List.{list_all, filter_map, fold}
use Rattle.std.specs.Option.{option_map_or, option_and_then}
use Rattle.std.specs.Ordering.{is_lt}
use Rattle.sabr_model.specs.Order.{by_numbers}
use Rattle.std.specs.declared.cmp.Ordering.{Ordering}
use Rattle.std.specs.declared.option.Option.{Option}
use Rattle.std.specs.declared.option.Option.TheVariants.{Some, None}
use Rattle.sabr_model.specs.declared.contact.Contact.{Contact}
use Rattle.sabr_model.specs.plan.Plan.{ContactPlan, last_time, contact_named, has, are_different}
use Rattle.sabr_model.specs.routes.Arrival.{RouteRequest, arrival_after}

-- the contacts of these numbers
abbrev pub contacts_of : ContactPlan → List ℕ → List Contact
contacts_of p s = filter_map (contact_named p) s

-- the nodes that receive these contacts
abbrev pub receivers : ContactPlan → List ℕ → List ℕ
receivers p s = map (λ c. c.to) (contacts_of p s)

-- where a chain of contacts that begins at a node ends: each number names a standing contact, and each sender is the
-- receiver before it
abbrev pub chain_end : ContactPlan → ℕ → List ℕ → Option ℕ
chain_end p a [] = Some a
chain_end p a (n ∷ s) = option_and_then (λ c. if c.from == a then chain_end p c.to s else None) (contact_named p n)

-- a chain from the source that can be followed in time, meets no node twice and no avoided node, and is within the
-- limit on hops: what routes begin with (no node twice, and the limits, are this project's profile)
unfoldable pub is_path : ContactPlan → RouteRequest → List ℕ → Bool
is_path p r s =
    is_some (chain_end p r.source s) && are_different (r.source ∷ receivers p s) && is_some (arrival_after p r r.at s)
    && list_all (λ n. not (has n r.avoided)) (receivers p s) && nat_le (length s) r.max_hops

-- the same, as facts
pub record IsPath (p : ContactPlan) (r : RouteRequest) (s : List ℕ) : Type 0 where
  pub chained : IsTrue (is_some (chain_end p r.source s))
  pub different : IsTrue (are_different (r.source ∷ receivers p s))
  pub in_time : IsTrue (is_some (arrival_after p r r.at s))
  pub allowed : IsTrue (list_all (λ n. not (has n r.avoided)) (receivers p s))
  pub within : length s ≤ r.max_hops

-- the beginning of a route that doesn't reach the destination, so that routes may begin with it and continue
unfoldable pub is_prefix : ContactPlan → RouteRequest → List ℕ → Bool
is_prefix p r s = is_path p r s && not (has r.destination (receivers p s))

-- whether it ends at the destination
abbrev pub ends_at : ContactPlan → RouteRequest → List ℕ → Bool
ends_at p r s = option_map_or (λ b. b == r.destination) (chain_end p r.source s) false

-- a route: a chain of at least one contact from the source to the destination, within time and limits
unfoldable pub is_route : ContactPlan → RouteRequest → List ℕ → Bool
is_route p r s = nat_lt 0 (length s) && ends_at p r s && is_path p r s

-- the same, as facts
pub record IsRoute (p : ContactPlan) (r : RouteRequest) (s : List ℕ) : Type 0 where
  pub some_hop : 0 < length s
  pub reaches : chain_end p r.source s ≡ Some r.destination
  pub different : IsTrue (are_different (r.source ∷ receivers p s))
  pub in_time : IsTrue (is_some (arrival_after p r r.at s))
  pub allowed : IsTrue (list_all (λ n. not (has n r.avoided)) (receivers p s))
  pub within : length s ≤ r.max_hops

-- the best-case delivery time (CCSDS 734.3-B-1: the earliest arrival time at the receiver of the last contact)
abbrev pub delivery_of : ContactPlan → RouteRequest → List ℕ → ℕ
delivery_of p r s = unwrap_or (arrival_after p r r.at s) 0

-- the key: delivery, number of hops, and the numbers from the front (this project's profile)
abbrev pub key_of : ContactPlan → RouteRequest → List ℕ → List ℕ
key_of p r s = delivery_of p r s ∷ length s ∷ s

-- routes by their keys; less is better
abbrev pub by_key : ContactPlan → RouteRequest → List ℕ → List ℕ → Ordering
by_key p r s t = by_numbers (key_of p r s) (key_of p r t)

-- whether the first is better
abbrev pub before : ContactPlan → RouteRequest → List ℕ → List ℕ → Bool
before p r s t = is_lt (by_key p r s t)

-- the termination time (CCSDS 734.3-B-1: the earliest end of the route's contacts)
abbrev pub until_of : ContactPlan → List ℕ → ℕ
until_of p s = fold (λ m c. min m c.end) last_time (contacts_of p s)

-- the entry node (CCSDS 734.3-B-1: the receiver of the route's first contact)
abbrev pub entry_of : ContactPlan → List ℕ → ℕ
entry_of p [] = 0
entry_of p (n ∷ s) = option_map_or (λ c. c.to) (contact_named p n) 0
