-- What C gets of a list of contacts that is followed.
use Rattle.std.specs.Prelude.{◌≡◌, ℕ, List, [], ◌∷◌, length, nat_lt, Bool, Result, Ok, Err, if◌then◌else◌}
use Rattle.std.specs.Option.{option_map_or}
use Rattle.sabr_model.specs.declared.fault.HopFault.{HopFault}
use Rattle.sabr_model.specs.declared.fault.HopFault.TheVariants.{Empty, NoSuchContact, NotChained, NodeAgain, NoLight, TooLate, WrongEnd, AvoidedNode, TooManyHops}
use Rattle.sabr_model.specs.declared.fault.RequestError.{RequestError}
use Rattle.sabr_model.specs.plan.Plan.{ContactPlan}
use Rattle.sabr_model.specs.routes.Arrival.{RouteRequest}
use Rattle.sabr_model.specs.routes.Fault.{fault_of}
use Rattle.sabr_model.specs.routes.Record.{RouteRecord, record_of}
use Rattle.sabr_model.specs.routes.Route.{is_route}
use Rattle.sabr_session.specs.Hops.{Hop, told_of}
use Rattle.host.specs.Buffers.{put_over}
use Rattle.libcgrlist.specs.Status.{done, no, no_room, request_status}
use Rattle.libcgrlist.specs.declared.follow.Outcome.{Outcome}
use Rattle.libcgrlist.specs.declared.follow.HopRow.{HopRow}

-- a fault and its place
abbrev pub fault_outcome : ℕ → ℕ → Outcome
fault_outcome fault place = record { delivery = 0; until = 0; entry = 0; place = place; fault = fault }

-- faults as `cgrlist.h` numbers them, each with its place
abbrev pub outcome_of_fault : HopFault → Outcome
outcome_of_fault Empty = fault_outcome 1 0
outcome_of_fault (NoSuchContact place) = fault_outcome 2 place
outcome_of_fault (NotChained place) = fault_outcome 3 place
outcome_of_fault (NodeAgain place) = fault_outcome 4 place
outcome_of_fault (NoLight place) = fault_outcome 5 place
outcome_of_fault (TooLate place) = fault_outcome 6 place
outcome_of_fault WrongEnd = fault_outcome 7 0
outcome_of_fault (AvoidedNode place) = fault_outcome 8 place
outcome_of_fault (TooManyHops place) = fault_outcome 9 place

-- the record of a route
abbrev pub outcome_of_route : RouteRecord → Outcome
outcome_of_route a = record { delivery = a.delivery; until = a.until; entry = a.entry; place = 0; fault = 0 }

-- what a list of contacts does
abbrev pub outcome_of : ContactPlan → RouteRequest → List ℕ → Outcome
outcome_of p r s = option_map_or outcome_of_fault (fault_of p r s) (outcome_of_route (record_of p r s))

-- whether the contacts make a route
abbrev pub route_status : Bool → ℕ
route_status is = if is then done else no

-- the request is refused and nothing is given, or what the contacts do is given
abbrev pub Follows : ContactPlan → Result RouteRequest RequestError → List ℕ → ℕ → Outcome → Outcome → Type 0
Follows p (Err e) s status old new = (status ≡ request_status e) × (new ≡ old)
Follows p (Ok r) s status old new = (status ≡ route_status (is_route p r s)) × (new ≡ outcome_of p r s)

-- a hop as C gets it
abbrev pub hop_row : Hop → HopRow
hop_row h = record { from = h.contact.from; to = h.contact.to; sent = h.sent; arrival = h.arrival; contact = h.contact.number }

-- the row of a hop, after any other
abbrev pub row_alone : List ℕ → Hop → List HopRow
row_alone front h = hop_row h ∷ []

-- the hops before the first fault
abbrev pub hops_of : ContactPlan → RouteRequest → List ℕ → List HopRow
hops_of p r s = told_of row_alone p r [] s

-- the request is refused and nothing is given, or as many hops as there is room for are, and their number
abbrev pub GivesHops : ContactPlan → Result RouteRequest RequestError → List ℕ → ℕ → List HopRow → List HopRow → ℕ → Type 0
GivesHops p (Err e) s status old new count = (status ≡ request_status e) × (new ≡ old) × (count ≡ 0)
GivesHops p (Ok r) s status old new count =
    (status ≡ (if nat_lt (length old) (length (hops_of p r s)) then no_room else route_status (is_route p r s))) × (new ≡ put_over old (hops_of p r s)) × (count ≡ length (hops_of p r s))
