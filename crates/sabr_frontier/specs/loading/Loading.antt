-- Loading a state part by part: what a loader holds, and what it refuses.
use Rattle.std.specs.Prelude.{◌≡◌, ℕ, Bool, true, false, not, ◌&&◌, ◌⊎◌, List, [], ◌∷◌, ◌++◌, map, length, Option, if◌then◌else◌}
use Rattle.std.specs.Option.{option_map_or}
use Rattle.std.specs.declared.option.Option.TheVariants.{Some, None}
use Rattle.sabr_model.specs.Order.{by_numbers, numbers_before}
use Rattle.sabr_model.specs.plan.Plan.{ContactPlan, TabledPlan, rises_above}
use Rattle.sabr_model.specs.routes.Arrival.{RouteRequest}
use Rattle.sabr_model.specs.routes.Route.{is_path, is_prefix, is_route}
use Rattle.sabr_model.specs.routes.Parts.{in_part}
use Rattle.sabr_search.specs.questions.Calls.{Calls}
use Rattle.sabr_frontier.specs.declared.loader.load_fault.LoadFault.{LoadFault}
use Rattle.sabr_frontier.specs.declared.loader.load_fault.LoadFault.TheVariants.{BadOrder, BadRoute, NotClosed, BadCount, NoMemory}
use Rattle.sabr_frontier.specs.listing.Rising.{has}
use Rattle.sabr_frontier.specs.listing.State.{PartState, State, pair_of}
use Rattle.sabr_frontier.specs.listing.Formed.{IsClosed}
use Rattle.sabr_frontier.specs.listing.Listing.{IsState, leaves_in}
use Rattle.sabr_frontier.specs.session.Session.{Seen, session_over}
use Rattle.sabr_frontier.specs.tree.Undo.{last_item}

-- what callers see of a loader: the plan, the request, the parts so far, and the finder's calls
pub record Loaded : Type 0 where
  pub plan : TabledPlan
  pub request : RouteRequest
  pub parts : List PartState
  pub calls : Calls

-- ---- a part more

-- each number is greater than the one before it
abbrev pub rise_strictly : List ℕ → Bool
rise_strictly [] = true
rise_strictly (x ∷ xs) = rises_above x xs

-- the prefix comes after that of the last part
abbrev pub comes_after : List PartState → List ℕ → Bool
comes_after parts q = option_map_or (λ t. numbers_before t.prefix q) (last_item parts) true

-- what the part carries, if anything, is a route of the part
abbrev pub may_carry : ContactPlan → RouteRequest → PartState → Bool
may_carry p r t = option_map_or (in_part p r t.prefix t.excluded) t.carried true

-- the reason why a loader refuses a part, the first that holds
abbrev pub refusal_by : Loaded → PartState → Option LoadFault
refusal_by l t =
    if not (rise_strictly t.excluded && comes_after l.parts t.prefix) then Some BadOrder
    else if not (may_carry l.plan.plan l.request t) then Some BadRoute
    else None

-- the loader with the part after the others
abbrev pub with_part : Loaded → PartState → Loaded
with_part l t = record l { parts = l.parts ++ t ∷ [] }

-- ---- the end

-- the state of these parts
abbrev pub state_with : List PartState → ℕ → List ℕ → State
state_with parts emitted last = record { emitted = emitted; last = last; parts = parts }

-- what callers see of the session over a loader's parts, after that many routes and this last one
abbrev pub session_with : Loaded → ℕ → List ℕ → Seen
session_with l emitted last = session_over l.plan l.request (state_with l.parts emitted last) l.calls

-- its pairs are closed
abbrev pub IsClosedState : ContactPlan → RouteRequest → State → Type 0
IsClosedState p r s = IsClosed (is_route p r) (is_path p r) (is_prefix p r) (map pair_of s.parts)

-- it counts its leaves, and its last is one of them, or empty if there is none
pub record IsCounted (p : ContactPlan) (r : RouteRequest) (s : State) : Type 0 where
  pub count : s.emitted ≡ length (leaves_in p r s)
  pub right : ((s.last ≡ []) × (leaves_in p r s ≡ [])) ⊎ (has by_numbers s.last (leaves_in p r s) ≡ true)

-- what holds of a state that is refused. NotClosed: it isn't closed. BadCount: it is closed, but the count or the last
-- is wrong. NoMemory: it is well formed. There is no other fault.
abbrev pub IsRefusedBy : ContactPlan → RouteRequest → State → LoadFault → Type 0
IsRefusedBy p r s BadOrder = ⊥
IsRefusedBy p r s BadRoute = ⊥
IsRefusedBy p r s NotClosed = IsClosedState p r s → ⊥
IsRefusedBy p r s BadCount = IsClosedState p r s × (IsCounted p r s → ⊥)
IsRefusedBy p r s NoMemory = IsState p r s

-- how a carried route is refused: BadRoute if the part may not carry it, NoMemory if it may
abbrev pub IsCarryFault : Bool → LoadFault → Type 0
IsCarryFault may BadOrder = ⊥
IsCarryFault may BadRoute = may ≡ false
IsCarryFault may NotClosed = ⊥
IsCarryFault may BadCount = ⊥
IsCarryFault may NoMemory = may ≡ true
