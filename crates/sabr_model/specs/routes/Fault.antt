-- Why a list of numbers is no route: the fault of the first hop that has one. (The faults and their order are this
-- project's profile.)
use Rattle.std.specs.Prelude.{ℕ, ◌+◌, false, not, ◌==◌, nat_le, is_none, List, [], ◌∷◌, ◌++◌, length, if◌then◌else◌}
use Rattle.std.specs.Option.{option_map_or, option_and_then}
use Rattle.std.specs.declared.option.Option.{Option}
use Rattle.std.specs.declared.option.Option.TheVariants.{Some, None}
use Rattle.sabr_model.specs.declared.contact.Contact.{Contact}
use Rattle.sabr_model.specs.declared.fault.HopFault.{HopFault}
use Rattle.sabr_model.specs.declared.fault.HopFault.TheVariants.{Empty, NoSuchContact, NotChained, NodeAgain, NoLight, TooLate, WrongEnd, AvoidedNode, TooManyHops}
use Rattle.sabr_model.specs.plan.Plan.{ContactPlan, contact_named, has}
use Rattle.sabr_model.specs.plan.Light.{light_of}
use Rattle.sabr_model.specs.routes.Arrival.{RouteRequest, arrival, arrival_after}
use Rattle.sabr_model.specs.routes.Route.{receivers, chain_end, ends_at}

-- the first fault, in this order, of a contact that follows the list `front`, which has none; positions count from 1
abbrev pub contact_fault : ContactPlan → RouteRequest → List ℕ → Contact → Option HopFault
contact_fault p r front c =
    let place = length front + 1 in
    if not (option_map_or (λ a. a == c.from) (chain_end p r.source front) false) then Some (NotChained place)
    else if has c.to (r.source ∷ receivers p front) then Some (NodeAgain place)
    else if is_none (light_of p c) then Some (NoLight place)
    else if is_none (option_and_then (λ t. arrival p r t c) (arrival_after p r r.at front)) then Some (TooLate place)
    else if has c.to r.avoided then Some (AvoidedNode place)
    else if not (nat_le place r.max_hops) then Some (TooManyHops place)
    else None

-- the same, of the contact with a number
abbrev pub fault_at : ContactPlan → RouteRequest → List ℕ → ℕ → Option HopFault
fault_at p r front n = option_map_or (contact_fault p r front) (contact_named p n) (Some (NoSuchContact (length front + 1)))

-- the first of the two if there is one, else the second
abbrev pub fault_or : Option HopFault → Option HopFault → Option HopFault
fault_or (Some f) other = Some f
fault_or None other = other

-- the first fault of the numbers after `front`
abbrev pub first_fault : ContactPlan → RouteRequest → List ℕ → List ℕ → Option HopFault
first_fault p r front [] = None
first_fault p r front (n ∷ s) = fault_or (fault_at p r front n) (first_fault p r (front ++ n ∷ []) s)

-- the fault of a list: empty, the first fault of its numbers, or the wrong end; none for a route
abbrev pub fault_of : ContactPlan → RouteRequest → List ℕ → Option HopFault
fault_of p r [] = Some Empty
fault_of p r (n ∷ s) =
    fault_or (first_fault p r [] (n ∷ s)) (if ends_at p r (n ∷ s) then None else Some WrongEnd)
