-- What is left once a route is given.
use Rattle.std.specs.Prelude.{◌≡◌, ℕ, ◌+◌, ◌≤◌, Bool, false, ◌||◌, List, [], ◌∷◌, ◌++◌, length, take, drop, Option, Some, is_some}
use Rattle.std.specs.List.{list_any}
use Rattle.sabr_model.specs.plan.Plan.{ContactPlan}
use Rattle.sabr_model.specs.routes.Arrival.{RouteRequest}
use Rattle.sabr_model.specs.routes.Record.{RouteRecord}
use Rattle.sabr_frontier.specs.declared.tree.NodeId.{NodeId}
use Rattle.sabr_frontier.specs.declared.tree.Node.{Node}
use Rattle.sabr_frontier.specs.listing.Listing.{next_route}
use Rattle.sabr_frontier.specs.listing.State.{Member, PartState, State}
use Rattle.sabr_frontier.specs.tree.Giving.{wide_of}

-- some node carries a route
abbrev pub some_carry : {A : Type 0} → List (Node A) → Bool
some_carry nodes = list_any (λ n. is_some n.route) nodes

-- some node but this one carries a route
abbrev pub others_carry : {A : Type 0} → List (Node A) → NodeId → Bool
others_carry nodes node = some_carry (take node.0 nodes) || some_carry (drop (node.0 + 1) nodes)

-- some beginning of q ++ rest from q on has a route once its next number is excluded
abbrev pub longer_go_on : (List ℕ → List ℕ → Option RouteRecord) → List ℕ → List ℕ → Bool
longer_go_on best q [] = false
longer_go_on best q (y ∷ ys) = is_some (best q (y ∷ [])) || longer_go_on best (q ++ y ∷ []) ys

-- the node's part has another route than s, or one of the parts has one that its longer beginnings make
abbrev pub part_goes_on : {A : Type 0} → (List ℕ → List ℕ → Option RouteRecord) → Node A → List ℕ → Bool
part_goes_on best n s = is_some (best (take n.length s) (wide_of n s)) || longer_go_on best (take (n.length + 1) s) (drop (n.length + 1) s)

-- no part of the state carries another route than this one
abbrev pub CarriesNoOther : State → List ℕ → Type 0
CarriesNoOther s x = (t : PartState) (y : List ℕ) → Member t s.parts → t.carried ≡ Some y → y ≡ x

-- there was a look at least for each contact of the next route, if no part of the state carries another one
abbrev pub HasLooks : ℕ → ContactPlan → RouteRequest → State → Type 0
HasLooks looks p r s = (x : List ℕ) → next_route p r s ≡ Some x → CarriesNoOther s x → length x ≤ looks
