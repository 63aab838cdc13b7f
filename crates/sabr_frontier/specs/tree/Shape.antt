-- What a tree is made of, and the state that it stands for.
use Rattle.std.specs.Prelude.{ℕ, zero, suc, Bool, List, [], ◌∷◌, map, length, take, Option, Some, None, slice_get, ◌≡◌, true}
use Rattle.std.specs.Option.{option_map}
use Rattle.std.specs.Ordering.{is_lt}
use Rattle.std.specs.declared.cmp.Ordering.{Ordering}
use Rattle.std.specs.declared.cmp.Ordering.TheVariants.{Less}
use Rattle.sabr_model.specs.Order.{by_numbers, in_order}
use Rattle.sabr_model.specs.routes.Record.{RouteRecord}
use Rattle.sabr_frontier.specs.declared.tree.NodeId.{NodeId}
use Rattle.sabr_frontier.specs.declared.tree.Node.{Node}
use Rattle.sabr_frontier.specs.declared.tree.Entry.{Entry}
use Rattle.sabr_frontier.specs.declared.tree.Tree.{Tree}
use Rattle.sabr_frontier.specs.listing.State.{PartState, State}
pub use Rattle.sabr_frontier.specs.tree.Winners.{route_of, route_at}

-- a tree without its capacities
pub record Shape (A : Type 0) : Type 0 where
  pub nodes : List (Node A)
  pub index : List NodeId
  pub leaves : List RouteRecord
  pub last : Option ℕ
  pub journal : List Entry
  pub is_searched : Bool

-- the first n numbers of a route
abbrev pub front_of : Option RouteRecord → ℕ → List ℕ
front_of (Some r) n = take n r.contacts
front_of None n = []

-- a route's numbers, and the empty list where there is none
abbrev pub contacts_in : Option RouteRecord → List ℕ
contacts_in (Some r) = r.contacts
contacts_in None = []

-- a node's prefix: a front of a route that was given
abbrev pub prefix_of : {A : Type 0} → List RouteRecord → Node A → List ℕ
prefix_of leaves n = front_of (slice_get leaves n.leaf) n.length

-- the numbers of a route
abbrev pub numbers_of : RouteRecord → List ℕ
numbers_of r = r.contacts

-- the part that a node stands for
abbrev pub part_of : {A : Type 0} → List RouteRecord → Option (Node A) → PartState
part_of leaves (Some n) = record { prefix = prefix_of leaves n; excluded = n.excluded; carried = option_map numbers_of n.route }
part_of leaves None = record { prefix = []; excluded = []; carried = None }

abbrev pub part_at : {A : Type 0} → List RouteRecord → List (Node A) → NodeId → PartState
part_at leaves nodes id = part_of leaves (slice_get nodes id.0)

-- count nodes, from first on
abbrev pub ids_from : ℕ → ℕ → List NodeId
ids_from first zero = []
ids_from first (suc n) = record { 0 = first } ∷ ids_from (suc first) n

-- the node's prefix is below the list
abbrev pub stands_before : {A : Type 0} → List RouteRecord → List (Node A) → List ℕ → NodeId → Bool
stands_before leaves nodes q id = is_lt (by_numbers (part_at leaves nodes id).prefix q)

-- the order of two nodes' prefixes
abbrev pub by_prefix : {A : Type 0} → List RouteRecord → List (Node A) → NodeId → NodeId → Ordering
by_prefix leaves nodes a b = by_numbers (part_at leaves nodes a).prefix (part_at leaves nodes b).prefix

-- a's prefix is below that of b
abbrev pub IsBefore : {A : Type 0} → List RouteRecord → List (Node A) → NodeId → NodeId → Type 0
IsBefore leaves nodes a b = by_prefix leaves nodes a b ≡ Less

-- all nodes in order of prefix
unfoldable pub order_of : {A : Type 0} → List RouteRecord → List (Node A) → List NodeId
order_of leaves nodes = in_order (by_prefix leaves nodes) (ids_from 0 (length nodes))

-- its index is that of all nodes, at each time
abbrev pub shape_of : {A : Type 0} → Tree A → Shape A
shape_of t = record { nodes = t.nodes.items; index = order_of t.leaves.items t.nodes.items; leaves = t.leaves.items; last = t.last; journal = t.journal.items; is_searched = t.is_searched }

-- the tree before any route is given: one node with the empty prefix, with nothing excluded, and the best route of all
abbrev pub root : {A : Type 0} → Option RouteRecord → Shape A
root found = record {
  nodes = record { leaf = 0; length = 0; excluded = []; route = found } ∷ [];
  index = record { 0 = 0 } ∷ [];
  leaves = [];
  last = None;
  journal = [];
  is_searched = true;
}

-- the route of the leaf with this number
abbrev pub given_at : List RouteRecord → Option ℕ → List ℕ
given_at leaves None = []
given_at leaves (Some n) = contacts_in (slice_get leaves n)

-- the state that a tree stands for
abbrev pub shown : {A : Type 0} → Shape A → State
shown t = record { emitted = length t.leaves; last = given_at t.leaves t.last; parts = map (part_at t.leaves t.nodes) t.index }
