-- Room in the vectors of a tree, what the undo of a route leaves, and when it can be undone.
use Rattle.std.specs.Prelude.{◌≡◌, ℕ, ◌-◌, ◌+◌, ◌<◌, ◌≤◌, zero, suc, not, nat_lt, nat_eq, List, [], ◌∷◌, length, take, Option, Some, None, slice_index, slice_index_or, slice_get, vec_len, vec_capacity}
use Rattle.std.specs.List.{filter}
use Rattle.sabr_model.specs.routes.Record.{RouteRecord}
use Rattle.sabr_frontier.specs.declared.tree.NodeId.{NodeId}
use Rattle.sabr_frontier.specs.declared.tree.Node.{Node}
use Rattle.sabr_frontier.specs.declared.tree.Entry.{Entry}
use Rattle.sabr_frontier.specs.declared.tree.Tree.{Tree}
use Rattle.sabr_frontier.specs.tree.Shape.{Shape, order_of}
use Rattle.sabr_frontier.specs.tree.Winners.{AreWinners}

-- the index and the winners have places for every node, and so has the room for those that the index lacks
pub record IsSpacious {A : Type 0} (t : Tree A) : Type 0 where
  pub index : length t.nodes.items ≤ vec_capacity t.index
  pub added : length t.nodes.items ≤ vec_len t.index + vec_capacity t.unindexed
  pub places : length t.nodes.items ≤ vec_capacity t.winners

-- the same, and the winners are those of all nodes
pub record IsRoomy {A : Type 0} (t : Tree A) : Type 0 where
  pub space : IsSpacious t
  pub won : AreWinners t.nodes.items t.winners.items
  pub count : vec_len t.winners ≡ length t.nodes.items

-- there is room for one route given and m new nodes, so that the change doesn't allocate
pub record HasRoom {A : Type 0} (t : Tree A) (m : ℕ) : Type 0 where
  pub nodes : vec_len t.nodes + m ≤ vec_capacity t.nodes
  pub index : vec_len t.nodes + m ≤ vec_capacity t.index
  pub added : vec_len t.nodes + m ≤ vec_len t.index + vec_capacity t.unindexed
  pub winners : vec_len t.nodes + m ≤ vec_capacity t.winners
  pub leaves : vec_len t.leaves < vec_capacity t.leaves
  pub journal : vec_len t.journal < vec_capacity t.journal

-- f at one place
abbrev pub modify : {X : Type 0} → (X → X) → List X → ℕ → List X
modify f [] i = []
modify f (x ∷ xs) zero = f x ∷ xs
modify f (x ∷ xs) (suc i) = x ∷ modify f xs i

-- the last of these
abbrev pub last_item : {X : Type 0} → List X → Option X
last_item xs = slice_get xs (length xs - 1)

-- all but the last
abbrev pub front : {X : Type 0} → List X → List X
front xs = take (length xs - 1) xs

-- the node without the number after its prefix in s among those that it excludes
abbrev pub including : {A : Type 0} → List ℕ → Node A → Node A
including s n = record n { excluded = filter (λ y. not (nat_eq y (slice_index s n.length))) n.excluded }

-- the node with the route again
abbrev pub given_back : {A : Type 0} → RouteRecord → Node A → Node A
given_back r n = record (including r.contacts n) { route = Some r }

abbrev pub undone_by : {A : Type 0} → Shape A → Option Entry → Option RouteRecord → Shape A
undone_by t (Some e) (Some r) = record {
  nodes = modify (given_back r) (take e.nodes t.nodes) e.node.0;
  index = filter (λ id. nat_lt id.0 e.nodes) t.index;
  leaves = front t.leaves;
  last = e.last;
  journal = front t.journal;
  is_searched = t.is_searched;
}
undone_by t None r = t
undone_by t (Some e) None = t

-- the tree before the last route was given
abbrev pub undone : {A : Type 0} → Shape A → Shape A
undone t = undone_by t (last_item t.journal) (last_item t.leaves)

abbrev pub undone_times : {A : Type 0} → ℕ → Shape A → Shape A
undone_times zero t = t
undone_times (suc n) t = undone_times n (undone t)

-- the route goes on after the prefix of the node at this place
abbrev pub IsLonger : {A : Type 0} → List (Node A) → ℕ → RouteRecord → Type 0
IsLonger {A} nodes i r = (n : Node A) → (slice_index_or nodes i n).length < length r.contacts

-- the index is that of all nodes
abbrev pub IsIndexed : {A : Type 0} → Shape A → Type 0
IsIndexed t = t.index ≡ order_of t.leaves t.nodes

-- the tree's index is what these ids leave of its nodes, and none of them is left out
pub record IsIndexBack {A : Type 0} (t : Shape A) (ids : List NodeId) : Type 0 where
  pub index : t.index ≡ filter (λ (id : NodeId). nat_lt id.0 (length t.nodes)) ids
  pub whole : length t.nodes ≤ length t.index

-- what the undo reads is there, and the index then is that of all nodes
pub record CanUndo {A : Type 0} (t : Shape A) : Type 0 where
  pub entry : Entry
  pub route : RouteRecord
  pub entry_is : last_item t.journal ≡ Some entry
  pub route_is : last_item t.leaves ≡ Some route
  pub in_range : entry.node.0 < entry.nodes
  pub counted : entry.nodes ≤ length t.nodes
  pub longer : IsLonger (take entry.nodes t.nodes) entry.node.0 route
  pub indexed : IsIndexed (undone t)

abbrev pub CanUndoTimes : {A : Type 0} → ℕ → Shape A → Type 0
CanUndoTimes zero t = Unit {0}
CanUndoTimes (suc n) t = CanUndo t × CanUndoTimes n (undone t)
