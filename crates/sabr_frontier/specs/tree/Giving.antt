-- What a tree is once its least carried route is given.
use Rattle.std.specs.Prelude.{◌≡◌, ℕ, ◌+◌, suc, Bool, List, [], ◌∷◌, ◌++◌, length, take, drop, Option, Some, slice_index, slice_get, if◌then◌else◌}
use Rattle.std.specs.Ordering.{nat_cmp}
use Rattle.sabr_model.specs.Order.{put_in}
use Rattle.sabr_model.specs.routes.Record.{RouteRecord}
use Rattle.sabr_frontier.specs.declared.tree.NodeId.{NodeId}
use Rattle.sabr_frontier.specs.declared.tree.Node.{Node}
use Rattle.sabr_frontier.specs.tree.Shape.{Shape}
pub use Rattle.sabr_frontier.specs.tree.Shape.{ids_from, stands_before}
use Rattle.sabr_frontier.specs.tree.Undo.{modify}

-- ---- places in lists

-- how many in front pass the test
abbrev pub passing : {X : Type 0} → (X → Bool) → List X → ℕ
passing test [] = 0
passing test (x ∷ xs) = if test x then suc (passing test xs) else 0

-- with a block at a place
abbrev pub with_block : {X : Type 0} → ℕ → List X → List X → List X
with_block place block xs = take place xs ++ block ++ drop place xs

-- ---- the division of a part

-- what holds of the node of this number, if it is there
abbrev pub OfNode : {A : Type 0} → List (Node A) → NodeId → (Node A → Type 0) → Type 0
OfNode {A} nodes id P = (n : Node A) → slice_get nodes id.0 ≡ Some n → P n

-- the nodes for the beginnings of q ++ rest from q on, each with its next number excluded, of this leaf
abbrev pub fresh_nodes : {A : Type 0} → (List ℕ → List ℕ → Option RouteRecord) → ℕ → List ℕ → List ℕ → List (Node A)
fresh_nodes best leaf q [] = []
fresh_nodes best leaf q (y ∷ ys) = record { leaf = leaf; length = length q; excluded = y ∷ []; route = best q (y ∷ []) } ∷ fresh_nodes best leaf (q ++ y ∷ []) ys

-- those for the beginnings of s that are longer than the node's prefix
abbrev pub fresh_after : {A : Type 0} → (List ℕ → List ℕ → Option RouteRecord) → ℕ → Node A → List ℕ → List (Node A)
fresh_after best leaf n s = fresh_nodes best leaf (take (n.length + 1) s) (drop (n.length + 1) s)

-- the node that carried the route, with one number more and what it carries then
abbrev pub widened : {A : Type 0} → List ℕ → Option RouteRecord → Node A → Node A
widened wide found n = record n { excluded = wide; route = found }

-- the tree once the node's route x is given, with this index and these nodes, of which those from `first` on are new
abbrev pub changed_by : {A : Type 0} → Shape A → NodeId → RouteRecord → ℕ → List NodeId → List (Node A) → Shape A
changed_by t node x first index nodes =
    record {
      nodes = nodes;
      index = index;
      leaves = t.leaves ++ x ∷ [];
      last = Some (length t.leaves);
      journal = t.journal ++ record { node = node; nodes = first; last = t.last } ∷ [];
      is_searched = t.is_searched;
    }

-- the numbers that the node excludes once s is given
abbrev pub wide_of : {A : Type 0} → Node A → List ℕ → List ℕ
wide_of n s = put_in nat_cmp (slice_index s n.length) n.excluded

-- that where n is the node, which carries this then: the new nodes stand together in the index
abbrev pub divided_into : {A : Type 0} → Shape A → NodeId → Node A → RouteRecord → Option RouteRecord → List (Node A) → Shape A
divided_into t node n x found new =
    let s = x.contacts in
    let place = passing (stands_before t.leaves t.nodes (take (n.length + 1) s)) t.index in
    let nodes = modify (widened (wide_of n s) found) t.nodes node.0 ++ new in
    changed_by t node x (length t.nodes) (with_block place (ids_from (length t.nodes) (length new)) t.index) nodes

-- that for what each search answers
abbrev pub divided_with : {A : Type 0} → (List ℕ → List ℕ → Option RouteRecord) → Shape A → NodeId → Node A → RouteRecord → Shape A
divided_with best t node n x =
    let s = x.contacts in
    divided_into t node n x (best (take n.length s) (wide_of n s)) (fresh_after best (length t.leaves) n s)
