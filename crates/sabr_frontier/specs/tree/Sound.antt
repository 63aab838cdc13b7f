-- When a tree stands for a well-formed state.
use Rattle.std.specs.Prelude.{◌≡◌, ℕ, ◌<◌, ◌≤◌, false, ◌⊎◌, List, length, Some, slice_get, slice_index, IsTrue}
use Rattle.std.specs.Ordering.{nat_cmp}
use Rattle.sabr_model.specs.plan.Plan.{ContactPlan}
use Rattle.sabr_model.specs.routes.Arrival.{RouteRequest}
use Rattle.sabr_model.specs.routes.Record.{RouteRecord, record_of}
use Rattle.sabr_frontier.specs.declared.tree.NodeId.{NodeId}
use Rattle.sabr_frontier.specs.declared.tree.Node.{Node}
use Rattle.sabr_frontier.specs.listing.Rising.{has, Rises}
use Rattle.sabr_frontier.specs.listing.State.{Member}
use Rattle.sabr_frontier.specs.listing.Listing.{IsState, leaves_in}
use Rattle.sabr_frontier.specs.tree.Shape.{Shape, shown, prefix_of}
use Rattle.sabr_frontier.specs.tree.Best.{best_of}

-- the node's prefix is empty, or a front of a leaf that is there and long enough
abbrev pub IsLent : {A : Type 0} → List RouteRecord → Node A → Type 0
IsLent leaves n = (n.length ≡ 0) ⊎ ((x : RouteRecord) × (slice_get leaves n.leaf ≡ Some x) × (n.length ≤ length x.contacts))

-- the leaves are the records of the routes that the state counts as given
pub record AreGiven {A : Type 0} (p : ContactPlan) (r : RouteRequest) (t : Shape A) : Type 0 where
  pub counted : (x : RouteRecord) → Member x t.leaves → (x ≡ record_of p r x.contacts) × Member x.contacts (leaves_in p r (shown t))
  pub recorded : (s : List ℕ) → Member s (leaves_in p r (shown t)) → Member (record_of p r s) t.leaves

-- each route that a node carries is the least of its part
abbrev pub CarriesOnlyLeast : {A : Type 0} → ContactPlan → RouteRequest → Shape A → Type 0
CarriesOnlyLeast {A} p r t = (n : Node A) (x : RouteRecord) → Member n t.nodes → n.route ≡ Some x → best_of p r (prefix_of t.leaves n) n.excluded ≡ Some x

pub record IsTree {A : Type 0} (p : ContactPlan) (r : RouteRequest) (t : Shape A) : Type 0 where
  pub formed : IsState p r (shown t)
  pub known : (id : NodeId) → Member id t.index → id.0 < length t.nodes
  pub listed : (id : NodeId) → id.0 < length t.nodes → Member id t.index
  pub lent : (n : Node A) → Member n t.nodes → IsLent t.leaves n
  pub records : (n : Node A) (x : RouteRecord) → Member n t.nodes → n.route ≡ Some x → x ≡ record_of p r x.contacts
  pub given : AreGiven p r t
  pub least : IsTrue t.is_searched → CarriesOnlyLeast p r t

-- the list goes on after the node's prefix with a number that the node doesn't exclude
pub record CanExclude {A : Type 0} (n : Node A) (s : List ℕ) : Type 0 where
  pub longer : n.length < length s
  pub rises : Rises nat_cmp n.excluded
  pub absent : has nat_cmp (slice_index s n.length) n.excluded ≡ false
