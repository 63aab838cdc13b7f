-- Where a bundle is that has followed a list of contacts without a fault.
use Rattle.std.specs.Prelude.{◌≡◌, ℕ, ◌==◌, ◌/◌, ◌%◌, ◌≤◌, Bool, false, IfSome, IsTrue, List, length, slice_get, slice_index_or}
use Rattle.std.specs.Int.{bit_at}
use Rattle.std.specs.Option.{option_map_or}
use Rattle.std.specs.declared.option.Option.TheVariants.{Some}
use Rattle.sabr_model.specs.declared.following.FollowedPath.{FollowedPath}
use Rattle.sabr_model.specs.declared.following.Reached.{Reached}
use Rattle.sabr_model.specs.declared.node_set.NodeSet.{NodeSet}
use Rattle.sabr_model.specs.plan.Plan.{ContactPlan, TabledPlan, IsPlan, contact_named, has}
use Rattle.sabr_model.specs.plan.Tabled.{IsTabled}
use Rattle.sabr_model.specs.routes.Arrival.{RouteRequest, arrival_after}
use Rattle.sabr_model.specs.routes.Route.{chain_end, is_path, receivers}

-- whether the node receives the contact with this number
abbrev pub receives : ContactPlan → ℕ → ℕ → Bool
receives p node n = option_map_or (λ c. node == c.to) (contact_named p n) false

-- it is at the end of the chain, since the time of its arrival there
pub record IsReachedBy (p : ContactPlan) (r : RouteRequest) (s : List ℕ) (reached : Reached) : Type 0 where
  pub node : chain_end p r.source s ≡ Some reached.node
  pub at : arrival_after p r r.at s ≡ Some reached.at

-- the most nodes of a plan
abbrev pub most_nodes : ℕ
most_nodes = 40000

-- whether the node at an index of the table is in the set
unfoldable pub has_index : NodeSet → ℕ → Bool
has_index set k = bit_at (slice_index_or set.words (k / 64) 0) (k % 64) == 1

-- the set has just the receivers of these contacts
abbrev pub AreMet : TabledPlan → NodeSet → List ℕ → Type 0
AreMet p met s = (k node : ℕ) → slice_get p.table k ≡ Some node → has_index met k ≡ has node (receivers p.plan s)

-- the numbers are a path over the plan; it leads there, and met the nodes of the set, if there is one
pub record IsFollowedPath (p : TabledPlan) (r : RouteRequest) (s : List ℕ) (f : FollowedPath) : Type 0 where
  pub rules : IsPlan p.plan
  pub tabled : IsTabled p
  pub few : length p.table ≤ most_nodes
  pub path : IsTrue (is_path p.plan r s)
  pub reached : IsReachedBy p.plan r s f.here
  pub nodes : IfSome f.met (λ met. AreMet p met s)
