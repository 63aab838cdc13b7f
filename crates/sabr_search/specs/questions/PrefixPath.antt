-- Where a prefix leads, stop by stop, and which nodes are forbidden after it.
use Rattle.std.specs.Prelude.{◌≡◌, ℕ, ◌+◌, Bool, false, List, length, take, slice_get, slice_index_or, IsTrue}
use Rattle.std.specs.declared.option.Option.TheVariants.{Some}
use Rattle.sabr_model.specs.plan.Plan.{TabledPlan, IsPlan}
use Rattle.sabr_model.specs.plan.Table.{node_count}
use Rattle.sabr_model.specs.plan.Tabled.{IsTabled}
use Rattle.sabr_model.specs.routes.Arrival.{RouteRequest, arrival_after}
use Rattle.sabr_model.specs.routes.Asking.{IsRequest}
use Rattle.sabr_model.specs.routes.Route.{chain_end, is_prefix}
use Rattle.sabr_model.specs.routes.Telling.{summary_of}
use Rattle.sabr_search.specs.declared.prefix_path.PrefixPath.{PrefixPath}
use Rattle.sabr_search.specs.declared.prefix_path.Stop.{Stop}
use Rattle.sabr_search.specs.questions.Task.{IsTask, IsBehind, task_of, is_forbidden}

-- the nodes that pass the test are forbidden, and no other
pub record AreForbidden (table : List ℕ) (forbidden : List Bool) (test : ℕ → Bool) : Type 0 where
  pub many : length forbidden ≡ length table
  pub flag : (k x : ℕ) → slice_get table k ≡ Some x → slice_index_or forbidden k false ≡ test x

-- the numbers lead to this node, arrive there at this second, and tell this
pub record IsStop (p : TabledPlan) (r : RouteRequest) (numbers : List ℕ) (stop : Stop) : Type 0 where
  pub last_node : ℕ
  pub chained : chain_end p.plan r.source numbers ≡ Some last_node
  pub stands : slice_get p.table stop.node ≡ Some last_node
  pub arrives : arrival_after p.plan r r.at numbers ≡ Some stop.at
  pub tells : stop.summary ≡ summary_of p.plan numbers

-- each stop is where as many of the numbers lead as there are stops before it
abbrev pub AreStops : TabledPlan → RouteRequest → List ℕ → List Stop → Type 0
AreStops p r numbers stops = (i : ℕ) (stop : Stop) → slice_get stops i ≡ Some stop → IsStop p r (take i numbers) stop

-- the path is of this plan and request, which keep their rules: its numbers fit, it has their stops and no other, and
-- forbids the nodes that no route goes on to after them
pub record IsPrefixPath {A : Type 0} (p : TabledPlan) (r : RouteRequest) (prefix_path : PrefixPath A) : Type 0 where
  pub plan : IsPlan p.plan
  pub tabled : IsTabled p
  pub nodes : length p.table ≡ node_count p.plan.contacts
  pub asked : IsRequest r
  pub fits : IsTrue (is_prefix p.plan r prefix_path.numbers.items)
  pub many : length prefix_path.stops.items ≡ length prefix_path.numbers.items + 1
  pub stops : AreStops p r prefix_path.numbers.items prefix_path.stops.items
  pub forbids : AreForbidden p.table prefix_path.forbidden (is_forbidden p.plan r prefix_path.numbers.items)
  pub goal_is : slice_get p.table prefix_path.goal ≡ Some r.destination

-- the search that starts and goes there keeps the rules and starts where the prefix ends, with any excluded numbers
abbrev pub IsEntered : TabledPlan → RouteRequest → List ℕ → List Bool → ℕ → ℕ → ℕ → Type 0
IsEntered p r prefix forbidden start at goal = (excluded : List ℕ) → IsTask (task_of p r forbidden excluded start at goal) × IsBehind (task_of p r forbidden excluded start at goal) prefix
