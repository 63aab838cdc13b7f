-- The question of a search, and the steps that it may take.
use Rattle.std.specs.Prelude.{IsTrue, ◌≡◌, ℕ, ◌-◌, ◌^◌, ◌≤◌, ◌<◌, ◌==◌, min, if◌then◌else◌, Bool, true, false, ◌||◌, List, [], ◌∷◌, length, slice_get, slice_index_or}
use Rattle.std.specs.declared.option.Option.TheVariants.{Some}
use Rattle.sabr_model.specs.declared.contact.Contact.{Contact}
use Rattle.sabr_model.specs.plan.Plan.{ContactPlan, TabledPlan, IsPlan, contact_named, has}
use Rattle.sabr_model.specs.routes.Arrival.{RouteRequest, arrival, arrival_after}
use Rattle.sabr_model.specs.routes.Asking.{most_hops}
use Rattle.sabr_model.specs.routes.Route.{chain_end, receivers, is_prefix}

-- the plan, the request, the nodes of the plan in their table, which of them are forbidden by their places there, the
-- numbers excluded at the start, where and when the search starts, and its goal
pub record SearchTask : Type 0 where
  pub plan : ContactPlan
  pub request : RouteRequest
  pub table : List ℕ
  pub forbidden : List Bool
  pub excluded : List ℕ
  pub start : ℕ
  pub goal : ℕ
  pub at : ℕ

-- the question over a plan with its table
abbrev pub task_of : TabledPlan → RouteRequest → List Bool → List ℕ → ℕ → ℕ → ℕ → SearchTask
task_of p r forbidden excluded start at goal = record { plan = p.plan; request = r; table = p.table; forbidden = forbidden; excluded = excluded; start = start; goal = goal; at = at }

-- a plan has no more nodes
abbrev pub most_nodes : ℕ
most_nodes = 40000

-- the table has the sender and the receiver of each standing contact, and no node twice
pub record HasNodes (p : ContactPlan) (table : List ℕ) : Type 0 where
  pub apart : (i j x : ℕ) → slice_get table i ≡ Some x → slice_get table j ≡ Some x → i ≡ j
  pub senders : (n : ℕ) (c : Contact) → contact_named p n ≡ Some c → (k : ℕ) × (slice_get table k ≡ Some c.from)
  pub receivers : (n : ℕ) (c : Contact) → contact_named p n ≡ Some c → (k : ℕ) × (slice_get table k ≡ Some c.to)

-- later than every arrival
abbrev pub never : ℕ
never = 2 ^ 64 - 1

-- no arrival is later
abbrev pub latest_arrival : ℕ
latest_arrival = 253372764799

-- what holds for every search: the plan and the request obey their rules, each node has a flag, they are few, the start
-- is forbidden, and the goal is open
pub record IsTask (task : SearchTask) : Type 0 where
  pub plan : IsPlan task.plan
  pub nodes : HasNodes task.plan task.table
  pub margin : task.request.margin ≤ 1000000
  pub as_many : length task.forbidden ≡ length task.table
  pub few : length task.table ≤ most_nodes
  pub start_in : task.start < length task.table
  pub goal_in : task.goal < length task.table
  pub start_forbidden : slice_index_or task.forbidden task.start false ≡ true
  pub goal_open : slice_index_or task.forbidden task.goal false ≡ false
  pub time : task.at ≤ latest_arrival

-- contact n takes what is there at second t from the node at place u to the open node at place w at second b
pub record Takes (task : SearchTask) (n u t w b : ℕ) : Type 0 where
  pub contact : Contact
  pub named : contact_named task.plan n ≡ Some contact
  pub sender : slice_get task.table u ≡ Some contact.from
  pub receiver : slice_get task.table w ≡ Some contact.to
  pub permitted : slice_index_or task.forbidden w false ≡ false
  pub allowed : u ≡ task.start → has n task.excluded ≡ false
  pub arrives : arrival task.plan task.request t contact ≡ Some b

-- no route goes on to the node after the prefix: it is the source, a receiver of the prefix, or avoided
abbrev pub is_forbidden : ContactPlan → RouteRequest → List ℕ → ℕ → Bool
is_forbidden p r prefix x = has x (r.source ∷ receivers p prefix) || has x r.avoided

-- the search starts where the prefix ends, when it arrives there, and all nodes that no route goes on to are forbidden
pub record IsBehind (task : SearchTask) (prefix : List ℕ) : Type 0 where
  pub nodes : HasNodes task.plan task.table
  pub last_node : ℕ
  pub chained : chain_end task.plan task.request.source prefix ≡ Some last_node
  pub stands : slice_get task.table task.start ≡ Some last_node
  pub arrives : arrival_after task.plan task.request task.request.at prefix ≡ Some task.at
  pub goal_is : slice_get task.table task.goal ≡ Some task.request.destination
  pub forbids : (k x : ℕ) → slice_get task.table k ≡ Some x → slice_index_or task.forbidden k false ≡ is_forbidden task.plan task.request prefix x

-- the goal is the destination, the search starts no earlier than the request begins, and no node is open that the
-- request closes: the source, and those to avoid
pub record IsOfRequest (task : SearchTask) : Type 0 where
  pub goal_is : slice_get task.table task.goal ≡ Some task.request.destination
  pub since : task.request.at ≤ task.at
  pub closes : (k x : ℕ) → slice_get task.table k ≡ Some x → slice_index_or task.forbidden k false ≡ false → is_forbidden task.plan task.request [] x ≡ false

-- a question after a prefix: the search starts where the prefix ends
pub record IsAsked (task : SearchTask) (prefix : List ℕ) : Type 0 where
  pub task_is : IsTask task
  pub behind : IsBehind task prefix
  pub fits : IsTrue (is_prefix task.plan task.request prefix)

-- the most hops that a way after the prefix may have: fewer than there are nodes, and those that a limit leaves
abbrev pub left_of : SearchTask → List ℕ → ℕ
left_of task prefix = if task.request.max_hops == most_hops then length task.table - 1 else min (length task.table - 1) (task.request.max_hops - length prefix)
