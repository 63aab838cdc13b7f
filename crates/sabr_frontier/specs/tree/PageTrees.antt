-- A tree while a page's routes are given: its nodes, its index, and the nodes that don't carry what they might.
use Rattle.std.specs.Prelude.{ℕ, List, [], ◌∷◌, ◌++◌, Option, ◌≡◌, ◌-◌, ◌≤◌, ◌⊎◌, nat_lt, length, take, filter, suc, Bool, false, if◌then◌else◌, Some, None, IsTrue, slice_get}
use Rattle.sabr_model.specs.routes.Record.{RouteRecord, by_record}
use Rattle.sabr_frontier.specs.declared.tree.NodeId.{NodeId}
use Rattle.sabr_frontier.specs.declared.tree.Node.{Node}
use Rattle.sabr_frontier.specs.tree.Shape.{Shape, order_of, IsBefore, shown}
use Rattle.sabr_frontier.specs.tree.Undo.{modify}
use Rattle.sabr_frontier.specs.declared.giving.give_next.GivenRoute.{GivenRoute}
use Rattle.sabr_frontier.specs.tree.Giving.{changed_by, divided_into, fresh_after, wide_of}
use Rattle.sabr_frontier.specs.tree.SmallestKeys.{carried_keys}
use Rattle.sabr_frontier.specs.tree.Winners.{IsBestOf}
use Rattle.sabr_frontier.specs.listing.State.{Member, InPairs, State}
use Rattle.std.specs.Option.{option_map_or}
use Rattle.std.specs.Ordering.{is_lt}
use Rattle.sabr_model.specs.plan.Plan.{ContactPlan}
use Rattle.sabr_model.specs.routes.Arrival.{RouteRequest}
use Rattle.sabr_model.specs.routes.Parts.{in_part}
use Rattle.sabr_model.specs.routes.Route.{by_key, delivery_of}
use Rattle.sabr_frontier.specs.tree.Searching.{Asked}
use Rattle.sabr_frontier.specs.tree.Sound.{IsTree}

-- ---- the nodes while a route is given

-- the node with the number after its prefix in s among those that it excludes
abbrev pub excluding : {A : Type 0} → List ℕ → Node A → Node A
excluding s n = record n { excluded = wide_of n s }

-- the node with what it carries then
abbrev pub carrying : {A : Type 0} → Option RouteRecord → Node A → Node A
carrying found n = record n { route = found }

-- the tree once the node's route x is given and it carries this, where the new nodes stand from `first` on already
abbrev pub given_by : {A : Type 0} → Shape A → NodeId → RouteRecord → Option RouteRecord → ℕ → Shape A
given_by t node x found first =
    let nodes = modify (carrying found) t.nodes node.0 in
    changed_by t node x first (order_of (t.leaves ++ x ∷ []) nodes) nodes

-- ---- how a page's nodes are put among the others of the index

-- no prefix of the first is one of the second
abbrev pub AreApart : {A : Type 0} → List RouteRecord → List (Node A) → List NodeId → List NodeId → Type 0
AreApart leaves nodes ids unindexed = (a b : NodeId) → Member a ids → Member b unindexed → IsBefore leaves nodes a b ⊎ IsBefore leaves nodes b a

-- in order, and the nodes of both
pub record IsMerged {A : Type 0} (leaves : List RouteRecord) (nodes : List (Node A)) (ids unindexed both : List NodeId) : Type 0 where
  pub order : InPairs (IsBefore leaves nodes) both
  pub from : (id : NodeId) → Member id both → Member id ids ⊎ Member id unindexed
  pub has : (id : NodeId) → Member id ids ⊎ Member id unindexed → Member id both

-- the first nodes of the index, in its order
pub record IsPart {A : Type 0} (t : Shape A) (ids : List NodeId) : Type 0 where
  pub few : length ids ≤ length t.nodes
  pub first : ids ≡ filter (λ (id : NodeId). nat_lt id.0 (length ids)) t.index

-- ---- a tree in which some nodes don't carry the route that they might, since other nodes carry enough routes before
-- it

-- the node carries a route before x
abbrev pub carries_before : {A : Type 0} → RouteRecord → Node A → Bool
carries_before x n = option_map_or (λ y. is_lt (by_record y x)) n.route false

-- the number of these nodes that do
abbrev pub count_before : {A : Type 0} → RouteRecord → List (Node A) → ℕ
count_before x [] = 0
count_before x (n ∷ nodes) = if carries_before x n then suc (count_before x nodes) else count_before x nodes

-- t is the node u, or u without the route that it carries, before which at least k of all nodes carry one
abbrev pub IsCutOf : {A : Type 0} → ℕ → List (Node A) → Node A → Node A → Type 0
IsCutOf k all u t = (t ≡ u) ⊎ ((x : RouteRecord) × (u.route ≡ Some x) × (t ≡ record u { route = None }) × (k ≤ count_before x all))

-- so each node of the second list is that of the first
abbrev pub AreCutBy : {A : Type 0} → ℕ → List (Node A) → List (Node A) → List (Node A) → Type 0
AreCutBy k all [] [] = Unit {0}
AreCutBy k all [] (t ∷ ts) = ⊥
AreCutBy k all (u ∷ us) [] = ⊥
AreCutBy k all (u ∷ us) (t ∷ ts) = IsCutOf k all u t × AreCutBy k all us ts

-- the second tree is the first, a sound one, but for routes that its nodes don't carry, each after at least k that they carry
pub record IsCutTree {A : Type 0} (p : ContactPlan) (r : RouteRequest) (k : ℕ) (u t : Shape A) : Type 0 where
  pub sound : IsTree p r u
  pub nodes : AreCutBy k t.nodes u.nodes t.nodes
  pub same : t ≡ record u { nodes = t.nodes }

-- so a tree is that of a state
abbrev pub ShowsCut : {A : Type 0} → Asked → ℕ → State → Shape A → Type 0
ShowsCut {A} a k s t = (u : Shape A) × (s ≡ shown u) × IsCutTree a.plan.plan a.request k u t

-- ---- a route is given where only some of the best that come after it are needed

-- the second list is the first, in which at least k routes are carried, but for routes that come after k of these
pub record AreEnough {A : Type 0} (k : ℕ) (us ts : List (Node A)) : Type 0 where
  pub cut : AreCutBy k ts us ts
  pub many : k ≤ length (carried_keys ts)

-- the second list is the first, by `all` searches; or only k routes are needed, and no more searches found enough of them
abbrev pub AreFound : {A : Type 0} → Option ℕ → ℕ → List (Node A) → List (Node A) → ℕ → Type 0
AreFound None all us ts searches = (ts ≡ us) × (searches ≡ all)
AreFound (Some k) all us ts searches = ((ts ≡ us) × (searches ≡ all)) ⊎ (AreEnough k us ts × (searches ≤ all))

-- where only some routes are needed, s is the best route of the part, and is delivered at this second
abbrev pub IsBestWhere : Option ℕ → ContactPlan → RouteRequest → List ℕ → List ℕ → List ℕ → ℕ → Type 0
IsBestWhere None p r q X s d = Unit {0}
IsBestWhere (Some k) p r q X s d = (delivery_of p r s ≡ d) × ((t : List ℕ) → IsTrue (in_part p r q X t) → is_lt (by_key p r t s) ≡ false)

-- the best route that a node carries was given, with a search for each hop of it after the node's prefix where all routes
-- that come after it are needed
pub record IsNextGiven {A : Type 0} (best : List ℕ → List ℕ → Option RouteRecord) (needed : Option ℕ) (t u : Shape A) (given : GivenRoute) : Type 0 where
  pub part : Node A
  pub route : RouteRecord
  pub stands : slice_get t.nodes given.node.0 ≡ Some part
  pub former : given.first ≡ length t.nodes
  pub carries : part.route ≡ Some route
  pub least : IsBestOf t.nodes route
  pub new : List (Node A)
  pub found : AreFound needed (length route.contacts - part.length) (fresh_after best (length t.leaves) part route.contacts) new given.searches
  pub shape : u ≡ divided_into t given.node part route (best (take part.length route.contacts) (wide_of part route.contacts)) new
