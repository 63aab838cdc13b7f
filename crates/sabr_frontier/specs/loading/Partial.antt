-- What a loader has gathered: nodes with their prefixes and where these lead, leaves, and the prefixes that are expected.
use Rattle.std.specs.Prelude.{◌≡◌, ℕ, ◌≤◌, IsTrue, List, [], ◌∷◌, ◌++◌, length, take, Bool, true, not, ◌⊎◌, map, filter, ◌+◌, false, ◌==◌, ◌&&◌, flat_map, reverse, Option, Some, None, if◌then◌else◌}
use Rattle.sabr_model.specs.plan.Plan.{ContactPlan, TabledPlan, IsPlan}
use Rattle.sabr_model.specs.routes.Arrival.{RouteRequest}
use Rattle.sabr_model.specs.routes.Route.{is_path, is_route}
use Rattle.sabr_model.specs.routes.Following.{IsReachedBy}
use Rattle.sabr_model.specs.routes.Telling.{summary_of}
use Rattle.sabr_frontier.specs.declared.loader.path_end.PathEnd.{PathEnd}
use Rattle.sabr_frontier.specs.declared.loader.path_end.ExpectedPrefix.{ExpectedPrefix}
use Rattle.sabr_frontier.specs.listing.State.{Member, InPairs, PartState, pair_of, leaves_of}
use Rattle.std.specs.Ordering.{nat_cmp}
use Rattle.sabr_frontier.specs.listing.Rising.{has}
use Rattle.std.specs.Option.{option_map, option_map_or}
use Rattle.sabr_model.specs.Order.{numbers_before, same_numbers}
use Rattle.sabr_model.specs.routes.Asking.{IsRequest}
use Rattle.sabr_model.specs.routes.Record.{RouteRecord, record_of}
use Rattle.sabr_search.specs.questions.Calls.{Calls}
use Rattle.sabr_frontier.specs.declared.tree.Node.{Node}
use Rattle.sabr_frontier.specs.declared.loader.partial_tree.PartialTree.{PartialTree}
use Rattle.sabr_frontier.specs.declared.loader.check.Checked.{Checked}
use Rattle.sabr_frontier.specs.listing.Formed.{InOrder, Within}
use Rattle.sabr_frontier.specs.tree.Shape.{Shape, given_at}
use Rattle.sabr_frontier.specs.tree.Undo.{last_item, front}
use Rattle.sabr_frontier.specs.tree.Giving.{ids_from}
use Rattle.sabr_frontier.specs.tree.Searching.{Asked}
use Rattle.sabr_frontier.specs.loading.Loading.{Loaded}

-- ---- where the prefixes of parts lead

-- the prefix is a path that leads there, and this is its record
pub record IsPathEnd (p : ContactPlan) (r : RouteRequest) (q : List ℕ) (end : PathEnd) : Type 0 where
  pub path : IsTrue (is_path p r q)
  pub reached : IsReachedBy p r q end.here
  pub summary : end.summary ≡ summary_of p q

-- what is expected after a part: a beginning of the part's prefix of the length that is kept, and one more number
abbrev pub expected_prefix : List ℕ → ExpectedPrefix → List ℕ
expected_prefix last o = take o.length last ++ o.number ∷ []

-- each leads where the list says; none takes more of the prefix than it has, or than those after it do
pub record AreExpected (p : ContactPlan) (r : RouteRequest) (last : List ℕ) (os : List ExpectedPrefix) : Type 0 where
  pub ends : (o : ExpectedPrefix) → Member o os → IsPathEnd p r (expected_prefix last o) o.end
  pub within : (o : ExpectedPrefix) → Member o os → o.length ≤ length last
  pub nested : InPairs (λ a b. a.length ≤ b.length) os

-- the prefix and one more number
abbrev pub step_of : List ℕ → ExpectedPrefix → List ℕ
step_of q o = q ++ o.number ∷ []

-- each takes the whole prefix, and leads where the list says
abbrev pub AreSteps : ContactPlan → RouteRequest → List ℕ → List ExpectedPrefix → Type 0
AreSteps p r q os = (o : ExpectedPrefix) → Member o os → (o.length ≡ length q) × IsPathEnd p r (step_of q o) o.end

-- ---- pairs in order that answer, one after another, the prefixes that are expected

module _ (route path : List ℕ → Bool) where
  -- the prefixes that a pair asks for: those with an excluded number that make no route
  abbrev pub onward : List ℕ × List ℕ → List (List ℕ)
  onward e = filter (λ q. not (route q)) (map (λ x. e.0 ++ x ∷ []) e.1)

  -- the pair excludes a number, unless its prefix is empty, and each excluded number makes a path
  pub record IsGood (e : List ℕ × List ℕ) : Type 0 where
    pub busy : (e.0 ≡ []) ⊎ ((x : ℕ) × (has nat_cmp x e.1 ≡ true))
    pub chains : (x : ℕ) → has nat_cmp x e.1 ≡ true → path (e.0 ++ x ∷ []) ≡ true

  -- the pairs lead from the first expected prefixes to the second, the least first in both: each is good, answers the
  -- least and asks for what goes on from it
  abbrev pub Expects : List (List ℕ) → List (List ℕ × List ℕ) → List (List ℕ) → Type 0
  Expects os [] end = os ≡ end
  Expects os (e ∷ T) end = (rest : List (List ℕ)) × (os ≡ e.0 ∷ rest) × IsGood e × Expects (onward e ++ rest) T end

-- a partial tree without its capacities; the least of the expected prefixes is the last
pub record PartialShape (A : Type 0) : Type 0 where
  pub last : List ℕ
  pub nodes : List (Node A)
  pub leaves : List RouteRecord
  pub expected : List ExpectedPrefix
  pub sound : Bool

abbrev pub partial_shape_of : {A : Type 0} → PartialTree A → PartialShape A
partial_shape_of h = record { last = h.last.items; nodes = h.nodes.items; leaves = h.leaves.items; expected = h.expected.items; sound = h.sound }

-- nothing yet
abbrev pub nothing_yet : {A : Type 0} → PartialShape A
nothing_yet = record { last = []; nodes = []; leaves = []; expected = []; sound = true }

-- the prefixes that are kept, the least last
abbrev pub expected_in : {A : Type 0} → PartialShape A → List (List ℕ)
expected_in h = map (expected_prefix h.last) h.expected

-- the last part's prefix, if there is a part
abbrev pub last_prefix : {A : Type 0} → PartialShape A → Option (List ℕ)
last_prefix h = if h.sound && (length h.nodes == 0) then None else Some h.last

-- whether the prefix comes after the last part's
abbrev pub is_after_last : {A : Type 0} → PartialShape A → List ℕ → Bool
is_after_last h q = option_map_or (λ z. numbers_before z q) (last_prefix h) true

-- what is expected after these parts, the least first: the empty prefix before any
abbrev pub expected_after : List PartState → List (List ℕ) → List (List ℕ)
expected_after [] expected = [] ∷ []
expected_after (t ∷ ts) expected = reverse expected

-- whether the prefix is the least that is expected: the empty one, before any part
abbrev pub is_least : {A : Type 0} → PartialShape A → List ℕ → Bool
is_least h q = option_map_or (same_numbers q) (last_item (expected_in h)) (length h.nodes == 0 && length q == 0)

-- whether it is the least that is expected, after parts that all were
abbrev pub is_expected : {A : Type 0} → PartialShape A → List ℕ → Bool
is_expected h q = h.sound && is_least h q

-- whether nothing is expected
abbrev pub is_complete : {A : Type 0} → PartialShape A → Bool
is_complete h = h.sound && (not (length h.nodes == 0) && (length h.expected == 0))

-- ---- a part more

-- each excluded number makes a path
abbrev pub AllGoOn : ContactPlan → RouteRequest → List ℕ × List ℕ → Type 0
AllGoOn p r e = (x : ℕ) → has nat_cmp x e.1 ≡ true → is_path p r (e.0 ++ x ∷ []) ≡ true

-- the leaves, with the list if it is a route
abbrev pub leaves_with : Asked → List RouteRecord → List ℕ → List RouteRecord
leaves_with a leaves s = leaves ++ map (record_of a.plan.plan a.request) (filter (is_route a.plan.plan a.request) (s ∷ []))

-- the steps of a prefix, with one more number if that makes no route
abbrev pub onward_with : Asked → List ℕ → List ExpectedPrefix → ℕ → List (List ℕ)
onward_with a q os x = map (step_of q) os ++ filter (λ s. not (is_route a.plan.plan a.request s)) ((q ++ x ∷ []) ∷ [])

-- where a pair's excluded numbers lead: the leaves and the prefixes that go on
pub record IsChecked {A : Type 0} (p : ContactPlan) (r : RouteRequest) (e : List ℕ × List ℕ) (j : Checked A) : Type 0 where
  pub leaves_are : j.leaves.items ≡ map (record_of p r) (leaves_of (is_route p r) e)
  pub onward_are : map (step_of e.0) j.onward.items ≡ onward (is_route p r) (is_path p r) e
  pub steps : AreSteps p r e.0 j.onward.items

-- the pair answers what is expected and is good, and this is where it leads; or there is no verdict, since it doesn't
-- or isn't
abbrev pub IsVerdict : {A : Type 0} → ContactPlan → RouteRequest → PartialShape A → List ℕ × List ℕ → Option (Checked A) → Type 0
IsVerdict p r h e (Some j) = (is_expected h e.0 ≡ true) × IsGood (is_route p r) (is_path p r) e × IsChecked p r e j
IsVerdict p r h e None = is_expected h e.0 ≡ true → IsGood (is_route p r) (is_path p r) e → ⊥

-- a partial tree with one more part: its node, whose leaf is the next one to come, and what it leads to in place of the
-- least that was expected. Without a verdict, its prefix alone is kept.
abbrev pub with_node : {A : Type 0} → PartialShape A → List ℕ → List ℕ → Option RouteRecord → Option (Checked A) → PartialShape A
with_node h q X route None = record { last = q; nodes = []; leaves = []; expected = []; sound = false }
with_node h q X route (Some j) = record {
  last = q;
  nodes = h.nodes ++ record { leaf = length h.leaves; length = length q; excluded = X; route = route } ∷ [];
  leaves = h.leaves ++ j.leaves.items;
  expected = front h.expected ++ reverse j.onward.items;
  sound = h.sound;
}

-- a partial tree with one more part, for the verdict on it
abbrev pub IsTakenIn : {A : Type 0} → ContactPlan → RouteRequest → PartialShape A → List ℕ → List ℕ → Option RouteRecord → PartialShape A → Type 0
IsTakenIn {A} p r h q X route new = (j : Option (Checked A)) × IsVerdict p r h (q, X) j × (new ≡ with_node h q X route j)

-- ---- what holds of it

-- the nodes of parts: the leaf of each is the first of its own leaves and those of the nodes after it; the very first
-- leaf is number c
abbrev pub nodes_of : {A : Type 0} → ContactPlan → RouteRequest → ℕ → List PartState → List (Node A)
nodes_of p r c [] = []
nodes_of p r c (t ∷ ts) = record { leaf = c; length = length t.prefix; excluded = t.excluded; route = option_map (record_of p r) t.carried } ∷ nodes_of p r (c + length (leaves_of (is_route p r) (pair_of t))) ts

-- the parts answered what was expected: this is expected now, and these are the nodes and the leaves
pub record IsAnswered {A : Type 0} (p : ContactPlan) (r : RouteRequest) (parts : List PartState) (h : PartialShape A) : Type 0 where
  pub expects : Expects (is_route p r) (is_path p r) ([] ∷ []) (map pair_of parts) (expected_after parts (expected_in h))
  pub leaves : h.leaves ≡ map (record_of p r) (flat_map (leaves_of (is_route p r)) (map pair_of parts))
  pub nodes : h.nodes ≡ nodes_of p r 0 parts
  pub expected : AreExpected p r h.last h.expected
  pub first : parts ≡ [] → expected_in h ≡ []

pub record IsPartial {A : Type 0} (p : ContactPlan) (r : RouteRequest) (parts : List PartState) (h : PartialShape A) : Type 0 where
  pub last : option_map (λ (t : PartState). t.prefix) (last_item parts) ≡ last_prefix h
  pub order : InOrder (map pair_of parts)
  pub carried : (t : PartState) (s : List ℕ) → Member t parts → t.carried ≡ Some s → (is_route p r s ≡ true) × Within t.prefix t.excluded s
  pub answered : h.sound ≡ true → IsAnswered p r parts h
  pub broken : h.sound ≡ false → (os : List (List ℕ)) → Expects (is_route p r) (is_path p r) ([] ∷ []) (map pair_of parts) os → ⊥

-- ---- the tree

-- the tree of a complete one, with the last route's place
abbrev pub loaded_tree : {A : Type 0} → PartialShape A → Option ℕ → Shape A
loaded_tree h last = record {
  nodes = h.nodes;
  index = ids_from 0 (length h.nodes);
  leaves = h.leaves;
  last = last;
  journal = [];
  is_searched = false;
}

-- the last is empty and there is no leaf, or it is one of them
abbrev pub IsGiven : List RouteRecord → List ℕ → Type 0
IsGiven leaves last = ((last ≡ []) × (leaves ≡ [])) ⊎ ((x : RouteRecord) × Member x leaves × (x.contacts ≡ last))

-- the leaves are counted, and the last route is at this place of them
pub record IsLastPlace (leaves : List RouteRecord) (emitted : ℕ) (last : List ℕ) (place : Option ℕ) : Type 0 where
  pub count : emitted ≡ length leaves
  pub is : given_at leaves place ≡ last
  pub right : IsGiven leaves last

-- ---- the loader

abbrev pub loaded : TabledPlan → RouteRequest → List PartState → Calls → Loaded
loaded plan request parts calls = record { plan = plan; request = request; parts = parts; calls = calls }

pub record IsLoader {A : Type 0} (plan : TabledPlan) (request : RouteRequest) (parts : List PartState) (h : PartialTree A) : Type 0 where
  pub rules : IsPlan plan.plan
  pub limits : IsRequest request
  pub partial : IsPartial plan.plan request parts (partial_shape_of h)
