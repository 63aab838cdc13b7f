-- What a session shows, and what holds of it.
use Rattle.std.specs.Prelude.{◌≡◌, ℕ, ◌+◌, ◌-◌, ◌<◌, zero, suc, List, [], ◌∷◌, length, reverse, Option}
use Rattle.std.specs.Option.{option_map}
use Rattle.sabr_model.specs.plan.Plan.{ContactPlan, TabledPlan, IsPlan}
use Rattle.sabr_model.specs.routes.Arrival.{RouteRequest}
use Rattle.sabr_model.specs.routes.Asking.{IsRequest}
use Rattle.sabr_model.specs.routes.Record.{RouteRecord, record_of}
use Rattle.sabr_frontier.specs.declared.tree.Tree.{Tree}
use Rattle.sabr_search.specs.questions.Calls.{Calls}
use Rattle.sabr_frontier.specs.tree.Searching.{GoOn, Searching}
use Rattle.sabr_frontier.specs.listing.State.{State, PartState}
use Rattle.sabr_frontier.specs.listing.Listing.{searches_in, state_at, steps}
use Rattle.sabr_frontier.specs.tree.Shape.{Shape, shape_of, shown}
use Rattle.sabr_frontier.specs.tree.Undo.{CanUndo, IsRoomy, undone, undone_times}
use Rattle.sabr_frontier.specs.tree.Sound.{IsTree}

-- what callers see: the plan and the request, the state, the states that can be gone back to, the latest first,
-- how many searches the last call made, the calls of the finder, by this session or before, and the looks that the
-- searches of the last page took
pub record Seen : Type 0 where
  pub plan : TabledPlan
  pub request : RouteRequest
  pub state : State
  pub former : List State
  pub searches : ℕ
  pub calls : Calls
  pub looks : ℕ

-- a session just started: no route was given yet, by one search
abbrev pub started : TabledPlan → RouteRequest → Calls → Seen
started plan r calls = record { plan = plan; request = r; state = state_at plan.plan r 0; former = []; searches = 1; calls = calls; looks = 0 }

-- one that a finder of these calls started
pub record IsStarted (plan : TabledPlan) (r : RouteRequest) (calls : Calls) (s : Seen) : Type 0 where
  pub shows : s ≡ started plan r s.calls
  pub called : s.calls.count ≡ calls.count + 1
  pub go_on : GoOn plan.plan calls s.calls

-- a session over a state that was loaded: nothing can be taken back, and no search was counted
abbrev pub session_over : TabledPlan → RouteRequest → State → Calls → Seen
session_over plan r s calls = record { plan = plan; request = r; state = s; former = []; searches = 0; calls = calls; looks = 0 }

-- the next page of at most that many routes: its routes, and the state after it
abbrev pub next_page : Seen → ℕ → List (List ℕ) × State
next_page s count = steps s.plan.plan s.request count s.state

-- the searches that it takes
abbrev pub page_searches : Seen → ℕ → ℕ
page_searches s count = searches_in s.plan.plan s.request count s.state

-- the tree is sound, and so is each of the n trees before it, to which undos lead
abbrev pub IsSoundFor : {A : Type 0} → ContactPlan → RouteRequest → ℕ → Shape A → Type 0
IsSoundFor p r zero t = IsTree p r t
IsSoundFor p r (suc n) t = IsTree p r t × CanUndo t × IsSoundFor p r n (undone t)

-- for as many as the journal has entries
abbrev pub IsSound : {A : Type 0} → ContactPlan → RouteRequest → Shape A → Type 0
IsSound p r t = IsSoundFor p r (length t.journal) t

-- how long the journal was before each page, the latest first: each page gave a route, and the first began
-- with an empty journal
abbrev pub AreStarts : List ℕ → ℕ → Type 0
AreStarts [] n = n ≡ 0
AreStarts (s ∷ ss) n = (s < n) × AreStarts ss s

-- the tree before a page that began with so long a journal
abbrev pub tree_before : {A : Type 0} → ℕ → Shape A → Shape A
tree_before s t = undone_times (length t.journal - s) t

-- the states before these pages
abbrev pub former_of : {A : Type 0} → List ℕ → Shape A → List State
former_of [] t = []
former_of (s ∷ ss) t = shown (tree_before s t) ∷ former_of ss (tree_before s t)

abbrev pub seen : {A : Type 0} → Searching → Tree A → List ℕ → ℕ → ℕ → Seen
seen searcher tree pages searches looks =
    record (session_over searcher.asked.plan searcher.asked.request (shown (shape_of tree)) searcher.calls) { former = former_of (reverse pages) (shape_of tree); searches = searches; looks = looks }

-- what holds of a session
pub record IsSession {A : Type 0} (p : TabledPlan) (r : RouteRequest) (tree : Tree A) (pages : List ℕ) : Type 0 where
  pub rules : IsPlan p.plan
  pub limits : IsRequest r
  pub sound : IsSound p.plan r (shape_of tree)
  pub starts : AreStarts (reverse pages) (length tree.journal.items)
  pub index : tree.index.items ≡ (shape_of tree).index
  pub room : IsRoomy tree

-- a state before a page that gave no routes, and before one that gave some
abbrev pub former_then : List (List ℕ) → State → List State → List State
former_then [] s former = former
former_then (r ∷ rs) s former = s ∷ former

-- a part with the record of what it carries
pub record PartSeen : Type 0 where
  pub prefix : List ℕ
  pub excluded : List ℕ
  pub route : Option RouteRecord

abbrev pub seen_part : ContactPlan → RouteRequest → PartState → PartSeen
seen_part p r t = record { prefix = t.prefix; excluded = t.excluded; route = option_map (record_of p r) t.carried }
