-- Layers backward for one delivery, of a question or over the whole graph, and the pick by them that goes back.
use Rattle.std.specs.Prelude.{◌≡◌, ℕ, ◌+◌, ◌*◌, ◌≤◌, ◌<◌, false, All, IfSome, List, [], ◌∷◌, length, slice_get, slice_index, slice_index_or}
use Rattle.std.specs.declared.option.Option.{Option}
use Rattle.std.specs.declared.option.Option.TheVariants.{Some, None}
use Rattle.sabr_model.specs.plan.Plan.{TabledPlan}
use Rattle.sabr_model.specs.routes.Arrival.{RouteRequest}
use Rattle.sabr_search.specs.declared.backward.deadlines.Deadlines.{Deadlines}
use Rattle.sabr_search.specs.declared.visit.Step.{Step}
use Rattle.sabr_search.specs.declared.early.whole_deadlines.WholeDeadlines.{WholeDeadlines}
use Rattle.sabr_search.specs.declared.backward.walk.DeadEnd.{DeadEnd}
use Rattle.sabr_search.specs.declared.backward.walk.Walk.{Walk}
use Rattle.sabr_search.specs.declared.found.FoundWay.{FoundWay}
use Rattle.sabr_index.specs.declared.looks.Looks.{Looks}
use Rattle.sabr_search.specs.declared.visit.Visit.{Visit}
use Rattle.sabr_search.specs.questions.FirstSteps.{Leads, tabled_of}
use Rattle.sabr_search.specs.questions.Task.{SearchTask, IsAsked, Takes}
use Rattle.sabr_search.specs.layers.Deadlines.{AreChained, HasDeadline, IsOf}
use Rattle.sabr_search.specs.layers.Late.{AreSince, IsNoneWithin, IsLeftInTimeBy}
use Rattle.sabr_search.specs.layers.Picks.{IsPicked}

-- from node u at second t or later no way of that many hops or fewer delivers by second d
abbrev pub IsDeadEnd : SearchTask → ℕ → ℕ → ℕ → ℕ → Type 0
IsDeadEnd task d u t hops = (ns : List ℕ) (s e : ℕ) → t ≤ s → length ns ≤ hops → Leads (Takes task) u s ns task.goal e → d < e

-- layers backward from the goal: a bundle that steps in time to an entry of fewer hops than `most` is in time for one
-- of at most one hop more
pub record AreWhole {A : Type 0} (task : SearchTask) (since : List ℕ) (d most : ℕ) (s : Deadlines A) : Type 0 where
  pub nodes : length s.place.items ≡ length task.table
  pub chained : AreChained s
  pub first_end : slice_index s.ends.items 0 ≡ 0
  pub second_end : slice_index s.ends.items 1 ≡ 1
  pub rising : (j : ℕ) → j + 1 < length s.ends.items → slice_index s.ends.items j ≤ slice_index s.ends.items (j + 1)
  pub goal_first : slice_get s.entries.items 0 ≡ Some (record { node = task.goal; before = d + 1 })
  pub permitted : (p v : ℕ) → IsOf s.entries.items p v → slice_index_or task.forbidden v false ≡ false
  pub taken : (j w x n u t b : ℕ) → j < most → HasDeadline s.ends.items s.entries.items j w x → b < x → Takes task n u t w b → IsLeftInTimeBy task since (HasDeadline s.ends.items s.entries.items) j u t

-- the layers are, as far as that many hops, of a question that takes each step of this one to the same goal, and begin
-- no node later than a way of this one may come there; nor its start, if they don't forbid that
pub record AreWholeDeadlinesOf {A : Type 0} (task : SearchTask) (d hops : ℕ) (s : Deadlines A) : Type 0 where
  pub most : ℕ
  pub within : hops ≤ most
  pub whole : SearchTask
  pub since : List ℕ
  pub layers : AreWhole whole since d most s
  pub table : whole.table ≡ task.table
  pub goal : whole.goal ≡ task.goal
  pub takes : (n u t w b : ℕ) → Takes task n u t w b → Takes whole n u t w b
  pub soonest : AreSince task since
  pub begins : slice_index_or whole.forbidden task.start false ≡ false → slice_index since task.start ≤ task.at

-- so it is for each question of the request as far as any hops
abbrev pub AreOfEach : {A : Type 0} → TabledPlan → RouteRequest → Deadlines A → ℕ → Type 0
AreOfEach p r s d = (task : SearchTask) (prefix : List ℕ) → IsAsked task prefix → tabled_of task ≡ p → task.request ≡ r → (hops : ℕ) → AreWholeDeadlinesOf task d hops s

-- if there are layers
abbrev pub AreWholeDeadlines : {A : Type 0} → TabledPlan → RouteRequest → WholeDeadlines A → Type 0
AreWholeDeadlines p r whole_deadlines = IfSome whole_deadlines.delivery (AreOfEach p r whole_deadlines.layers)

-- a way on from each entry in time delivers in time
abbrev pub AreSound : {A : Type 0} → SearchTask → ℕ → Deadlines A → Type 0
AreSound task d s = (h v x t : ℕ) → HasDeadline s.ends.items s.entries.items h v x → t < x → IsDeadEnd task d v t h → ⊥

-- a question's own layers, up to that many hops from the goal: one hop more delivers in time, and as many hops do not
pub record AreMet {A : Type 0} (task : SearchTask) (d left : ℕ) (s : Deadlines A) : Type 0 where
  pub whole_deadlines : AreWholeDeadlinesOf task d left s
  pub sound : AreSound task d s
  pub fewer : IsDeadEnd task d task.start task.at left
  pub met : IsDeadEnd task d task.start task.at (left + 1) → ⊥

-- how layers backward for a delivery within that many hops end: the start is in time for one, made with a look at each
-- contact for each layer; or no way delivers by then
abbrev pub IsMadeBack : {A : Type 0} → SearchTask → (d hops : ℕ) → (old new : Looks) → Deadlines A → Option ℕ → Type 0
IsMadeBack task d hops old new s (Some left) = (left < hops) × (old.left ≤ new.left + (left + 1) * length task.plan.contacts) × AreMet task d left s
IsMadeBack task d hops old new s None = IsNoneWithin task hops d

-- a pick by layers in which each entry in time leads on, for a question of which that many hops deliver in time
pub record LeadOn {A : Type 0} (task : SearchTask) (hops : ℕ) (s : Deadlines A) (walk : Walk A) : Type 0 where
  pub begun : walk.ends.items ≡ []
  pub sound : AreSound task walk.delivery s
  pub met : IsDeadEnd task walk.delivery task.start task.at hops → ⊥

-- what a pick remembers
abbrev pub AreDeadEnds : SearchTask → ℕ → List DeadEnd → Type 0
AreDeadEnds task d ends = All (λ end. IsDeadEnd task d end.node end.at end.hops) ends

-- a step after which that many hops are left: none of a smaller number leads on in as many, and with none left it is at
-- the goal by second d
pub record IsStepOn (task : SearchTask) (d hops : ℕ) (from : Visit) (s : Step) : Type 0 where
  pub step : Takes task s.number from.node from.at s.node s.at
  pub last : hops ≡ 0 → (s.node ≡ task.goal) × (s.at ≤ d)
  pub least : (n w b : ℕ) → Takes task n from.node from.at w b → n < s.number → IsDeadEnd task d w b hops

-- where steps from a visit lead, and when
abbrev pub last_visit : Visit → List Step → Visit
last_visit from [] = from
last_visit from (s ∷ steps) = last_visit (record { node = s.node; at = s.at }) steps

-- what a pick of that many hops finds
abbrev pub IsWalked : {A : Type 0} → SearchTask → ℕ → ℕ → Option (FoundWay A) → Type 0
IsWalked task d hops (Some way) = (way.delivery ≡ d) × IsPicked task hops d way.numbers.items
IsWalked task d hops None = IsDeadEnd task d task.start task.at hops
