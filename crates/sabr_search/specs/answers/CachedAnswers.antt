-- Cached answers: of which question each is the answer, and which questions it answers by the law of answers.
use Rattle.std.specs.Prelude.{ℕ, List, ◌≡◌, ◌⊎◌, ◌≤◌, Bool, true, false, IsTrue, nat_lt, nat_le, ◌&&◌, All, length, slice_get, slice_index_or}
use Rattle.std.specs.declared.option.Option.TheVariants.{Some}
use Rattle.sabr_model.specs.declared.contact.Contact.{Contact}
use Rattle.sabr_model.specs.plan.Plan.{TabledPlan, contact_named}
use Rattle.sabr_model.specs.routes.Arrival.{RouteRequest, arrival}
use Rattle.sabr_search.specs.declared.early.answers.Answer.{Answer}
use Rattle.sabr_search.specs.declared.visit.Visit.{Visit}
use Rattle.sabr_search.specs.questions.FirstSteps.{Leads}
use Rattle.sabr_search.specs.questions.Task.{SearchTask, Takes}
use Rattle.sabr_search.specs.declared.bound.Bound.{Bound}
use Rattle.sabr_search.specs.declared.found.Found.{Found}
use Rattle.sabr_search.specs.declared.found.Found.TheVariants.{Way, Beyond}
use Rattle.sabr_search.specs.questions.Bounded.{is_up_to}
use Rattle.sabr_search.specs.answers.Answers.{IsFoundWith}

-- what was asked, with these forbidden nodes and this goal
abbrev pub asked : {A : Type 0} → TabledPlan → RouteRequest → Answer A → List Bool → ℕ → SearchTask
asked p r a forbidden goal = record { plan = p.plan; request = r; table = p.table; forbidden = forbidden; excluded = a.lists.excluded; start = a.from.node; goal = goal; at = a.from.at }

-- the places of the nodes that are forbidden are listed
abbrev pub AreListed : List Bool → List ℕ → Type 0
AreListed forbidden nodes = (k : ℕ) → slice_index_or forbidden k false ≡ true → (i : ℕ) × (slice_get nodes i ≡ Some k)

-- each of these nodes is forbidden
abbrev pub AllForbidden : List Bool → List ℕ → Type 0
AllForbidden forbidden nodes = (i k : ℕ) → slice_get nodes i ≡ Some k → slice_index_or forbidden k false ≡ true

-- these nodes are those that are forbidden, each once
pub record IsListing (forbidden : List Bool) (nodes : List ℕ) : Type 0 where
  pub listed : AreListed forbidden nodes
  pub all : AllForbidden forbidden nodes
  pub once : (i j k : ℕ) → slice_get nodes i ≡ Some k → slice_get nodes j ≡ Some k → i ≡ j

-- the answer to a question to the destination: the best way, or a bound that each way is above
pub record IsAnswer {A : Type 0} (p : TabledPlan) (r : RouteRequest) (a : Answer A) : Type 0 where
  pub flags : List Bool
  pub goal : ℕ
  pub goal_is : slice_get p.table goal ≡ Some r.destination
  pub listed : AreListed flags a.lists.forbidden
  pub found : IsFoundWith (asked p r a flags goal) a.hops a.lists.way a.found

-- the most answers that are cached
abbrev pub most_answers : ℕ
most_answers = 4096

-- each of these is the answer to its question, and they are not too many
abbrev pub AreAnswers : {A : Type 0} → TabledPlan → RouteRequest → List (Answer A) → Type 0
AreAnswers p r answers = All (IsAnswer p r) answers × (length answers ≤ most_answers)

-- the answer after a prefix is cached if that has some contacts, since no other prefix ends at the source, and not too
-- many, and if not too many numbers are excluded
abbrev pub is_cached_after : List ℕ → List ℕ → Bool
is_cached_after prefix excluded = nat_lt 0 (length prefix) && (nat_le (length prefix) 128 && nat_le (length excluded) 64)

-- the search starts at the same node and no earlier, excludes the same numbers, forbids these nodes, too, and leaves no
-- more hops
pub record Covers {A : Type 0} (a : Answer A) (task : SearchTask) (hops : ℕ) : Type 0 where
  pub node : a.from.node ≡ task.start
  pub later : a.from.at ≤ task.at
  pub fewer : hops ≤ a.hops
  pub same : a.lists.excluded ≡ task.excluded
  pub forbids : AllForbidden task.forbidden a.lists.forbidden

-- its way may be taken still, and delivers at the same second; or all that is up to the bound is up to its own
abbrev pub HoldsFor : SearchTask → ℕ → Bound → List ℕ → Found ℕ → Type 0
HoldsFor task hops b numbers (Way delivery) = (length numbers ≤ hops) × Leads (Takes task) task.start task.at numbers task.goal delivery
HoldsFor task hops b numbers (Beyond own) = IsTrue (is_up_to own b.delivery b.hops)

-- both
pub record IsAnswerTo {A : Type 0} (a : Answer A) (task : SearchTask) (hops : ℕ) (b : Bound) : Type 0 where
  pub covers : Covers a task hops
  pub holds : HoldsFor task hops b a.lists.way a.found

-- each of these is the one that was put there, or was among them before
abbrev pub IsPut : {A : Type 0} → List (Answer A) → List (Answer A) → Answer A → Type 0
IsPut {A} old new a = (k : ℕ) (x : Answer A) → slice_get new k ≡ Some x → (x ≡ a) ⊎ ((j : ℕ) × (slice_get old j ≡ Some x))

-- contact n takes what is at its sender at second t to an open node
pub record Arrives (task : SearchTask) (n t : ℕ) (s : Visit) : Type 0 where
  pub contact : Contact
  pub named : contact_named task.plan n ≡ Some contact
  pub receiver : slice_get task.table s.node ≡ Some contact.to
  pub permitted : slice_index_or task.forbidden s.node false ≡ false
  pub arrives : arrival task.plan task.request t contact ≡ Some s.at
