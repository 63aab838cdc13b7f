-- The ways of a search, where its first steps come to, and what is known of its ways.
use Rattle.std.specs.Prelude.{◌≡◌, ℕ, List, [], ◌∷◌, ◌≤◌, slice_get}
use Rattle.std.specs.declared.option.Option.TheVariants.{Some}
use Rattle.sabr_model.specs.plan.Plan.{TabledPlan}
use Rattle.sabr_search.specs.declared.visit.Visit.{Visit}
use Rattle.sabr_search.specs.questions.Task.{SearchTask, Takes}

-- Ways over contacts, for any relation of steps: `T n u t w b` says that contact n takes what is at node u at
-- second t to node w at second b.

-- a relation of steps
abbrev pub StepRelation : Type 1
StepRelation = ℕ → ℕ → ℕ → ℕ → ℕ → Type 0

-- the numbers lead from node u at t to node v at e
abbrev pub Leads : StepRelation → ℕ → ℕ → List ℕ → ℕ → ℕ → Type 0
Leads T u t [] v e = (u ≡ v) × (t ≡ e)
Leads T u t (n ∷ ns) v e = (w : ℕ) × (b : ℕ) × T n u t w b × Leads T w b ns v e

-- the plan of a search with its table
abbrev pub tabled_of : SearchTask → TabledPlan
tabled_of task = record { plan = task.plan; table = task.table }

-- one of these is at node w by second b
abbrev pub ComesTo : List Visit → ℕ → ℕ → Type 0
ComesTo first w b = (k : ℕ) × (s : Visit) × (slice_get first k ≡ Some s) × (s.node ≡ w) × (s.at ≤ b)

-- each first step comes to one of the nodes, then or later
abbrev pub AreFirstSteps : SearchTask → List Visit → Type 0
AreFirstSteps task first = (n w b : ℕ) → Takes task n task.start task.at w b → ComesTo first w b

-- no way delivers before second d
abbrev pub IsNoneBefore : SearchTask → ℕ → Type 0
IsNoneBefore task d = (ns : List ℕ) (e : ℕ) → Leads (Takes task) task.start task.at ns task.goal e → d ≤ e
