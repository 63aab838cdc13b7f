-- The smallest numbers from the front, and the best way of a search.
use Rattle.std.specs.Prelude.{◌≡◌, ◌⊎◌, ℕ, ◌<◌, List, [], ◌∷◌, ◌≤◌, length, false, slice_index_or}
use Rattle.std.specs.declared.option.Option.{Option}
use Rattle.std.specs.declared.option.Option.TheVariants.{Some, None}
use Rattle.sabr_search.specs.declared.visit.Step.{Step}
use Rattle.sabr_search.specs.questions.FirstSteps.{Leads}
use Rattle.sabr_search.specs.questions.Task.{SearchTask, Takes}

-- Numbers compared from the front.

-- xs is a beginning of ys, or less at the first place where they differ
abbrev pub IsNotAfter : List ℕ → List ℕ → Type 0
IsNotAfter [] ys = Unit {0}
IsNotAfter (x ∷ xs) [] = ⊥
IsNotAfter (x ∷ xs) (y ∷ ys) = (x < y) ⊎ ((x ≡ y) × IsNotAfter xs ys)

-- there is a step, and its number is at most n
abbrev pub IsAtMost : Option Step → ℕ → Type 0
IsAtMost None n = ⊥
IsAtMost (Some s) n = s.number ≤ n

-- a step from node u at t that arrives at node w before a second, if that node is open
abbrev pub IsStepOver : SearchTask → ℕ → ℕ → ℕ → ℕ → Step → Type 0
IsStepOver task u t w before s = (s.node ≡ w) × (s.at < before) × (slice_index_or task.forbidden w false ≡ false → Takes task s.number u t w s.at)

-- the numbers lead to the goal with this delivery and number of hops, and no others that do come before them
pub record IsPicked (task : SearchTask) (hops d : ℕ) (s : List ℕ) : Type 0 where
  pub many : length s ≡ hops
  pub way : Leads (Takes task) task.start task.at s task.goal d
  pub front : (ns : List ℕ) (e : ℕ) → length ns ≡ hops → Leads (Takes task) task.start task.at ns task.goal e → e ≤ d → IsNotAfter s ns

-- the way of the earliest delivery, hops and numbers among those of at most `hops` hops, with a delivery before
-- `ceiling`
pub record IsBestWay (task : SearchTask) (hops ceiling : ℕ) (s : List ℕ) (d : ℕ) : Type 0 where
  pub some : 0 < length s
  pub within : length s ≤ hops
  pub below : d < ceiling
  pub way : Leads (Takes task) task.start task.at s task.goal d
  pub fewest : (ns : List ℕ) (e : ℕ) → length ns < length s → Leads (Takes task) task.start task.at ns task.goal e → d < e
  pub least : (ns : List ℕ) (e : ℕ) → length ns ≤ hops → Leads (Takes task) task.start task.at ns task.goal e → d ≤ e
  pub front : (ns : List ℕ) (e : ℕ) → length ns ≡ length s → Leads (Takes task) task.start task.at ns task.goal e → e ≤ d → IsNotAfter s ns
