-- The law of cached answers: an answer to one question answers later ones, too; what a search found, and wide questions.
use Rattle.std.specs.Prelude.{◌≡◌, ℕ, Bool, true, false, List, length, slice_index_or, ◌≤◌, IsTrue, ⊤, ◌+◌, if◌then◌else◌}
use Rattle.sabr_search.specs.questions.Task.{SearchTask, HasNodes, Takes}
use Rattle.sabr_search.specs.declared.bound.Bound.{Bound}
use Rattle.sabr_search.specs.questions.Bounded.{is_up_to, is_none}
use Rattle.sabr_search.specs.questions.FirstSteps.{Leads}
use Rattle.sabr_search.specs.layers.Picks.{IsBestWay}
use Rattle.sabr_search.specs.declared.found.Found.{Found}
use Rattle.sabr_search.specs.declared.found.FoundWay.{FoundWay}
use Rattle.sabr_search.specs.declared.found.Found.TheVariants.{Way, Beyond}

-- Questions that forbid fewer nodes than the one that is asked.

-- each node has a flag, the start is forbidden, and so is no node that is open in the search
pub record ForbidsFewer (task : SearchTask) (forbidden : List Bool) : Type 0 where
  pub many : length forbidden ≡ length task.forbidden
  pub start : slice_index_or forbidden task.start false ≡ true
  pub opens : (k : ℕ) → slice_index_or task.forbidden k false ≡ false → slice_index_or forbidden k false ≡ false

-- the same search, with these forbidden nodes and from this second on
abbrev pub narrowed : SearchTask → List Bool → ℕ → SearchTask
narrowed task forbidden at = record task { forbidden = forbidden; at = at }

-- the search starts no earlier, and each node that was forbidden is still forbidden
pub record Narrows (task : SearchTask) (forbidden : List Bool) (at : ℕ) : Type 0 where
  pub later : task.at ≤ at
  pub forbids : (k : ℕ) → slice_index_or forbidden k false ≡ false → slice_index_or task.forbidden k false ≡ false

-- no way of at most h hops leads to the goal
abbrev pub HasNoWayWithin : SearchTask → ℕ → Type 0
HasNoWayWithin task hops = (ns : List ℕ) (e : ℕ) → length ns ≤ hops → Leads (Takes task) task.start task.at ns task.goal e → ⊥

-- each way of at most h hops to the goal is above the bound
abbrev pub IsWayBeyond : SearchTask → ℕ → Bound → Type 0
IsWayBeyond task hops b = (ns : List ℕ) (e : ℕ) → length ns ≤ hops → Leads (Takes task) task.start task.at ns task.goal e → is_up_to b e (length ns) ≡ false

-- The best way stays the best if more nodes are forbidden, the search starts no earlier and no more hops are left. It
-- has to be one that may still be taken and delivers at the same second. If there was no way, there still is none. If
-- each way was above a bound, each is above every bound that is up to that.
pub record AnswersStay : Type 0 where
  pub least : (task : SearchTask) (forbidden : List Bool) (at hops fewer ceiling : ℕ) (s : List ℕ) (d : ℕ) → HasNodes task.plan task.table → Narrows task forbidden at → fewer ≤ hops
      → IsBestWay task hops ceiling s d → length s ≤ fewer → Leads (Takes (narrowed task forbidden at)) task.start at s task.goal d
      → IsBestWay (narrowed task forbidden at) fewer ceiling s d
  pub none : (task : SearchTask) (forbidden : List Bool) (at hops fewer : ℕ) → HasNodes task.plan task.table → Narrows task forbidden at → fewer ≤ hops
      → HasNoWayWithin task hops → HasNoWayWithin (narrowed task forbidden at) fewer
  pub beyond : (task : SearchTask) (forbidden : List Bool) (at hops fewer : ℕ) (b c : Bound) → HasNodes task.plan task.table → Narrows task forbidden at → fewer ≤ hops
      → IsTrue (is_up_to b c.delivery c.hops) → IsWayBeyond task hops b → IsWayBeyond (narrowed task forbidden at) fewer c

-- What a search for the best way finds.

-- it is the best way of at most `hops` hops, or each is above the bound
abbrev pub IsFound : {A : Type 0} → SearchTask → ℕ → Found (FoundWay A) → Type 0
IsFound task hops (Way way) = IsBestWay task hops (way.delivery + 1) way.numbers.items way.delivery
IsFound task hops (Beyond b) = IsWayBeyond task hops b

-- the same where the numbers of the way are these
abbrev pub IsFoundWith : SearchTask → ℕ → List ℕ → Found ℕ → Type 0
IsFoundWith task hops numbers (Way delivery) = IsBestWay task hops (delivery + 1) numbers delivery
IsFoundWith task hops numbers (Beyond b) = IsWayBeyond task hops b

-- it is a way, or all that is up to the bound asked for is up to what each way is above
abbrev pub IsEnough : {W : Type 0} → Bound → Found W → Type 0
IsEnough b (Way way) = ⊤
IsEnough b (Beyond own) = IsTrue (is_up_to own b.delivery b.hops)

-- the hops of the bound asked for, where each way is above a bound; 0 if there is no way
abbrev pub hops_above : Bound → Bound → ℕ
hops_above b own = if is_none own then 0 else b.hops

-- the hops of the way; or those of the bound asked for, where each way is above it; 0 if there is no way
abbrev pub found_hops : {A : Type 0} → Bound → Found (FoundWay A) → ℕ
found_hops b (Way way) = length way.numbers.items
found_hops b (Beyond own) = hops_above b own
