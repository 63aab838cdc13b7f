-- For each node, a second from which on it is too late there: from the goal backward over the whole graph, by relaxing
-- links.
use Rattle.std.specs.Prelude.{◌≡◌, ◌≢◌, ℕ, ◌+◌, ◌-◌, ◌≤◌, ◌<◌, List, [], ◌∷◌, false, true, length, replicate, slice_set, Contains, All, slice_get, slice_index, slice_index_or}
use Rattle.std.specs.List.Sorted.{IsPermutation}
use Rattle.std.specs.declared.option.Option.TheVariants.{Some}
use Rattle.sabr_index.specs.Links.{SentLink}
use Rattle.sabr_index.specs.declared.link.Pass.{Pass}
use Rattle.sabr_search.specs.declared.backward.deadlines.Deadline.{Deadline}
use Rattle.sabr_search.specs.declared.backward.relaxation.Backward.{Backward}
use Rattle.sabr_search.specs.declared.backward.relaxation.Relaxation.{Relaxation}
use Rattle.sabr_search.specs.declared.backward.relaxation.Rule.{Rule}
use Rattle.sabr_search.specs.declared.backward.relaxation.Rule.TheVariants.{Passes, Bounds}
use Rattle.sabr_search.specs.declared.visit.Visit.{Visit}
use Rattle.sabr_search.specs.questions.Linked.{HasNumber}
use Rattle.sabr_search.specs.questions.Task.{SearchTask, IsTask, Takes, is_forbidden}

-- the whole graph: no node is forbidden but the source and those to avoid, and no number is excluded
pub record IsWholeGraph (task : SearchTask) : Type 0 where
  pub is : IsTask task
  pub goal_is : slice_get task.table task.goal ≡ Some task.request.destination
  pub forbids : (k x : ℕ) → slice_get task.table k ≡ Some x → slice_index_or task.forbidden k false ≡ is_forbidden task.plan task.request [] x
  pub free : task.excluded ≡ []

-- the last second of an event
abbrev pub last_at : ℕ
last_at = 1099511627775

-- a step that leaves at t and arrives at b, where it is too late from `before` on, left before `second`; by the bounds of
-- links, one that leaves when the request begins or later takes at least the seconds between these two
abbrev pub IsLeftBy : Rule → (since second before t b : ℕ) → Type 0
IsLeftBy Passes since second before t b = b < before → t < second
IsLeftBy Bounds since second before t b = since ≤ t → before + t ≤ second + b

-- so it is for each step over these passes from node u to node w, if u is open and isn't the goal
abbrev pub AreLeftOver : Rule → SearchTask → (u : ℕ) → List Pass → (w second before : ℕ) → Type 0
AreLeftOver rule task u passes w second before =
    (n t b : ℕ) → HasNumber passes n → Takes task n u t w b → slice_index_or task.forbidden u false ≡ false → u ≢ task.goal → IsLeftBy rule task.request.at second before t b

-- so it is for the link at a place among those to a node
abbrev pub IsReachedBy : Rule → SearchTask → List SentLink → (place : ℕ) → Deadline → (second : ℕ) → Type 0
IsReachedBy rule task senders place to second = (s : SentLink) → slice_get senders place ≡ Some s → AreLeftOver rule task s.sender s.passes to.node second to.before

-- so it is for each step to node w, by the seconds of its nodes: the links to w are relaxed
abbrev pub IsRelaxed : Rule → SearchTask → List ℕ → ℕ → Type 0
IsRelaxed rule task seconds w =
    (n u t b : ℕ) → Takes task n u t w b → slice_index_or task.forbidden u false ≡ false → u ≢ task.goal → IsLeftBy rule task.request.at (slice_index seconds u) (slice_index seconds w) t b

-- at first the goal alone waits, and it is too late there from `until` on
pub record IsBegun {A : Type 0} (task : SearchTask) (until : ℕ) (s : Relaxation A) : Type 0 where
  pub seconds_are : s.seconds.items ≡ slice_set (replicate (length task.forbidden) 0) task.goal until
  pub hops_many : length s.hops.items ≡ length task.forbidden
  pub relaxed_is : s.relaxed.items ≡ replicate (length task.forbidden) false
  pub waits : IsPermutation (record { at = 0; node = task.goal } ∷ []) s.queue

-- the second of a node has risen, and the node waits
pub record IsRaised {A : Type 0} (node second : ℕ) (s t : Relaxation A) : Type 0 where
  pub seconds_are : t.seconds.items ≡ slice_set s.seconds.items node second
  pub hops_many : length t.hops.items ≡ length s.hops.items
  pub relaxed_is : t.relaxed.items ≡ slice_set s.relaxed.items node false
  pub waits : IsPermutation (record { at = last_at - second; node = node } ∷ s.queue) t.queue

-- the seconds while the links to node `now` are relaxed: those to each other node are, or it waits
pub record AreRelaxing {A : Type 0} (backward : Backward A) (s : Relaxation A) (now : ℕ) : Type 0 where
  pub many : length s.seconds.items ≡ length backward.task.now.table
  pub hops_many : length s.hops.items ≡ length backward.task.now.table
  pub flags : length s.relaxed.items ≡ length backward.task.now.table
  pub inside : All (λ (e : Visit). e.node < length backward.task.now.table) s.queue
  pub waits : (w : ℕ) → w < length backward.task.now.table → slice_index_or s.relaxed.items w false ≡ false → 0 < slice_index s.seconds.items w → (e : Visit) × Contains s.queue e × (e.node ≡ w)
  pub over : (w : ℕ) → w ≢ now → slice_index_or s.relaxed.items w false ≡ true → IsRelaxed backward.rule backward.task.now s.seconds.items w

-- in the end the links to each node that may be left in time are relaxed
pub record AreAllRelaxed (rule : Rule) (task : SearchTask) (seconds : List ℕ) : Type 0 where
  pub many : length seconds ≡ length task.table
  pub over : (w : ℕ) → w < length task.table → 0 < slice_index seconds w → IsRelaxed rule task seconds w
