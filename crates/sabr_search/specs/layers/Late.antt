-- Layers made backward from the goal: for each node, the first second that is too late so far; and the entries, layer
-- by layer, the goal's first.
use Rattle.std.specs.Prelude.{ℕ, ◌-◌, List, slice_index, ◌≡◌, ◌≢◌, ◌⊎◌, ◌+◌, ◌≤◌, ◌<◌, [], ◌∷◌, ◌++◌, take, length, false, slice_get, slice_set, slice_index_or}
use Rattle.std.specs.declared.option.Option.TheVariants.{Some}
use Rattle.sabr_search.specs.declared.backward.deadlines.Deadline.{Deadline}
use Rattle.sabr_search.specs.declared.backward.deadlines.Deadlines.{Deadlines}
use Rattle.sabr_search.specs.declared.backward.from_goal.Aim.{Aim}
use Rattle.sabr_search.specs.layers.Deadlines.{AreLinked, Entries}
use Rattle.sabr_search.specs.questions.FirstSteps.{Leads}
use Rattle.sabr_search.specs.questions.Task.{SearchTask, IsTask, Takes}
use Rattle.sabr_search.specs.questions.Linked.{IsLinkWithin, HasNumber}
use Rattle.sabr_index.specs.declared.link.Pass.{Pass}
use Rattle.sabr_index.specs.declared.link.SenderHead.{SenderHead}

-- by node a second before which no way comes there; 0 after the list's end
abbrev pub AreSince : SearchTask → List ℕ → Type 0
AreSince task since = (ns : List ℕ) (v t : ℕ) → 0 < length ns → Leads (Takes task) task.start task.at ns v t → slice_index since v ≤ t

-- so for each node of the table
pub record AreArrivals (task : SearchTask) (since : List ℕ) : Type 0 where
  pub flags : length since ≡ length task.table
  pub least : AreSince task since

-- a bundle at node w at second b is in time for an entry at the places from `first` to before `begin`
abbrev pub InTimeFor : List Deadline → ℕ → ℕ → ℕ → ℕ → Type 0
InTimeFor entries first begin w b = (p : ℕ) × (e : Deadline) × (first ≤ p) × (p < begin) × (slice_get entries p ≡ Some e) × (e.node ≡ w) × (b < e.before)

-- so is what is at a node before a second, for an entry of layer `left`
abbrev pub IsInLayer : {A : Type 0} → ℕ → Deadlines A → Deadline → Type 0
IsInLayer left s to = (b : ℕ) → b < to.before → InTimeFor s.entries.items (slice_index s.ends.items left) (slice_index s.ends.items (left + 1)) to.node b

-- an entry after the goal's: of another open node
pub record IsLateEntry (task : SearchTask) (e : Deadline) : Type 0 where
  pub inside : e.node < length task.table
  pub permitted : slice_index_or task.forbidden e.node false ≡ false
  pub other : e.node ≢ task.goal
  pub some : 0 < e.before

-- the lists while the layer that begins at `begin` is made from the entries from `first` on
pub record AreLate (task : SearchTask) (first begin : ℕ) (deadline place : List ℕ) (entries : List Deadline) : Type 0 where
  pub flags : length place ≡ length task.table
  pub many : length deadline ≡ length task.table
  pub later : 0 < begin
  pub begins : begin ≤ length entries
  pub top : (v : ℕ) → v < length task.table → 0 < slice_index deadline v → slice_get entries (slice_index place v) ≡ Some (record { node = v; before = slice_index deadline v })
  pub goal : (e : Deadline) → slice_get entries 0 ≡ Some e → (e.node ≡ task.goal) × (0 < e.before)
  pub each : (p : ℕ) (e : Deadline) → 0 < p → slice_get entries p ≡ Some e → IsLateEntry task e
  pub by : (p : ℕ) (e : Deadline) → slice_get entries p ≡ Some e → e.before ≤ slice_index deadline e.node
  pub rising : (p q : ℕ) (e f : Deadline) → 0 < p → p < q → slice_get entries p ≡ Some e → slice_get entries q ≡ Some f → e.node ≡ f.node → e.before < f.before
  pub once : (p : ℕ) (e : Deadline) → begin ≤ p → slice_get entries p ≡ Some e → slice_index place e.node ≡ p
  pub sound : (p : ℕ) (e : Deadline) (t : ℕ) → begin ≤ p → slice_get entries p ≡ Some e → t < e.before → (n : ℕ) × (w : ℕ) × (b : ℕ) × Takes task n e.node t w b × InTimeFor entries first begin w b

-- layers while the one after layer `left` grows
pub record AreGrowing {A : Type 0} (aim : Aim A) (left : ℕ) (s : Deadlines A) : Type 0 where
  pub task : IsTask aim.task.now
  pub arrivals : length aim.since.now ≡ length aim.task.now.table
  pub bounded : left + 1 < length s.ends.items
  pub lists : AreLate aim.task.now (slice_index s.ends.items left) (slice_index s.ends.items (left + 1)) s.deadline.items s.place.items s.entries.items
  pub linked : AreLinked s.entries.items s.fewer.items

-- the layer after layer `left` has grown: the ends of layers stay, and so do the entries before it; no node is too late
-- sooner than before
pub record AreGrown {A : Type 0} (aim : Aim A) (left : ℕ) (s t : Deadlines A) : Type 0 where
  pub growing : AreGrowing aim left t
  pub rises : (k : ℕ) → slice_index s.deadline.items k ≤ slice_index t.deadline.items k
  pub ends : t.ends ≡ s.ends
  pub before : take (slice_index s.ends.items (left + 1)) t.entries.items ≡ take (slice_index s.ends.items (left + 1)) s.entries.items

-- node u is too late from x on: its entry in the layer that begins at `begin` says so, or a new one does; the place
-- after its last one is `head`
abbrev pub IsNotedDeadline : {A : Type 0} → ℕ → ℕ → ℕ → ℕ → Deadlines A → Deadlines A → Type 0
IsNotedDeadline head begin u x s t =
    ((begin < head) × (t.place.items ≡ s.place.items) × (t.entries.items ≡ slice_set s.entries.items (head - 1) (record { node = u; before = x })) × (t.fewer.items ≡ s.fewer.items))
    ⊎ ((head ≤ begin) × (t.place.items ≡ slice_set s.place.items u (length s.entries.items)) × (t.entries.items ≡ s.entries.items ++ record { node = u; before = x } ∷ []) × (t.fewer.items ≡ s.fewer.items ++ head ∷ []))

-- what a step from node u at t leaves, if it leads to where there still is time: u is not too late
abbrev pub IsLeftInTime : SearchTask → List ℕ → List ℕ → ℕ → ℕ → Type 0
IsLeftInTime task since deadline u t = slice_index_or task.forbidden u false ≡ false → u ≢ task.goal → slice_index since u ≤ t → t < slice_index deadline u

-- so it is for each step over these passes from node u that arrives before a second
abbrev pub AreLeftInTimeOver : SearchTask → List ℕ → List ℕ → ℕ → List Pass → ℕ → Type 0
AreLeftInTimeOver task since deadline u passes before = (n t w b : ℕ) → HasNumber passes n → Takes task n u t w b → b < before → IsLeftInTime task since deadline u t

-- so it is for each step over a link with this head that arrives before a second
abbrev pub AreLeftInTimeByHead : SearchTask → List ℕ → List ℕ → SenderHead → ℕ → Type 0
AreLeftInTimeByHead task since deadline head before =
    (to : ℕ) (passes : List Pass) → IsLinkWithin task head.node to passes head.bounds → AreLeftInTimeOver task since deadline head.node passes before

-- so it is for each step that comes to a node before its deadline
abbrev pub AreLeftInTimeTo : SearchTask → List ℕ → List ℕ → Deadline → Type 0
AreLeftInTimeTo task since deadline to = (n u t b : ℕ) → Takes task n u t to.node b → b < to.before → IsLeftInTime task since deadline u t

-- that holds for each step to an entry at the places from `first` to before `begin`
abbrev pub AreLeftInTimeFrom : SearchTask → List ℕ → List Deadline → ℕ → ℕ → List ℕ → Type 0
AreLeftInTimeFrom task since entries first begin deadline = (p : ℕ) (e : Deadline) (n u t b : ℕ) → first ≤ p → p < begin → slice_get entries p ≡ Some e → Takes task n u t e.node b → b < e.before → IsLeftInTime task since deadline u t

-- the same by the layers up to the one after j
abbrev pub IsLeftInTimeBy : SearchTask → List ℕ → Entries → ℕ → ℕ → ℕ → Type 0
IsLeftInTimeBy task since E j u t = slice_index_or task.forbidden u false ≡ false → u ≢ task.goal → slice_index since u ≤ t → (i : ℕ) × (x : ℕ) × (i ≤ j + 1) × E i u x × (t < x)

-- no way of at most that many hops leads to the goal before second d
abbrev pub IsNoneSooner : SearchTask → ℕ → ℕ → Type 0
IsNoneSooner task hops d = (ns : List ℕ) (e : ℕ) → length ns ≤ hops → Leads (Takes task) task.start task.at ns task.goal e → d ≤ e

-- some way of at most that many hops leads to the goal at second d
abbrev pub HasWayAt : SearchTask → ℕ → ℕ → Type 0
HasWayAt task hops d = (ns : List ℕ) × (length ns ≤ hops) × Leads (Takes task) task.start task.at ns task.goal d

-- no way of at most that many hops leads to the goal by second d
abbrev pub IsNoneWithin : SearchTask → ℕ → ℕ → Type 0
IsNoneWithin task hops d = (ns : List ℕ) (e : ℕ) → length ns ≤ hops → Leads (Takes task) task.start task.at ns task.goal e → d < e
