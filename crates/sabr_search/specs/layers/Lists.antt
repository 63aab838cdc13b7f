-- The lists that keep hop layers: for each node the earliest arrival so far and the place of an entry, and the entries;
-- and what layers that were made show.
use Rattle.std.specs.Prelude.{◌≡◌, ◌≢◌, ℕ, ◌≤◌, ◌<◌, ◌⊎◌, List, length, take, Bool, true, false, slice_get, slice_index, slice_index_or}
use Rattle.sabr_search.specs.declared.visit.Visit.{Visit}
use Rattle.sabr_search.specs.declared.forward.layers.Layers.{Layers}
use Rattle.std.specs.declared.option.Option.TheVariants.{Some, None}
use Rattle.sabr_search.specs.questions.Task.{SearchTask, Takes, never, latest_arrival}
use Rattle.std.specs.declared.option.Option.{Option}
use Rattle.sabr_search.specs.declared.found.Best.{Best}
use Rattle.sabr_search.specs.questions.FirstSteps.{Leads}
use Rattle.sabr_search.specs.layers.Late.{IsNoneSooner}

-- `place` names an entry of each node, or 0
pub record IsPlaced (place : List ℕ) (reached : List Visit) : Type 0 where
  pub within : (k : ℕ) → k < length place → slice_index place k < length reached
  pub own : (k : ℕ) (d : Visit) → k < length place → 0 < slice_index place k → (slice_index_or reached (slice_index place k) d).node ≡ k

-- an open node that is reached has an entry with its arrival, which `place` names
pub record IsLinked (forbidden : List Bool) (arrival place : List ℕ) (reached : List Visit) : Type 0 where
  pub as_many : length place ≡ length arrival
  pub node : (k : ℕ) (d : Visit) → k < length arrival → slice_index_or forbidden k false ≡ false → slice_index arrival k < never → (slice_index_or reached (slice_index place k) d).node ≡ k
  pub time : (k : ℕ) (d : Visit) → k < length arrival → slice_index_or forbidden k false ≡ false → slice_index arrival k < never → (slice_index_or reached (slice_index place k) d).at ≡ slice_index arrival k

-- for any forbidden nodes, the open ones that are reached still have such entries
abbrev pub StayLinked : {A : Type 0} → Layers A → Layers A → Type 0
StayLinked old new = (forbidden : List Bool) → IsLinked forbidden old.arrival.items old.place.items old.reached.items → IsLinked forbidden new.arrival.items new.place.items new.reached.items

-- the layer that begins at `begin` has each node once
pub record IsLayer (begin : ℕ) (place : List ℕ) (reached : List Visit) : Type 0 where
  pub begins : begin ≤ length reached
  pub once : (p : ℕ) (d : Visit) → begin ≤ p → p < length reached → slice_index place (slice_index_or reached p d).node ≡ p

-- nothing that arrives at t or later improves a forbidden node
abbrev pub AreClosed : List Bool → List ℕ → ℕ → Type 0
AreClosed forbidden arrival t = (k : ℕ) → slice_index_or forbidden k false ≡ true → slice_index arrival k ≤ t

-- a relation that says which node is brought to by which second
abbrev pub Arrivals : Type 1
Arrivals = ℕ → ℕ → Type 0

-- each entry of ys is the one of xs at its place, or one that is given
abbrev pub AddsGiven : List Visit → List Visit → Arrivals → Type 0
AddsGiven xs ys Given = (p : ℕ) (d : Visit) → p < length ys →
    ((p < length xs) × (slice_index_or ys p d ≡ slice_index_or xs p d)) ⊎ Given (slice_index_or ys p d).node (slice_index_or ys p d).at

-- what the lists are between two steps of a search, in the layer that begins at `begin`
pub record AreLists (forbidden : List Bool) (goal at begin : ℕ) (arrival place : List ℕ) (reached : List Visit) : Type 0 where
  pub flags : length arrival ≡ length forbidden
  pub closed : AreClosed forbidden arrival at
  pub placed : IsPlaced place reached
  pub linked : IsLinked forbidden arrival place reached
  pub layer : IsLayer begin place reached
  pub inside : (p : ℕ) (d : Visit) → p < length reached → (slice_index_or reached p d).node < length forbidden
  pub other : (p : ℕ) (d : Visit) → p < length reached → (slice_index_or reached p d).node ≢ goal
  pub by : (p : ℕ) (d : Visit) → p < length reached → slice_index arrival (slice_index_or reached p d).node ≤ (slice_index_or reached p d).at

-- what holds after more steps were taken: arrivals and the best delivery only fall, by what is given, and what came
-- before the layer stays
pub record IsLowered (forbidden : List Bool) (goal at begin : ℕ) (Given : Arrivals) (arrival0 : List ℕ) (reached0 : List Visit) (best0 : ℕ) (arrival place : List ℕ) (reached : List Visit) (best : ℕ) : Type 0 where
  pub lists : AreLists forbidden goal at begin arrival place reached
  pub lower : best ≤ best0
  pub lowered : (k : ℕ) → slice_index arrival k ≤ slice_index arrival0 k
  pub before : take begin reached ≡ take begin reached0
  pub adds : AddsGiven reached0 reached Given
  pub found : (best ≡ best0) ⊎ Given goal best

-- so it is for the layers of a search
abbrev pub AreLowered : {A : Type 0} → SearchTask → ℕ → Arrivals → Layers A → ℕ → Layers A → ℕ → Type 0
AreLowered task begin Given old best0 new best = IsLowered task.forbidden task.goal task.at begin Given old.arrival.items old.reached.items best0 new.arrival.items new.place.items new.reached.items best

-- what arrives at node w at b is no news: it comes no earlier than the best delivery, or the node is reached by then
abbrev pub IsKnown : ℕ → List ℕ → ℕ → ℕ → ℕ → Type 0
IsKnown goal arrival best w b = (best ≤ b) ⊎ ((w ≢ goal) × (slice_index arrival w ≤ b))

-- the entries from `first` to before `begin` are of different nodes, and none is reached before the search begins or
-- after every arrival
pub record AreSources (task : SearchTask) (reached : List Visit) (first begin : ℕ) : Type 0 where
  pub inside : (p : ℕ) (e : Visit) → slice_get reached p ≡ Some e → e.node < length task.table
  pub since : (p : ℕ) (e : Visit) → slice_get reached p ≡ Some e → task.at ≤ e.at
  pub early : (p : ℕ) (e : Visit) → slice_get reached p ≡ Some e → e.at ≤ latest_arrival
  pub apart : (p q : ℕ) (e f : Visit) → first ≤ p → first ≤ q → p < begin → q < begin → slice_get reached p ≡ Some e → slice_get reached q ≡ Some f → e.node ≡ f.node → p ≡ q

-- a contact that is taken at node u at t arrives there then
abbrev pub GivenAt : SearchTask → ℕ → ℕ → Arrivals
GivenAt task u t w x = (n : ℕ) × Takes task n u t w x

-- a contact of an entry from `first` to before `begin` arrives there then
abbrev pub GivenFrom : SearchTask → List Visit → ℕ → ℕ → Arrivals
GivenFrom task reached first begin w x = (p : ℕ) × (e : Visit) × (n : ℕ) × (first ≤ p) × (p < begin) × (slice_get reached p ≡ Some e) × Takes task n e.node e.at w x

-- what the contacts of these entries bring is known
abbrev pub IsKnownFrom : SearchTask → List Visit → ℕ → ℕ → List ℕ → ℕ → Type 0
IsKnownFrom task reached first begin arrival best = (p : ℕ) (e : Visit) (n w x : ℕ) → first ≤ p → p < begin → slice_get reached p ≡ Some e → Takes task n e.node e.at w x → IsKnown task.goal arrival best w x

-- some contact that is taken at an open node at its arrival leads to the goal then
abbrev pub IsBroughtTo : SearchTask → List ℕ → ℕ → Type 0
IsBroughtTo task arrival b = (u : ℕ) × (n : ℕ) × (slice_index_or task.forbidden u false ≡ false) × Takes task n u (slice_index arrival u) task.goal b

-- Hop layers while they are made: the layers as entries, and what holds once some are made.

-- nothing is reached but the start; an open node is as if it were reached when it is too late there
pub record AreOpened (task : SearchTask) (deadline arrival : List ℕ) : Type 0 where
  pub flags : length arrival ≡ length task.forbidden
  pub closed : AreClosed task.forbidden arrival task.at
  pub start : slice_index arrival task.start ≡ task.at
  pub unreached : (k : ℕ) → k < length arrival → slice_index_or task.forbidden k false ≡ false → slice_index arrival k ≡ slice_index_or deadline k never

-- what a search for a delivery before second `until` found if it ends with this best: this, if it is before that
abbrev pub IsFoundBest : (until : ℕ) → Best → Option Best → Type 0
IsFoundBest until best (Some found) = (found ≡ best) × (best.delivery < until)
IsFoundBest until best None = until ≤ best.delivery

-- some way of h hops leads from the start to node v at second t
abbrev pub IsWayTo : SearchTask → ℕ → ℕ → ℕ → Type 0
IsWayTo task v h t = (ns : List ℕ) × (length ns ≡ h) × Leads (Takes task) task.start task.at ns v t

-- a delivery before second `until` is found within that many hops
abbrev pub IsFoundWithin : SearchTask → ℕ → ℕ → Best → Type 0
IsFoundWithin task until hop best = (0 < best.hops) × (best.hops ≤ hop) × (best.delivery < until) × IsWayTo task task.goal best.hops best.delivery

-- no delivery is found before second `until`, or one within that many hops
abbrev pub IsFound : SearchTask → ℕ → ℕ → Best → Type 0
IsFound task until hop best = (best.delivery ≡ until) ⊎ IsFoundWithin task until hop best

-- the earliest delivery within that many hops, and the hops of a way with it
pub record IsBestWithin (task : SearchTask) (until hops : ℕ) (best : Best) : Type 0 where
  pub least : IsNoneSooner task hops best.delivery
  pub found : IsFoundWithin task until hops best

-- what layers forward for a delivery before second `until` within that many hops find: the earliest, or that there is
-- none
abbrev pub IsMade : SearchTask → (until hops : ℕ) → Option Best → Type 0
IsMade task until hops (Some best) = IsBestWithin task until hops best
IsMade task until hops None = IsNoneSooner task hops until
