-- Deadlines of layers that were made backward: the first second that is too late for the rest of a way.
use Rattle.std.specs.Prelude.{◌≡◌, ℕ, ◌+◌, ◌-◌, ◌≤◌, ◌<◌, ◌==◌, if◌then◌else◌, min, List, length, slice_get, slice_index}
use Rattle.std.specs.declared.option.Option.TheVariants.{Some}
use Rattle.sabr_search.specs.declared.backward.deadlines.Deadline.{Deadline}
use Rattle.sabr_search.specs.declared.backward.deadlines.Deadlines.{Deadlines}

-- layer h has an entry for node v with second a
abbrev pub Entries : Type 1
Entries = ℕ → ℕ → ℕ → Type 0

-- the layer of h hops has an entry for node v with deadline x
abbrev pub HasDeadline : List ℕ → List Deadline → Entries
HasDeadline ends entries h v x = (p : ℕ) × (slice_index ends h ≤ p) × (p < slice_index ends (h + 1)) × (slice_get entries p ≡ Some (record { node = v; before = x }))

-- a bundle at node u at second t is in time for its entry in a layer of at most that many hops
abbrev pub IsInTimeWithin : List ℕ → List Deadline → ℕ → ℕ → ℕ → Type 0
IsInTimeWithin ends entries hops u t = (i : ℕ) × (x : ℕ) × (i ≤ hops) × HasDeadline ends entries i u x × (t < x)

-- the layer of that many hops has each node once
abbrev pub IsApart : List ℕ → List Deadline → ℕ → Type 0
IsApart ends entries hops =
    (p q : ℕ) (e f : Deadline) → slice_index ends hops ≤ p → slice_index ends hops ≤ q → p < slice_index ends (hops + 1) → q < slice_index ends (hops + 1) → slice_get entries p ≡ Some e → slice_get entries q ≡ Some f → e.node ≡ f.node → p ≡ q

-- the entry at place p is of node v
abbrev pub IsOf : List Deadline → ℕ → ℕ → Type 0
IsOf entries p v = (x : ℕ) × (slice_get entries p ≡ Some (record { node = v; before = x }))

-- the place after the last entry of node v before `end`; 0 if there is none
pub record IsLastBelow (entries : List Deadline) (v end place : ℕ) : Type 0 where
  pub within : place ≤ end
  pub entry : 0 < place → IsOf entries (place - 1) v
  pub none : (p : ℕ) → place ≤ p → p < end → IsOf entries p v → ⊥

-- by entry the place after the one of its node before it
pub record AreLinked (entries : List Deadline) (fewer : List ℕ) : Type 0 where
  pub many : length fewer ≡ length entries
  pub each : (p v : ℕ) → IsOf entries p v → IsLastBelow entries v p (slice_index fewer p)

-- the place after the last entry of node v; 0 if it has none
abbrev pub head_of : List ℕ → List ℕ → ℕ → ℕ
head_of deadline place v = if slice_index deadline v == 0 then 0 else slice_index place v + 1

-- by node its last entry, and by entry the one of its node before it, which is too late sooner
pub record AreChained {A : Type 0} (s : Deadlines A) : Type 0 where
  pub many : length s.deadline.items ≡ length s.place.items
  pub linked : AreLinked s.entries.items s.fewer.items
  pub last : (v : ℕ) → v < length s.place.items → IsLastBelow s.entries.items v (length s.entries.items) (head_of s.deadline.items s.place.items v)
  pub later : (p q : ℕ) (e f : Deadline) → p < q → slice_get s.entries.items p ≡ Some e → slice_get s.entries.items q ≡ Some f → e.node ≡ f.node → e.before < f.before
  pub by : (p : ℕ) (e : Deadline) → slice_get s.entries.items p ≡ Some e → e.before ≤ slice_index s.deadline.items e.node

-- no entry of node v before `end` may be left at this second or later
abbrev pub IsLatestWithin : List Deadline → ℕ → ℕ → ℕ → Type 0
IsLatestWithin entries v end before = (p : ℕ) (e : Deadline) → p < end → slice_get entries p ≡ Some e → e.node ≡ v → e.before ≤ before

-- where the entries of at most that many hops end
abbrev pub end_within : List ℕ → ℕ → ℕ
end_within ends hops = slice_index ends (min (length ends - 1) (hops + 1))
