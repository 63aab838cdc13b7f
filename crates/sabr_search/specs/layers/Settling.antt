-- What a search by arrival keeps: the settled nodes, the waiting events, and the first delivery so far.
use Rattle.std.specs.Prelude.{ℕ, ◌≡◌, ◌≢◌, ◌+◌, ◌-◌, ◌≤◌, ◌<◌, min, List, length, Bool, true, false, All, Contains, slice_get, slice_index, slice_index_or}
use Rattle.sabr_search.specs.declared.visit.Visit.{Visit}
use Rattle.std.specs.List.{count_by}
use Rattle.std.specs.declared.option.Option.{Option}
use Rattle.std.specs.declared.option.Option.TheVariants.{Some, None}
use Rattle.sabr_search.specs.declared.found.Best.{Best}
use Rattle.sabr_search.specs.declared.forward.settling.Forward.{Forward}
use Rattle.sabr_search.specs.declared.forward.settling.Settling.{Settling}
use Rattle.sabr_index.specs.declared.link.Pass.{Pass}
use Rattle.sabr_search.specs.questions.Linked.{HasNumber}
use Rattle.sabr_search.specs.questions.FirstSteps.{Leads, IsNoneBefore}
use Rattle.sabr_search.specs.questions.Task.{SearchTask, Takes, never, latest_arrival}
use Rattle.sabr_search.specs.layers.Lists.{IsWayTo, IsFound, AreClosed, IsKnown}

-- by node a second before which no way comes there, or from which on none delivers before d, if that is sooner; nothing
-- is said of a node after the list's end
abbrev pub AreArrivalsBy : SearchTask → List ℕ → List ℕ → ℕ → Type 0
AreArrivalsBy task costs arrival d = (ns : List ℕ) (v t : ℕ) → 0 < length ns → Leads (Takes task) task.start task.at ns v t → min (slice_index arrival v) (d - slice_index costs v) ≤ t

-- by node a second from which on no way is at the goal before second `until`, as far as the list goes; and what a way
-- from there to the goal costs at the least, which no step lowers by more than its seconds
pub record IsBound (task : SearchTask) (until : ℕ) (deadline costs : List ℕ) : Type 0 where
  pub goal : until ≤ slice_index_or deadline task.goal never
  pub steps : (n u t w b : ℕ) → Takes task n u t w b → slice_index_or task.forbidden u false ≡ false → u ≢ task.goal → slice_index_or deadline u never ≤ t → slice_index_or deadline w never ≤ b
  pub there : slice_index costs task.goal ≡ 0
  pub since : task.request.at ≤ task.at
  pub lowers : (n u t w b : ℕ) → Takes task n u t w b → slice_index_or task.forbidden u false ≡ false → task.request.at ≤ t → t + slice_index costs u ≤ b + slice_index costs w

-- these are steps from the start
abbrev pub AreReal : SearchTask → List Visit → Type 0
AreReal task first = (k : ℕ) (s : Visit) → slice_get first k ≡ Some s → (n : ℕ) × Takes task n task.start task.at s.node s.at

-- a bundle that comes to a settled open node may be at the goal by second t, by what it costs at the least
abbrev pub AreSettledBy : SearchTask → List ℕ → List Bool → List ℕ → ℕ → Type 0
AreSettledBy task costs settled arrival t = (k : ℕ) → slice_index_or settled k false ≡ true → slice_index_or task.forbidden k false ≡ false → slice_index arrival k + slice_index costs k ≤ t

-- an event for node k at second t waits
abbrev pub IsWaiting : List Visit → ℕ → ℕ → Type 0
IsWaiting queue k t = (e : Visit) × Contains queue e × (e.node ≡ k) × (e.at ≡ t)

-- the number of settled nodes
abbrev pub settled_count : List Bool → ℕ
settled_count settled = count_by (λ b. b) settled

-- what the queue holds between two steps: an event's second is the arrival at its node and what the goal costs from
-- there
pub record IsQueue (task : SearchTask) (bounds costs : List ℕ) (settled : List Bool) (arrival : List ℕ) (queue : List Visit) : Type 0 where
  -- an open node that is reached before it is too late there, and not settled, waits with its arrival
  pub waits : (k : ℕ) → k < length arrival → slice_index_or task.forbidden k false ≡ false → slice_index_or settled k false ≡ false → slice_index arrival k < slice_index_or bounds k never → IsWaiting queue k (slice_index arrival k + slice_index costs k)
  -- no event is earlier than the arrival at its node
  pub reached : All (λ (e : Visit). slice_index arrival e.node + slice_index costs e.node ≤ e.at) queue
  -- no event comes when it is too late at its node
  pub before : All (λ (e : Visit). e.at < slice_index_or bounds e.node never + slice_index costs e.node) queue
  -- no event is earlier than a settled node
  pub order : All (λ (e : Visit). AreSettledBy task costs settled arrival e.at) queue
  -- an event is of an open node, and not of the goal
  pub inside : All (λ (e : Visit). e.node < length arrival) queue
  pub permitted : All (λ (e : Visit). slice_index_or task.forbidden e.node false ≡ false) queue
  pub other : All (λ (e : Visit). e.node ≢ task.goal) queue

-- by node the hops of a way with its arrival, no more than there are settled nodes, if it is an open node that is
-- reached before it is too late there
pub record AreHops (task : SearchTask) (deadline : List ℕ) (settled : List Bool) (arrival hops : List ℕ) : Type 0 where
  pub many : length hops ≡ length task.forbidden
  pub ways : (k : ℕ) → k < length arrival → slice_index_or task.forbidden k false ≡ false → slice_index arrival k < slice_index_or deadline k never → (slice_index hops k ≤ settled_count settled) × IsWayTo task k (slice_index hops k) (slice_index arrival k)

-- no open node's arrival is later than what is too late there
abbrev pub AreBy : SearchTask → List ℕ → List ℕ → Type 0
AreBy task deadline arrival = (k : ℕ) → slice_index_or task.forbidden k false ≡ false → slice_index arrival k ≤ slice_index_or deadline k never

-- what holds while the contacts of node u are taken, which is settled and reached at t
pub record AreSettling (task : SearchTask) (until : ℕ) (deadline costs : List ℕ) (settled : List Bool) (u t : ℕ) (arrival hops : List ℕ) (queue : List Visit) (best : Best) : Type 0 where
  pub on : slice_index_or settled u false ≡ true
  pub real : IsWayTo task u (slice_index hops u) t
  pub few : slice_index hops u < settled_count settled
  pub flags : length arrival ≡ length task.forbidden
  pub many : length settled ≡ length task.forbidden
  pub closed : AreClosed task.forbidden arrival t
  pub early : (n w b : ℕ) → Takes task n u t w b → AreSettledBy task costs settled arrival (b + slice_index costs w)
  pub lowered : AreBy task deadline arrival
  pub queue_is : IsQueue task deadline costs settled arrival queue
  pub hops_are : AreHops task deadline settled arrival hops
  pub found : IsFound task until (settled_count settled) best
  pub sooner : best.delivery ≤ latest_arrival + 1
  pub goal_late : best.delivery ≤ slice_index arrival task.goal

-- so it is with what a search keeps, while the contacts of an event's node are taken
abbrev pub StaySettling : {A : Type 0} → Forward A → List Bool → Visit → Settling A → Best → Type 0
StaySettling forward settled event s best = AreSettling forward.task.now forward.until forward.deadline.now forward.costs.now settled event.node event.at s.arrival.items s.hops.items s.queue best

-- what these passes bring from node u at t is known
abbrev pub IsKnownOver : SearchTask → List Pass → ℕ → ℕ → (costs arrival : List ℕ) → ℕ → Type 0
IsKnownOver task passes u t costs arrival best = (n w x : ℕ) → HasNumber passes n → Takes task n u t w x → IsKnown task.goal arrival (best - slice_index costs w) w x

-- what doesn't change or only falls when more contacts are taken
pub record IsFallen (settled : List Bool) (arrival0 : List ℕ) (best0 : Best) (arrival : List ℕ) (best : Best) : Type 0 where
  pub lower : best.delivery ≤ best0.delivery
  pub lowered : (k : ℕ) → slice_index arrival k ≤ slice_index arrival0 k
  pub kept : (k : ℕ) → slice_index_or settled k false ≡ true → slice_index arrival k ≡ slice_index arrival0 k

-- what the contacts of the settled nodes bring is known
abbrev pub AreSettledTaken : SearchTask → List ℕ → List Bool → List ℕ → ℕ → Type 0
AreSettledTaken task costs settled arrival best =
    (v n w b : ℕ) → slice_index_or settled v false ≡ true → Takes task n v (slice_index arrival v) w b → IsKnown task.goal arrival (best - slice_index costs w) w b

-- what holds between two events
pub record AreSettled (task : SearchTask) (until : ℕ) (deadline costs : List ℕ) (settled : List Bool) (arrival hops : List ℕ) (queue : List Visit) (best : Best) : Type 0 where
  pub flags : length arrival ≡ length task.forbidden
  pub many : length settled ≡ length task.forbidden
  pub start_settled : slice_index_or settled task.start false ≡ true
  pub start_reached : slice_index arrival task.start ≡ task.at
  pub goal_unsettled : slice_index_or settled task.goal false ≡ false
  pub closed : AreClosed task.forbidden arrival task.at
  pub lowered : AreBy task deadline arrival
  pub queue_is : IsQueue task deadline costs settled arrival queue
  pub hops_are : AreHops task deadline settled arrival hops
  pub found : IsFound task until (settled_count settled) best
  pub sooner : best.delivery ≤ latest_arrival + 1
  pub goal_late : best.delivery ≤ slice_index arrival task.goal
  pub taken : AreSettledTaken task costs settled arrival best.delivery

-- so it is with what a search keeps
abbrev pub StaySettled : {A : Type 0} → Forward A → Settling A → Best → Type 0
StaySettled forward s best = AreSettled forward.task.now forward.until forward.deadline.now forward.costs.now s.settled.items s.arrival.items s.hops.items s.queue best

-- what a search before second `until` found: no way to the goal comes before the delivery, and some way comes then with
-- that number of hops, fewer than there are nodes
pub record IsFirstWay (task : SearchTask) (until : ℕ) (best : Best) : Type 0 where
  pub least : IsNoneBefore task best.delivery
  pub positive : 0 < best.hops
  pub sooner : best.delivery < until
  pub some : IsWayTo task task.goal best.hops best.delivery
  pub early : best.delivery ≤ latest_arrival
  pub few : best.hops < length task.table

-- it found such a way, and the arrivals are by its delivery; or no way delivers before second `until`, and the arrivals
-- are by that
abbrev pub IsReached : SearchTask → (until : ℕ) → (costs arrival : List ℕ) → Option Best → Type 0
IsReached task until costs arrival (Some best) = IsFirstWay task until best × AreArrivalsBy task costs arrival best.delivery
IsReached task until costs arrival None = IsNoneBefore task until × AreArrivalsBy task costs arrival until
