-- The node with the best route, found as in a tournament: slot k names the winner among node k and the winners of slots
-- 2k + 1 and 2k + 2.
use Rattle.std.specs.Prelude.{slice_get, ◌≡◌, ◌≢◌, ℕ, ◌+◌, ◌*◌, ◌-◌, ◌/◌, ◌<◌, ◌≤◌, ◌⊎◌, zero, suc, Bool, true, false, get_or, length, List, Option, Some, None}
use Rattle.std.specs.Option.{option_and_then}
use Rattle.std.specs.Ordering.{is_lt}
use Rattle.sabr_model.specs.routes.Record.{RouteRecord, by_record}
use Rattle.sabr_frontier.specs.declared.tree.NodeId.{NodeId}
use Rattle.sabr_frontier.specs.declared.tree.Node.{Node}

-- what a node carries
abbrev pub route_of : {A : Type 0} → Node A → Option RouteRecord
route_of n = n.route

abbrev pub route_at : {A : Type 0} → List (Node A) → NodeId → Option RouteRecord
route_at nodes id = option_and_then route_of (slice_get nodes id.0)

-- no node carries a lesser route
abbrev pub IsBestOf : {A : Type 0} → List (Node A) → RouteRecord → Type 0
IsBestOf nodes x = (id : NodeId) (y : RouteRecord) → route_at nodes id ≡ Some y → is_lt (by_record y x) ≡ false

-- the node carries this route, the least
pub record IsFirst {A : Type 0} (nodes : List (Node A)) (id : NodeId) (x : RouteRecord) : Type 0 where
  pub carries : route_at nodes id ≡ Some x
  pub least : IsBestOf nodes x

-- some node carries a route, and this is the least
abbrev pub IsNext : {A : Type 0} → List (Node A) → RouteRecord → Type 0
IsNext nodes x = (id : NodeId) × IsFirst nodes id x

abbrev pub CarriesSome : {A : Type 0} → List (Node A) → Type 0
CarriesSome nodes = (x : RouteRecord) × IsNext nodes x

abbrev pub CarriesNone : {A : Type 0} → List (Node A) → Type 0
CarriesNone nodes = (id : NodeId) → route_at nodes id ≡ None

-- the node that a slot names
abbrev pub winner_at : List NodeId → ℕ → NodeId
winner_at ids k = get_or ids k (record { 0 = 0 })

-- the first is there and less than the second, or the second isn't there
abbrev pub is_lesser : Option RouteRecord → Option RouteRecord → Bool
is_lesser None o = false
is_lesser (Some x) None = true
is_lesser (Some x) (Some y) = is_lt (by_record x y)

-- the second isn't there, or isn't less than the first
abbrev pub IsNoGreater : Option RouteRecord → Option RouteRecord → Type 0
IsNoGreater o p = is_lesser p o ≡ false

-- w is one of both, and carries a route that is no greater than either's
pub record IsLesser {A : Type 0} (nodes : List (Node A)) (a b w : NodeId) : Type 0 where
  pub first : IsNoGreater (route_at nodes w) (route_at nodes a)
  pub second : IsNoGreater (route_at nodes w) (route_at nodes b)
  pub one : (w ≡ a) ⊎ (w ≡ b)

-- w can be the winner of slot k
pub record IsWinner {A : Type 0} (nodes : List (Node A)) (ids : List NodeId) (k : ℕ) (w : NodeId) : Type 0 where
  pub own : IsNoGreater (route_at nodes w) (route_at nodes (record { 0 = k }))
  pub over : (c : ℕ) → k * 2 + 1 ≤ c → c ≤ k * 2 + 2 → c < length ids → IsNoGreater (route_at nodes w) (route_at nodes (winner_at ids c))
  pub from : (w ≡ record { 0 = k }) ⊎ ((c : ℕ) × (k * 2 + 1 ≤ c) × (c ≤ k * 2 + 2) × (c < length ids) × (w ≡ winner_at ids c))

abbrev pub IsWon : {A : Type 0} → List (Node A) → List NodeId → ℕ → Type 0
IsWon nodes ids k = IsWinner nodes ids k (winner_at ids k)

-- each slot names a winner
abbrev pub AreWinners : {A : Type 0} → List (Node A) → List NodeId → Type 0
AreWinners nodes ids = (k : ℕ) → k < length ids → IsWon nodes ids k

-- the slots over those from a on and below b, m levels up
abbrev pub low : ℕ → ℕ → ℕ
low zero a = a
low (suc m) a = low m ((a - 1) / 2)

abbrev pub high : ℕ → ℕ → ℕ
high zero b = b
high (suc m) b = high m (b / 2)

-- slot k is one of those from a on and below b, or over them
abbrev pub IsAbove : ℕ → ℕ → ℕ → Type 0
IsAbove k a b = (m : ℕ) × (low m a ≤ k) × (k < high m b)

-- all other slots name winners
abbrev pub AreOthersWinners : {A : Type 0} → List (Node A) → List NodeId → ℕ → ℕ → Type 0
AreOthersWinners nodes ids a b = (k : ℕ) → k < length ids → (IsAbove k a b → ⊥) → IsWon nodes ids k

-- slot k, over the slot `at`, names a winner but for that slot; or what it names carries a worse route than the node
pub record IsBeside {A : Type 0} (nodes : List (Node A)) (ids : List NodeId) (k at : ℕ) (id : NodeId) : Type 0 where
  pub own : IsNoGreater (route_at nodes (winner_at ids k)) (route_at nodes (record { 0 = k }))
  pub over : (c : ℕ) → k * 2 + 1 ≤ c → c ≤ k * 2 + 2 → c < length ids → c ≢ at → IsNoGreater (route_at nodes (winner_at ids k)) (route_at nodes (winner_at ids c))
  pub from : (is_lesser (route_at nodes id) (route_at nodes (winner_at ids k)) ≡ true) ⊎ ((winner_at ids k ≡ record { 0 = k }) ⊎ ((c : ℕ) × (k * 2 + 1 ≤ c) × (c ≤ k * 2 + 2) × (c < length ids) × (c ≢ at) × (winner_at ids k ≡ winner_at ids c)))

-- the slot names the node, and each other slot names a winner, but for the one over it
pub record IsSiftedUp {A : Type 0} (nodes : List (Node A)) (ids : List NodeId) (at : ℕ) (id : NodeId) : Type 0 where
  pub within : at < length ids
  pub here : winner_at ids at ≡ id
  pub others : (k : ℕ) → k < length ids → (k * 2 + 1 ≤ at → at ≤ k * 2 + 2 → ⊥) → IsWon nodes ids k
  pub above : (k : ℕ) → k * 2 + 1 ≤ at → at ≤ k * 2 + 2 → IsBeside nodes ids k at id
