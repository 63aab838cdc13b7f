-- The smallest keys of routes that were found.
use Rattle.std.specs.Prelude.{◌≡◌, ℕ, ◌+◌, ◌*◌, ◌^◌, ◌≤◌, ◌<◌, All, Contains, List, [], ◌∷◌, ◌++◌, length, min}
use Rattle.std.specs.List.Sorted.{IsPermutation}
use Rattle.std.specs.declared.option.Option.{Option}
use Rattle.std.specs.declared.option.Option.TheVariants.{Some, None}
use Rattle.sabr_model.specs.routes.Record.{RouteRecord}
use Rattle.sabr_search.specs.declared.bound.Bound.{Bound}
use Rattle.sabr_frontier.specs.declared.tree.Node.{Node}
use Rattle.sabr_frontier.specs.listing.State.{Member}

-- a route has fewer hops
abbrev pub key_hops : ℕ
key_hops = 65536

-- the key of a route without its numbers, as one number
abbrev pub key_of : RouteRecord → ℕ
key_of x = x.delivery * key_hops + length x.contacts

-- it has few hops and delivers early enough for such a key
pub record FitsKey (x : RouteRecord) : Type 0 where
  pub early : x.delivery < 2 ^ 40
  pub few : length x.contacts < key_hops

-- so does what each node carries
abbrev pub CarryKeys : {A : Type 0} → List (Node A) → Type 0
CarryKeys {A} nodes = (n : Node A) (x : RouteRecord) → Member n nodes → n.route ≡ Some x → FitsKey x

-- the key of a route, if it is there
abbrev pub keys_of : Option RouteRecord → List ℕ
keys_of None = []
keys_of (Some x) = key_of x ∷ []

-- the keys of what these nodes carry
abbrev pub carried_keys : {A : Type 0} → List (Node A) → List ℕ
carried_keys [] = []
carried_keys (n ∷ nodes) = keys_of n.route ++ carried_keys nodes

-- at most how many keys are kept, and the keys
pub record SeenKeys : Type 0 where
  pub most : ℕ
  pub keys : List ℕ

-- these are the least of all keys, as many as may be kept
pub record AreLeast (most : ℕ) (all keys : List ℕ) : Type 0 where
  pub gone : List ℕ
  pub each : IsPermutation all (keys ++ gone)
  pub many : length keys ≡ min most (length all)
  pub greater : All (λ g. All (λ k. k ≤ g) keys) gone

-- of the keys that were kept and these the least are kept then
pub record AreNoted (old : SeenKeys) (keys : List ℕ) (new : SeenKeys) : Type 0 where
  pub most : new.most ≡ old.most
  pub least : AreLeast old.most (old.keys ++ keys) new.keys

-- the bound's key is kept, and none that is kept is greater
pub record IsGreatest (keys : List ℕ) (b : Bound) : Type 0 where
  pub kept : Contains keys (b.delivery * key_hops + b.hops)
  pub few : b.hops < key_hops
  pub upper : All (λ k. k ≤ b.delivery * key_hops + b.hops) keys

-- there is a bound if there are as many keys as may be kept, and some may be
abbrev pub IsBoundOf : SeenKeys → Option Bound → Type 0
IsBoundOf s None = 0 < s.most → length s.keys < s.most
IsBoundOf s (Some b) = (s.most ≤ length s.keys) × IsGreatest s.keys b
