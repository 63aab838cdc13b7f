-- What a session shows of a listing: the number of routes that were given, the last of them, and the parts that are
-- left.
use Rattle.std.specs.Prelude.{◌≡◌, ℕ, Bool, ◌⊎◌, List, [], ◌∷◌, ◌++◌, map, filter, flat_map, Option}
use Rattle.sabr_frontier.specs.listing.Tree.{set_of}

-- a part: the routes that begin with the prefix, are longer, and take none of the excluded numbers next. It carries a
-- route, its least, or none if it has no route.
pub record PartState : Type 0 where
  pub prefix : List ℕ
  pub excluded : List ℕ
  pub carried : Option (List ℕ)

-- the part of this prefix, these excluded numbers, and this route that it carries, if any
abbrev pub part_with : List ℕ → List ℕ → Option (List ℕ) → PartState
part_with prefix excluded carried = record { prefix = prefix; excluded = excluded; carried = carried }

-- the number of routes that were given, the last of them (empty if there is none), and the parts in order of prefix
pub record State : Type 0 where
  pub emitted : ℕ
  pub last : List ℕ
  pub parts : List PartState

-- a part without what it carries
abbrev pub pair_of : PartState → List ℕ × List ℕ
pair_of t = (t.prefix, t.excluded)

-- one of these
abbrev pub Member : {X : Type 0} → X → List X → Type 0
Member e [] = ⊥
Member e (f ∷ T) = (e ≡ f) ⊎ Member e T

-- each stands so to all that follow
abbrev pub InPairs : {X : Type 0} → (X → X → Type 0) → List X → Type 0
InPairs Q [] = Unit {0}
InPairs {X} Q (x ∷ xs) = ((y : X) → Member y xs → Q x y) × InPairs Q xs

module _ (route : List ℕ → Bool) where
  -- the routes that are the prefix and one excluded number
  abbrev pub leaves_of : List ℕ × List ℕ → List (List ℕ)
  leaves_of e = filter route (map (λ x. e.0 ++ x ∷ []) e.1)

  -- the routes that are a listed prefix and one excluded number of it, as a set: the routes that were given
  abbrev pub leaves : List (List ℕ × List ℕ) → List (List ℕ)
  leaves T = set_of (flat_map leaves_of T)

-- the last member, or s if there is none
abbrev pub last_from : List ℕ → List (List ℕ) → List ℕ
last_from s [] = s
last_from s (t ∷ S) = last_from t S

-- the last member, or the empty list if there is none
abbrev pub last_of : List (List ℕ) → List ℕ
last_of [] = []
last_of (s ∷ S) = last_from s S
