-- Well-formed states, for any tests of routes, of paths and of prefixes.
use Rattle.std.specs.Prelude.{◌≡◌, ℕ, Bool, true, false, ◌⊎◌, List, [], ◌∷◌, ◌++◌, map, length, Some}
use Rattle.std.specs.Ordering.{nat_cmp}
use Rattle.sabr_model.specs.Order.{by_numbers}
use Rattle.sabr_model.specs.routes.Parts.{number_after}
use Rattle.sabr_frontier.specs.listing.Rising.{has, Rises}
use Rattle.sabr_frontier.specs.listing.State.{PartState, State, pair_of, Member, leaves}

-- r begins with p, is longer, and its next number isn't excluded
abbrev pub Within : List ℕ → List ℕ → List ℕ → Type 0
Within p X r = (x : ℕ) × (number_after p r ≡ Some x) × (has nat_cmp x X ≡ false)

module _ (route path fits : List ℕ → Bool) where
  -- the pairs of a closed state. The empty prefix is listed, and routes may begin with each prefix. Each prefix with an
  -- excluded number is a path, and a route or listed. Each prefix but the empty one is a listed prefix with an excluded
  -- number of it, and excludes a number itself.
  pub record IsClosed (T : List (List ℕ × List ℕ)) : Type 0 where
    pub root : (X : List ℕ) × Member ([], X) T
    pub fit : (p X : List ℕ) → Member (p, X) T → fits p ≡ true
    pub below : (p X : List ℕ) (x : ℕ) → Member (p, X) T → has nat_cmp x X ≡ true → (path (p ++ x ∷ []) ≡ true) × ((route (p ++ x ∷ []) ≡ true) ⊎ ((Y : List ℕ) × Member (p ++ x ∷ [], Y) T))
    pub above : (p X : List ℕ) → Member (p, X) T → (p ≡ []) ⊎ ((q : List ℕ) × (Y : List ℕ) × (x : ℕ) × (p ≡ q ++ x ∷ []) × Member (q, Y) T × (has nat_cmp x Y ≡ true))
    pub busy : (p X : List ℕ) → Member (p, X) T → (p ≡ []) ⊎ ((x : ℕ) × (has nat_cmp x X ≡ true))

-- the pairs rise by prefix, and what each excludes rises
pub record InOrder (T : List (List ℕ × List ℕ)) : Type 0 where
  pub by_prefix : Rises by_numbers (map (λ e. e.0) T)
  pub numbers : (p X : List ℕ) → Member (p, X) T → Rises nat_cmp X

-- the pairs are in order and closed, the leaves are counted, the last is one of them (empty if there is none), and each
-- carried route is a route in its part
pub record IsWellFormed (route path fits : List ℕ → Bool) (s : State) : Type 0 where
  pub order : InOrder (map pair_of s.parts)
  pub closed : IsClosed route path fits (map pair_of s.parts)
  pub count : s.emitted ≡ length (leaves route (map pair_of s.parts))
  pub right : ((s.last ≡ []) × (leaves route (map pair_of s.parts) ≡ [])) ⊎ (has by_numbers s.last (leaves route (map pair_of s.parts)) ≡ true)
  pub carried : (t : PartState) (r : List ℕ) → Member t s.parts → t.carried ≡ Some r → (route r ≡ true) × Within t.prefix t.excluded r
