-- The state of given routes, and the one step from a state to the next, for any test of routes and any
-- choice of a part's best route.
use Rattle.std.specs.Prelude.{ℕ, ◌+◌, Bool, ◌&&◌, List, [], ◌∷◌, map, length, Option, Some, None, if◌then◌else◌}
use Rattle.std.specs.Option.{option_map}
use Rattle.std.specs.Ordering.{is_eq, is_lt}
use Rattle.std.specs.declared.cmp.Ordering.{Ordering}
use Rattle.sabr_model.specs.Order.{put_in, by_numbers}
use Rattle.sabr_frontier.specs.listing.Tree.{tree}
use Rattle.sabr_frontier.specs.listing.State.{PartState, State, pair_of, leaves, last_of}

abbrev pub same_pair : List ℕ × List ℕ → List ℕ × List ℕ → Bool
same_pair e f = is_eq (by_numbers e.0 f.0) && is_eq (by_numbers e.1 f.1)

-- what the part with this pair carries, or d if there is no such part
abbrev pub carried_in : List PartState → List ℕ × List ℕ → Option (List ℕ) → Option (List ℕ)
carried_in [] e d = d
carried_in (t ∷ ts) e d = if same_pair (pair_of t) e then t.carried else carried_in ts e d

-- the lesser of two, or the first if they tie
abbrev pub better : (List ℕ → List ℕ → Ordering) → Option (List ℕ) → Option (List ℕ) → Option (List ℕ)
better cmp None b = b
better cmp (Some r) None = Some r
better cmp (Some r) (Some s) = if is_lt (cmp s r) then Some s else Some r

-- the best route that a part carries
abbrev pub least_carried : (List ℕ → List ℕ → Ordering) → List PartState → Option (List ℕ)
least_carried cmp [] = None
least_carried cmp (t ∷ ts) = better cmp t.carried (least_carried cmp ts)

module _ (least : List ℕ → List ℕ → Option (List ℕ)) where
  -- the part of a pair, with its best route
  abbrev pub full : List ℕ × List ℕ → PartState
  full e = record { prefix = e.0; excluded = e.1; carried = least e.0 e.1 }

  -- the state after the routes of A are given, in this order
  abbrev pub state_of : List (List ℕ) → State
  state_of A = record { emitted = length A; last = last_of A; parts = map full (tree A) }

module _ (route : List ℕ → Bool) (least : List ℕ → List ℕ → Option (List ℕ)) where
  -- a part of the new tree: an earlier part keeps what it carried, every other one carries the least of its pair
  abbrev pub carry : List PartState → List ℕ × List ℕ → PartState
  carry parts e = record { prefix = e.0; excluded = e.1; carried = carried_in parts e (least e.0 e.1) }

  -- the parts after r is given, too
  abbrev pub parts_after : List PartState → List ℕ → List PartState
  parts_after parts r = map (carry parts) (tree (put_in by_numbers r (leaves route (map pair_of parts))))

  -- r is given, and the state that is left
  abbrev pub given : State → List ℕ → List ℕ × State
  given s r = (r, record { emitted = s.emitted + 1; last = r; parts = parts_after s.parts r })

  -- the best route that a part carries is given, if there is one
  abbrev pub step : (List ℕ → List ℕ → Ordering) → State → Option (List ℕ × State)
  step cmp s = option_map (given s) (least_carried cmp s.parts)
