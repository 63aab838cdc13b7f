-- Worked states.
use Rattle.std.specs.Prelude.{[], ◌∷◌, Some, None}
use Rattle.sabr_frontier.specs.listing.State.{State, part_with}

abbrev pub start_of_a : State
start_of_a = record { emitted = 0; last = []; parts = part_with [] [] (Some (1 ∷ 4 ∷ [])) ∷ [] }

abbrev pub a_after_1 : State
a_after_1 = record { emitted = 1; last = 1 ∷ 4 ∷ []; parts = part_with [] (1 ∷ []) (Some (3 ∷ [])) ∷ part_with (1 ∷ []) (4 ∷ []) (Some (1 ∷ 2 ∷ [])) ∷ [] }

abbrev pub a_after_2 : State
a_after_2 = record { emitted = 2; last = 1 ∷ 2 ∷ []; parts = part_with [] (1 ∷ []) (Some (3 ∷ [])) ∷ part_with (1 ∷ []) (2 ∷ 4 ∷ []) None ∷ [] }

abbrev pub a_after_3 : State
a_after_3 = record { emitted = 3; last = 3 ∷ []; parts = part_with [] (1 ∷ 3 ∷ []) None ∷ part_with (1 ∷ []) (2 ∷ 4 ∷ []) None ∷ [] }

abbrev pub c_after_3 : State
c_after_3 = record { emitted = 3; last = 4 ∷ 5 ∷ []; parts = part_with [] (1 ∷ 3 ∷ 4 ∷ []) None ∷ part_with (1 ∷ []) (2 ∷ []) (Some (1 ∷ 6 ∷ 5 ∷ [])) ∷ part_with (4 ∷ []) (5 ∷ []) (Some (4 ∷ 7 ∷ 2 ∷ [])) ∷ [] }

abbrev pub c_after_5 : State
c_after_5 = record {
  emitted = 5;
  last = 4 ∷ 7 ∷ 2 ∷ [];
  parts = part_with [] (1 ∷ 3 ∷ 4 ∷ []) None ∷ part_with (1 ∷ []) (2 ∷ 6 ∷ []) None ∷ part_with (1 ∷ 6 ∷ []) (5 ∷ []) None ∷ part_with (4 ∷ []) (5 ∷ 7 ∷ []) None ∷ part_with (4 ∷ 7 ∷ []) (2 ∷ []) None ∷ [];
}
