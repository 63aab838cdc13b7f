-- The pieces of a text between the bytes of one value.
use Rattle.sabr_plan.proofs.Names.{◌≡◌, ◌==◌, ℕ, ◌+◌, ◌<◌, ◌≤◌, List, [], ◌∷◌, length, take, drop, arith, position, position_or_len, common_steps, fails_before_first, Some, None}
use Rattle.std.proofs.lemmas.List.Splits.{slice_split_first, slice_split_none, length-slice_split}
use Rattle.sabr_plan.specs.Pieces.{pieces_of}

module _ (separator : ℕ) (text : List ℕ) where
  -- the first such byte ends the first piece
  pub pieces_at : (i : ℕ) → position (λ b. b == separator) text ≡ Some i → pieces_of separator text ≡ take i text ∷ pieces_of separator (drop (i + 1) text)
  unfolding pieces_of
  pieces_at i e =
      let there : position_or_len (λ b. b == separator) text < length text = grind (arith, common_steps) in
      let is : position_or_len (λ b. b == separator) text ≡ i = grind (arith, common_steps) in
      rw (← is) (slice_split_first (λ b. b == separator) text 0 there)

  -- without one there is one piece
  pub pieces_one : position (λ b. b == separator) text ≡ None → pieces_of separator text ≡ text ∷ []
  unfolding pieces_of
  pieces_one e =
      let beyond : length text ≤ position_or_len (λ b. b == separator) text = grind (arith, common_steps) in
      slice_split_none (λ b. b == separator) text (λ k d h. fails_before_first (λ b. b == separator) text k d (omega arith))

  -- a text has a piece
  pub some_piece : 0 < length (pieces_of separator text)
  unfolding pieces_of
  some_piece = omega (arith, length-slice_split (λ b. b == separator) text)
