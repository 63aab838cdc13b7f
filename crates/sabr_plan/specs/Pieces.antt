-- The pieces of a text between the bytes of one value.
use Rattle.std.specs.Prelude.{ℕ, ◌==◌, List, []}
use Rattle.std.specs.List.{slice_split}
use Rattle.std.specs.declared.option.Option.{Option}
use Rattle.std.specs.declared.option.Option.TheVariants.{Some, None}

-- the pieces of a text between the bytes of this value; an empty text has one empty piece
unfoldable pub pieces_of : ℕ → List ℕ → List (List ℕ)
pieces_of separator text = slice_split (λ b. b == separator) text

-- the pieces of what stands after such a byte, if there is one
abbrev pub pieces_after : ℕ → Option (List ℕ) → List (List ℕ)
pieces_after separator None = []
pieces_after separator (Some text) = pieces_of separator text
