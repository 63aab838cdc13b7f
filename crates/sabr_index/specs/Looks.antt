-- The looks that were taken at the records of contacts.
use Rattle.std.specs.Prelude.{ℕ, ◌-◌, ◌^◌}
use Rattle.sabr_index.specs.declared.looks.Looks.{Looks}

-- more looks than a search ever needs
abbrev pub many_looks : ℕ
many_looks = 2 ^ 64 - 1

-- the looks that were taken of these many
abbrev pub looks_taken : Looks → ℕ
looks_taken looks = many_looks - looks.left
