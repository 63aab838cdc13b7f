-- The calls of a finder.
use Rattle.std.specs.Prelude.{ℕ, ◌+◌}
use Rattle.sabr_index.specs.Looks.{looks_taken}
use Rattle.sabr_index.specs.declared.looks.Looks.{Looks}

-- their number, and the number of looks that they took together
pub record Calls : Type 0 where
  pub count : ℕ
  pub looks : ℕ

-- none
abbrev pub no_calls : Calls
no_calls = record { count = 0; looks = 0 }

-- these and one more, with this number of looks
abbrev pub with_call : Calls → ℕ → Calls
with_call calls looks = record { count = calls.count + 1; looks = calls.looks + looks }

-- those begun, with the looks of all but the last, whose looks these are
abbrev pub begun_with : Calls → Looks → Calls
begun_with begun looks = record begun { looks = begun.looks + looks_taken looks }
