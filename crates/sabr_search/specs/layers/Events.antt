-- The events that wait, each held as one number.
use Rattle.std.specs.Prelude.{ℕ, ◌/◌, ◌%◌, ◌^◌}
use Rattle.sabr_search.specs.declared.visit.Visit.{Visit}

-- the event of a key
abbrev pub event_of : ℕ → Visit
event_of key = record { at = key / 2 ^ 24; node = key % 2 ^ 16 }
