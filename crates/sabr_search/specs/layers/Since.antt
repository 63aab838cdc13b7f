-- For each node, a second before which no way comes there: by the arrivals of a search, and by what is known of every way.
use Rattle.std.specs.Prelude.{ℕ, ◌-◌, max, nat_lt, if◌then◌else◌, List, map, slice_index}
use Rattle.std.specs.List.{range_with_len}

-- an arrival before a last second; else that second, or `soon` if that is later
abbrev pub first_of : (arrival last soon : ℕ) → ℕ
first_of arrival last soon = if nat_lt arrival last then arrival else max last soon

-- the arrival at node k, if it is before the last second from which a way may still deliver at d
abbrev pub since_at : (arrival costs soon : List ℕ) (d k : ℕ) → ℕ
since_at arrival costs soon d k = first_of (slice_index arrival k) (d - slice_index costs k) (slice_index soon k)

-- that second by node
abbrev pub since_of : ℕ → (arrival costs soon : List ℕ) → ℕ → List ℕ
since_of nodes arrival costs soon d = map (since_at arrival costs soon d) (range_with_len 0 nodes)
