use Rattle.std.proofs.Common.{◌≡◌, ℕ, ◌+◌, ◌<◌, true, length, get_or}
use Rattle.sabr_search.proofs.links.finger.is_increasing.Given as goal

abbrev pub invariant-loop-place : goal.invariant-loop-place
invariant-loop-place l = l.increases ≡ true → (k : ℕ) → k + 1 < l.place → k + 1 < length l.numbers → get_or l.numbers k 0 < get_or l.numbers (k + 1) 0
