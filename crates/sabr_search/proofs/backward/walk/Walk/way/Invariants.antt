use Rattle.std.proofs.Common.{◌≡◌, map, take}
use Rattle.sabr_search.proofs.backward.walk.Walk.way.Given as goal

abbrev pub invariant-loop-place : goal.invariant-loop-place
invariant-loop-place g l = l.numbers.items ≡ map (λ s. s.number) (take l.place l.self.steps.items)
