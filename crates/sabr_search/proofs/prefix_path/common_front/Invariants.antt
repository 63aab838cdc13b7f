use Rattle.std.proofs.Common.{◌≡◌, take}
use Rattle.sabr_search.proofs.prefix_path.common_front.Given as goal

abbrev pub invariant-loop-place : goal.invariant-loop-place
invariant-loop-place l = take l.place l.one ≡ take l.place l.other
