use Rattle.std.proofs.Common.{◌≡◌, map, take}
use Rattle.host.specs.Buffers.{put_over}
use Rattle.libcgrlist.proofs.renumber.write_numbers.Given as goal

abbrev pub invariant-loop-i : goal.invariant-loop-i
invariant-loop-i l = l.numbers ≡ put_over l.fn.numbers (map (λ c. c.number) (take l.i l.contacts))
