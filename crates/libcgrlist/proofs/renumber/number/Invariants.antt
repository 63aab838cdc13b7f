use Rattle.std.proofs.Common.{◌≡◌, ◌++◌, drop, length, take}
use Rattle.libcgrlist.specs.Plans.{numbered_from}
use Rattle.libcgrlist.proofs.renumber.number.Given as goal

abbrev pub invariant-loop-place : goal.invariant-loop-place
invariant-loop-place l = record {
  count : length l.contacts ≡ length l.fn.contacts;
  made : l.contacts ≡ numbered_from 1 (take l.place l.fn.contacts) ++ drop l.place l.fn.contacts;
}
