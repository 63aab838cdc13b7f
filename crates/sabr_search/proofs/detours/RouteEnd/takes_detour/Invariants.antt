use Rattle.std.proofs.Common.{◌+◌, ◌*◌, ◌≤◌}
use Rattle.sabr_search.proofs.detours.RouteEnd.takes_detour.Given as goal

abbrev pub invariant-loop-place : goal.invariant-loop-place
invariant-loop-place g l = record {
  most : l.fn.looks.left ≤ l.looks.left + 2 * l.place;
  fewer : l.looks.left ≤ l.fn.looks.left;
}
