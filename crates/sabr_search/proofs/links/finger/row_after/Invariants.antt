use Rattle.std.proofs.Common.{◌+◌, ◌≤◌, length}
use Rattle.sabr_search.proofs.links.finger.row_after.Given as goal

abbrev pub invariant-loop-more : goal.invariant-loop-more
invariant-loop-more l = record {
  within : l.place + l.more ≤ length l.numbers;
  limit : l.more ≤ l.fn.most;
}

abbrev pub decreases-loop-more : goal.decreases-loop-more
decreases-loop-more l = l.more
