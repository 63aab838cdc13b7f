use Rattle.std.proofs.Common.{◌≡◌, ℕ, ◌<◌, drop, get_or, length}
use Rattle.libcgrlist.specs.Answers.{IsReachOf, asked_to, unreached, asked_request}
use Rattle.libcgrlist.proofs.reach.write_reaches.Given as goal

abbrev pub invariant-loop-place : goal.invariant-loop-place
invariant-loop-place l = record {
  count : length l.reaches ≡ length l.fn.reaches;
  each : (k : ℕ) → k < l.place → IsReachOf l.index.plan (asked_request (asked_to l.destinations.asked.now (get_or l.destinations.to.now k 0)) l.destinations.avoid.now) (get_or l.reaches k (unreached 0));
  rest : drop l.place l.reaches ≡ drop l.place l.fn.reaches;
}
