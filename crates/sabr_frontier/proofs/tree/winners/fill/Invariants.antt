use Rattle.sabr_frontier.proofs.Names.{◌≡◌, ◌≤◌, length, vec_len, vec_capacity, AreWinners}
use Rattle.sabr_frontier.proofs.tree.winners.fill.Given as goal

abbrev pub invariant-loop-place : goal.invariant-loop-place
invariant-loop-place g l = record {
  won : AreWinners l.nodes l.winners.items;
  long : vec_len l.winners ≡ l.place;
  few : l.place ≤ length l.nodes;
  room : vec_capacity l.fn.winners ≤ vec_capacity l.winners;
}
