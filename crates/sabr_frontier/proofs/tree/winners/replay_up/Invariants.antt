use Rattle.sabr_frontier.proofs.Names.{◌≡◌, ◌-◌, ◌≤◌, length, AreOthersWinners}
use Rattle.sabr_frontier.proofs.tree.winners.replay_up.Given as goal

abbrev pub invariant-loop-end : goal.invariant-loop-end
invariant-loop-end g l = record {
  others : AreOthersWinners l.nodes l.ids (l.end - 1) l.end;
  within : l.end ≤ length l.ids;
  long : length l.ids ≡ length l.fn.ids;
}

abbrev pub decreases-loop-end : goal.decreases-loop-end
decreases-loop-end g l = l.end
