use Rattle.sabr_frontier.proofs.Names.{◌≡◌, length, IsSiftedUp}
use Rattle.sabr_frontier.proofs.tree.winners.sift_up.Given as goal

abbrev pub invariant-loop-slot : goal.invariant-loop-slot
invariant-loop-slot g l = record {
  sifted : IsSiftedUp l.nodes l.ids l.slot l.id;
  long : length l.ids ≡ length l.fn.ids;
}

abbrev pub decreases-loop-slot : goal.decreases-loop-slot
decreases-loop-slot g l = l.slot
