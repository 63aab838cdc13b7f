use Rattle.sabr_frontier.proofs.Names.{◌≡◌, shape_of, shown, IsRoomy}
use Rattle.sabr_frontier.proofs.GivingLemmas.CutPages.{IsCutWay}
use Rattle.sabr_frontier.proofs.tree.Tree.give_page_up_to.Given as goal

abbrev pub invariant-loop-left : goal.invariant-loop-left
invariant-loop-left g l = record {
  way : IsCutWay l.fn.searcher.asked (shown (shape_of l.fn.self)) l.count l.fn.self.leaves.items l.fn.searcher.calls.count l.left (shape_of l.self) l.searcher.calls.count l.keys;
  room : IsRoomy l.self;
  same : l.searcher.asked ≡ l.fn.searcher.asked;
}

abbrev pub decreases-loop-left : goal.decreases-loop-left
decreases-loop-left g l = l.left
