use Rattle.sabr_frontier.proofs.Names.{◌≡◌, ◌+◌, ◌*◌, ◌≤◌, length, searches_in, shape_of, shown, IsRoomy}
use Rattle.sabr_frontier.proofs.SessionLemmas.Pages.{IsOnTheWay}
use Rattle.sabr_frontier.proofs.tree.Tree.give_page.Given as goal

abbrev pub invariant-loop-left : goal.invariant-loop-left
invariant-loop-left g l = record {
  most : l.left ≤ l.count;
  way : IsOnTheWay l.fn.searcher.asked.plan.plan l.fn.searcher.asked.request (shown (shape_of l.fn.self)) l.count (shape_of l.fn.self) l.left (shape_of l.self);
  long : l.first ≤ length l.self.leaves.items;
  index : l.self.index.items ≡ l.fn.self.index.items;
  room : IsRoomy l.self;
  sum : l.searches + searches_in l.fn.searcher.asked.plan.plan l.fn.searcher.asked.request l.left (shown (shape_of l.self)) ≡ searches_in l.fn.searcher.asked.plan.plan l.fn.searcher.asked.request l.count (shown (shape_of l.fn.self));
  called : l.searcher.calls.count ≡ l.fn.searcher.calls.count + l.searches;
  few : l.searches + l.left * 20000 ≤ l.count * 20000;
  same : l.searcher.asked ≡ l.fn.searcher.asked;
}

abbrev pub decreases-loop-left : goal.decreases-loop-left
decreases-loop-left g l = l.left
