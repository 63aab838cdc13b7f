use Rattle.sabr_frontier.proofs.Names.{◌≡◌, ◌+◌, ℕ, ◌<◌, Some, slice_get, Node, best_of, prefix_of}
use Rattle.sabr_frontier.proofs.tree.Tree.carries_least.Given as goal

abbrev pub invariant-loop-node : goal.invariant-loop-node
invariant-loop-node g l = record {
  least : (i : ℕ) (n : Node g.row.A.Denot) → i < l.node-index → slice_get l.self.nodes.items i ≡ Some n → n.route ≡ best_of l.fn.searcher.asked.plan.plan l.fn.searcher.asked.request (prefix_of l.self.leaves.items n) n.excluded;
  called : l.searcher.calls.count ≡ l.fn.searcher.calls.count + l.node-index;
  same : l.searcher.asked ≡ l.fn.searcher.asked;
}
