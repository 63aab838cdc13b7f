use Rattle.sabr_frontier.proofs.Names.{◌≡◌, ◌+◌, ◌≤◌, ◌++◌, length, take, drop, None, vec_len, vec_capacity, fresh_nodes}
use Rattle.sabr_frontier.proofs.giving.divide.add_nodes.Given as goal

abbrev pub invariant-loop-count : goal.invariant-loop-count
invariant-loop-count g l = record {
  whole : l.nodes.items ++ fresh_nodes (λ _ _. None) l.leaf (take l.count l.route) (drop l.count l.route) ≡ l.fn.nodes.items ++ fresh_nodes (λ _ _. None) l.leaf (take l.first l.route) (drop l.first l.route);
  room : vec_len l.nodes + length l.route ≤ vec_capacity l.nodes + l.count;
}
