use Rattle.sabr_frontier.proofs.Names.{◌≡◌, ◌+◌, ◌-◌, ◌≤◌, ◌++◌, length, take, drop, vec_len, best_for, fresh_nodes}
use Rattle.sabr_frontier.proofs.TreeLemmas.FoundNodes.{IsSearchedFrom, unsearched}
use Rattle.sabr_frontier.proofs.giving.divide.fresh_nodes.Given as goal

abbrev pub invariant-loop-count : goal.invariant-loop-count
invariant-loop-count g l =
    let us = fresh_nodes (best_for l.fn.searcher.asked l.given.bound) l.given.leaf (take l.first l.route) (drop l.first l.route) in
    record {
      nodes : l.nodes.items ≡ l.fn.nodes.items ++ unsearched (l.count - l.first) us;
      ties : IsSearchedFrom l.given.needed us (l.count - l.first) l.ties;
      from : l.first ≤ l.count;
      to : l.count ≤ length l.route;
      end : l.end + l.first ≡ length l.fn.nodes.items + length l.route;
      long : vec_len l.nodes ≡ l.end;
      few : l.ties + l.count ≤ length l.route;
      called : l.searcher.calls.count + l.count ≡ l.fn.searcher.calls.count + length l.route;
      same : l.searcher.asked ≡ l.fn.searcher.asked;
    }

abbrev pub decreases-loop-count : goal.decreases-loop-count
decreases-loop-count g l = l.count
