use Rattle.sabr_frontier.proofs.Names.{◌≡◌, ◌+◌, None, take, drop, best_for, longer_go_on}
use Rattle.sabr_frontier.proofs.giving.give_last.longer_go_on.Given as goal

abbrev pub invariant-loop-count : goal.invariant-loop-count
invariant-loop-count g l = record {
  rest : longer_go_on (best_for l.fn.searcher.asked None) (take l.count l.route) (drop l.count l.route) ≡ longer_go_on (best_for l.fn.searcher.asked None) (take l.first l.route) (drop l.first l.route);
  counted : l.searcher.calls.count + l.first ≡ l.fn.searcher.calls.count + l.count;
  same : l.searcher.asked ≡ l.fn.searcher.asked;
}
