use Rattle.sabr_frontier.proofs.Names.{◌++◌, ◌∷◌, true, [], arith, ap, sym, subst, ◌∙◌, None, List, Node, AreWinners, NodeId}
use Rattle.sabr_frontier.proofs.TreeLemmas.IndexedNodes.{order_one}
use Rattle.sabr_frontier.proofs.tree.Tree.root.Goals as goal

pub returns-clause-shape : goal.returns-clause-shape
returns-clause-shape g c =
    let first : Node g.row.A.Denot = record { leaf = 0; length = 0; excluded = []; route = c.args.found } in
    let nodes = c.push_reserved-2.ensures.items ∙ (λ i. (c.in_ok-reserve.ensures.items ∙ c.new-nodes.ensures.items) i ++ record first { excluded = c.none.ensures i } ∷ []) in
    λ i. record { nodes = nodes i; index = order_one c.new-2.result.items c.push_reserved-2.new.self.items _ nodes i; leaves = c.new-2.ensures.items i; last = None; journal = c.new-3.ensures.items i; is_searched = true }

pub returns-clause-room : goal.returns-clause-room
returns-clause-room g c = record {
  space = record {
    index = omega (arith, c.push_reserved-2.ensures.len, c.in_ok-reserve.ensures.len, c.new-nodes.ensures.len, c.push_reserved.ensures.capacity, c.in_ok-reserve-2.ensures.ok, c.in_ok-reserve-2.ensures.len);
    added = omega (arith, c.push_reserved-2.ensures.len, c.in_ok-reserve.ensures.len, c.new-nodes.ensures.len, c.push_reserved.ensures.len, c.in_ok-reserve-2.ensures.len);
    places = omega (arith, c.rebuild.ensures.capacity, c.push_reserved-2.ensures.len, c.in_ok-reserve.ensures.len, c.new-nodes.ensures.len, c.in_ok-reserve-3.ensures.ok, c.in_ok-reserve-3.ensures.len);
  };
  won = subst (λ z. AreWinners z c.rebuild.new.winners.items) c.as_slice.ensures.value c.rebuild.ensures.won;
  count = omega (arith, c.rebuild.ensures.len, c.as_slice.ensures.len);
}

pub returns-clause-index : goal.returns-clause-index
returns-clause-index g c =
    let first : Node g.row.A.Denot = record { leaf = 0; length = 0; excluded = []; route = c.args.found } in
    let nodes = c.push_reserved-2.ensures.items ∙ (λ i. (c.in_ok-reserve.ensures.items ∙ c.new-nodes.ensures.items) i ++ record first { excluded = c.none.ensures i } ∷ []) in
    c.push_reserved.ensures.items ∙ ap (λ (z : List NodeId). z ++ record { 0 = 0 } ∷ []) (c.in_ok-reserve-2.ensures.items ∙ c.new-index.ensures.items) ∙ sym (order_one c.new-2.result.items c.push_reserved-2.new.self.items _ nodes)
