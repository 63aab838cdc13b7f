use Rattle.sabr_frontier.proofs.Names.{◌≡◌, ◌++◌, false, length, arith, sym, subst, ◌∙◌, ids_from, AreWinners}
use Rattle.sabr_frontier.proofs.loader.partial_tree.PartialTree.into_tree.Goals as goal

pub returns-clause-shape : goal.returns-clause-shape
returns-clause-shape g c = λ i. record { nodes = c.args.self.nodes.items; index = sym c.requires i; leaves = c.args.self.leaves.items; last = c.args.last; journal = c.new-2.ensures.items i; is_searched = false }

pub returns-clause-room : goal.returns-clause-room
returns-clause-room g c = record {
  space = record {
    index = omega (arith, c.push_block.ensures.capacity, c.in_ok-index.ensures.capacity, c.len-count.ensures);
    added = omega (arith, c.push_block.ensures.len, c.in_ok-index.ensures.len, c.len-count.ensures);
    places = omega (arith, c.rebuild.ensures.capacity, c.in_ok-winners.ensures.capacity, c.len-count.ensures);
  };
  won = subst (λ z. AreWinners z c.rebuild.new.winners.items) c.as_slice.ensures.value c.rebuild.ensures.won;
  count = omega (arith, c.rebuild.ensures.len, c.as_slice.ensures.len);
}

pub returns-clause-index : goal.returns-clause-index
returns-clause-index g c =
    let count : c.len-count.result ≡ length c.args.self.nodes.items = omega (arith, c.len-count.ensures) in
    c.push_block.ensures.items ∙ (λ i. c.in_ok-index.ensures.items i ++ ids_from 0 (count i)) ∙ c.requires
