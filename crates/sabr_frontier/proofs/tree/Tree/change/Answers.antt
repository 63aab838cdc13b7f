use Rattle.sabr_frontier.proofs.Names.{◌≡◌, ◌+◌, ◌++◌, ◌∷◌, [], length, arith, ap, sym, subst, ◌∙◌, Some, take_at, order_of, carrying, modify, AreOthersWinners, AreWinners}
use Rattle.sabr_frontier.proofs.tree.Tree.change.Goals as goal

pub replay_up-requires-clause-others : goal.replay_up-requires-clause-others
replay_up-requires-clause-others g c =
    let i = c.args.node.0 in
    subst (λ z. AreOthersWinners z c.as_mut_slice.result.now i (i + 1)) (sym (c.as_slice.ensures.value ∙ c.carry.ensures.nodes))
    (subst (λ z. AreOthersWinners (modify (carrying c.args.found) c.args.self.now.nodes.items i) z i (i + 1)) (sym c.as_mut_slice.ensures.value) c.requires.won)

pub fill-requires-clause-won : goal.fill-requires-clause-won
fill-requires-clause-won g c =
    subst (AreWinners c.as_slice-2.result.now) (sym (take_at c.replay_up.new.ids _ c.args.self.now.winners.len (omega (arith, c.replay_up.ensures.len, c.as_mut_slice.ensures.len))))
    (subst (λ z. AreWinners z c.replay_up.new.ids) (c.as_slice.ensures.value ∙ sym c.as_slice-2.ensures.value) c.replay_up.ensures.won)

pub returns-clause-shape : goal.returns-clause-shape
returns-clause-shape g c =
    let t = c.args.self.now in
    let nodes = c.carry.ensures.nodes in
    let first : c.len-first.result ≡ length t.winners.items = omega (arith, c.len-first.ensures) in
    let leaves = c.push_reserved-2.ensures.items in
    let last : c.len.result ≡ length t.leaves.items = omega (arith, c.len.ensures) in
    let journal = c.push_reserved.ensures.items ∙ ap (λ n. t.journal.items ++ record { node = c.args.node; nodes = n; last = t.last } ∷ []) first in
    λ i. record { nodes = nodes i; index = order_of (leaves i) (nodes i); leaves = leaves i; last = Some (last i); journal = journal i; is_searched = t.is_searched }

pub returns-clause-room : goal.returns-clause-room
returns-clause-room g c = record {
  space = record {
    index = omega (arith, c.requires.space.index, c.carry.ensures.len);
    added = omega (arith, c.requires.space.added, c.carry.ensures.len);
    places = omega (arith, c.fill.ensures.capacity, c.requires.space.places, c.carry.ensures.len);
  };
  won = subst (λ z. AreWinners z c.fill.new.winners.items) c.as_slice-2.ensures.value c.fill.ensures.won;
  count = omega (arith, c.fill.ensures.len, c.as_slice-2.ensures.len);
}
