use Rattle.sabr_frontier.proofs.Names.{◌-◌, ◌++◌, ◌∙◌, length, length-drop, drop, arith, ap, refl, subst, take_all, get_or_from_slice_get, Node, AreNoted, carried_keys, keys_of, Member}
use Rattle.sabr_frontier.proofs.GivingLemmas.{then_ok}
use Rattle.sabr_frontier.proofs.GivingLemmas.KeptKeys.{carries_at, noted_twice}
use Rattle.sabr_frontier.proofs.TreeLemmas.ModifiedPlaces.{member_dropped, member_taken}
use Rattle.sabr_frontier.proofs.tree.Tree.note_new.Goals as goal

pub note_carried-requires : goal.note_carried-requires
note_carried-requires g c x e = c.requires.fit c.index.result.now x (carries_at c.args.self.now.nodes.items c.args.given.node.0 c.index.result.now c.requires.in_range c.index.ensures) e

pub note_all-requires : goal.note_all-requires
note_all-requires g c n x m e =
    let nodes = c.deref.result.now in
    let there = member_dropped c.args.given.first n nodes (member_taken (length nodes - c.args.given.first) n (drop c.args.given.first nodes) m) in
    c.requires.fit n x (subst (Member n) c.deref.ensures.value there) e

pub returns : goal.returns
returns g c =
    let nodes = c.args.self.now.nodes.items in
    let first = c.args.given.first in
    let all = c.deref.result.now in
    let rest = take_all (length all - first) (drop first all) (omega (arith, length-drop first all)) ∙ ap (drop first) c.deref.ensures.value in
    then_ok c.note_all.result c.note_all.ensures (λ _ h n stands.
    let same = c.index.ensures ∙ get_or_from_slice_get nodes c.args.given.node.0 n c.index.result.now stands in
    let then = subst (λ z. AreNoted c.note_carried.new.self (carried_keys z) c.note_all.new.self) rest h in
    subst (λ (m : Node _). AreNoted c.args.keys.now (keys_of m.route ++ carried_keys (drop first nodes)) c.note_all.new.self) same
    (noted_twice c.args.keys.now c.note_carried.new.self c.note_all.new.self (keys_of c.index.result.now.route) (carried_keys (drop first nodes)) (keys_of c.index.result.now.route ++ carried_keys (drop first nodes)) refl c.in_ok-note_carried.ensures then))
