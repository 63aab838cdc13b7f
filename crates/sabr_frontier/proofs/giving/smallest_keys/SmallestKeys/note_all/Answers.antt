use Rattle.sabr_frontier.proofs.Names.{◌+◌, take, subst, arith, take_all, AreNoted, carried_keys, keys_of}
use Rattle.sabr_frontier.proofs.GivingLemmas.KeptKeys.{carried_more, carries_at, noted_twice}
use Rattle.sabr_frontier.proofs.giving.smallest_keys.SmallestKeys.note_all.Goals as goal

pub note_carried-requires : goal.note_carried-requires
note_carried-requires g c x e = c.requires c.index-nodes-place.result x (carries_at c.args.nodes.now c.loop-place.place c.index-nodes-place.result (omega (arith, c.loop-place-test.true)) c.index-nodes-place.is) e

pub loop-place-preserved : goal.loop-place-preserved
loop-place-preserved g c =
    let n = c.index-nodes-place.result in
    noted_twice c.args.self.now c.loop-place.self c.note_carried.new.self (carried_keys (take c.loop-place.place c.args.nodes.now)) (keys_of n.route) (carried_keys (take (c.loop-place.place + 1) c.args.nodes.now))
    (carried_more c.args.nodes.now c.loop-place.place n (omega (arith, c.loop-place-test.true)) c.index-nodes-place.is) c.loop-place.invariant c.in_ok-note_carried.ensures

pub returns : goal.returns
returns g c = subst (λ z. AreNoted c.args.self.now (carried_keys z) c.loop-place.self) (take_all c.loop-place.place c.args.nodes.now (omega (arith, c.loop-place-test.false))) c.loop-place.invariant
