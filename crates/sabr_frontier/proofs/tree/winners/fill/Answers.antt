use Rattle.sabr_frontier.proofs.Names.{arith, sym, subst, ◌∙◌, take_at, AreWinners}
use Rattle.sabr_frontier.proofs.TreeLemmas.SlotWinners.{sifted_first}
use Rattle.sabr_frontier.proofs.tree.winners.fill.Goals as goal

pub sift_up-requires : goal.sift_up-requires
sift_up-requires g c =
    let l = c.loop-place in
    sifted_first c.args.nodes.now l.winners.items c.as_mut_slice.result.now l.place (omega (arith, l.invariant.long)) (c.as_mut_slice.ensures.value ∙ c.push_reserved.ensures.items) l.invariant.won

pub loop-place-preserved : goal.loop-place-preserved
loop-place-preserved g c = record {
  won = subst (AreWinners c.args.nodes.now) (sym (take_at c.sift_up.new.ids _ c.push_reserved.new.self.len (omega (arith, c.sift_up.ensures.len, c.as_mut_slice.ensures.len)))) c.sift_up.ensures.won;
  long = omega (arith, c.push_reserved.ensures.len, c.loop-place.invariant.long);
  few = omega (arith, c.loop-place-test.true);
  room = omega (arith, c.push_reserved.ensures.capacity, c.loop-place.invariant.room);
}

pub returns-clause-len : goal.returns-clause-len
returns-clause-len g c = omega (arith, c.loop-place.invariant.long, c.loop-place.invariant.few, c.loop-place-test.false)
