use Rattle.sabr_frontier.proofs.Names.{◌≡◌, ℕ, ◌+◌, ◌-◌, ◌/◌, arith, subst, refl, set, ◌∙◌, AreOthersWinners}
use Rattle.sabr_frontier.proofs.TreeLemmas.SlotWinners.{others_over, others_all, settled_none, settled_more}
use Rattle.sabr_frontier.proofs.tree.winners.replay_up.Goals as goal

pub loop-end-init : goal.loop-end-init
loop-end-init g c = record {
  others = (let e : c.args.slot ≡ c.args.slot + 1 - 1 = omega arith in subst (λ a. AreOthersWinners c.args.nodes.now c.args.ids.now a (c.args.slot + 1)) e c.requires.others);
  within = omega (arith, c.requires.within);
  long = refl;
}

pub loop-end-preserved : goal.loop-end-preserved
loop-end-preserved g c =
    let nodes = c.args.nodes.now in
    let i = c.loop-end.invariant in
    let ids = c.loop-end.ids in
    let end = c.loop-end.end in
    let slot : ℕ = end - 1 in
    let settled = settled_more nodes ids ids slot end end c.winner.result (omega (arith, c.loop-end-test.true)) (omega (arith, c.loop-end-test.true, i.within)) (omega arith) c.winner.ensures (settled_none nodes ids end) in
    let up : (slot - 1) / 2 ≡ end / 2 - 1 = omega arith in
    record {
      others = subst (λ a. AreOthersWinners nodes (set ids slot c.winner.result) a (end / 2)) up (others_over nodes ids _ slot end settled i.others);
      within = omega (arith, i.within, settled.long);
      long = settled.long ∙ i.long;
    }

pub returns-clause-won : goal.returns-clause-won
returns-clause-won g c = others_all c.args.nodes.now c.loop-end.ids (c.loop-end.end - 1) c.loop-end.end (omega (arith, c.loop-end-test.false)) c.loop-end.invariant.others
