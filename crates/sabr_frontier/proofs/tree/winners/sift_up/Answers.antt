use Rattle.std.proofs.Common.{◌-◌, ◌/◌, arith, refl, sym, ◌∙◌, length-set}
use Rattle.sabr_frontier.proofs.TreeLemmas.SlotWinners.{sifted_ends, sifted_on, sifted_stops}
use Rattle.sabr_frontier.proofs.tree.winners.sift_up.Goals as goal

pub loop-slot-init : goal.loop-slot-init
loop-slot-init g c = record { sifted = c.requires; long = refl }

pub returns-then-not-is_lesser-clause-won : goal.returns-then-not-is_lesser-clause-won
returns-then-not-is_lesser-clause-won g c =
    let l = c.loop-slot in
    let p = (l.slot - 1) / 2 in
    sifted_stops c.args.nodes.now l.ids l.slot c.args.id l.invariant.sifted p (omega (arith, c.loop-slot-test.true)) (omega arith) (sym c.is_lesser.ensures ∙ c.if-not-is_lesser.true)

pub loop-slot-preserved : goal.loop-slot-preserved
loop-slot-preserved g c =
    let l = c.loop-slot in
    let p = (l.slot - 1) / 2 in
    record {
      sifted = sifted_on c.args.nodes.now l.ids l.slot c.args.id l.invariant.sifted p (omega (arith, c.loop-slot-test.true)) (omega arith) (sym c.is_lesser.ensures ∙ c.if-not-is_lesser.false);
      long = length-set l.ids p c.args.id ∙ l.invariant.long;
    }

pub returns-clause-won : goal.returns-clause-won
returns-clause-won g c = sifted_ends c.args.nodes.now c.loop-slot.ids c.loop-slot.slot c.args.id c.loop-slot.invariant.sifted (omega (arith, c.loop-slot-test.false))
