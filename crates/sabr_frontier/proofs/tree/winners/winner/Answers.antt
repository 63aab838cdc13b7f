use Rattle.std.proofs.Common.{arith}
use Rattle.sabr_frontier.proofs.TreeLemmas.SlotWinners.{won_alone, won_left, won_both}
use Rattle.sabr_frontier.proofs.tree.winners.winner.Goals as goal

pub returns-then-slot-ids : goal.returns-then-slot-ids
returns-then-slot-ids g c = won_alone c.args.nodes.now c.args.ids.now c.args.slot (omega (arith, c.if-slot-ids.true))

pub returns-then-slot-ids-2 : goal.returns-then-slot-ids-2
returns-then-slot-ids-2 g c = won_left c.args.nodes.now c.args.ids.now c.args.slot c.lesser-left.result (omega (arith, c.if-slot-ids.false)) (omega (arith, c.if-slot-ids-2.true)) c.lesser-left.ensures

pub returns : goal.returns
returns g c = won_both c.args.nodes.now c.args.ids.now c.args.slot c.lesser-left.result c.lesser.result (omega (arith, c.if-slot-ids-2.false)) c.lesser-left.ensures c.lesser.ensures
