use Rattle.std.proofs.Common.{sym, ◌∙◌}
use Rattle.sabr_frontier.proofs.TreeLemmas.SlotWinners.{lesser_other, lesser_same}
use Rattle.sabr_frontier.proofs.tree.winners.lesser.Goals as goal

pub returns-then-is_lesser : goal.returns-then-is_lesser
returns-then-is_lesser g c = lesser_other c.args.nodes.now c.args.id c.args.other (sym c.is_lesser.ensures ∙ c.if-is_lesser.true)

pub returns : goal.returns
returns g c = lesser_same c.args.nodes.now c.args.id c.args.other (sym c.is_lesser.ensures ∙ c.if-is_lesser.false)
