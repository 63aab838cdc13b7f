use Rattle.sabr_frontier.proofs.Names.{sym, subst, arith, AreWinners}
use Rattle.sabr_frontier.proofs.tree.winners.rebuild.Goals as goal

pub fill-requires-clause-won : goal.fill-requires-clause-won
fill-requires-clause-won g c = subst (AreWinners c.args.nodes.now) (sym c.clear.ensures.items) (λ k l. absurd (omega (arith, l)))
