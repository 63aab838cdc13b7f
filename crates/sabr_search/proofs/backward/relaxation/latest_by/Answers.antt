use Rattle.std.proofs.Common.{arith}
use Rattle.sabr_search.proofs.BackwardLemmas.Relaxing.{first_relaxing, goal_begun, deadlines_for}
use Rattle.sabr_search.proofs.backward.relaxation.latest_by.Goals as goal

pub relax_all-requires-clause-relaxing : goal.relax_all-requires-clause-relaxing
relax_all-requires-clause-relaxing g c = first_relaxing _ c.requires.whole.is _ _ c.in_ok-latest.ensures

pub returns : goal.returns
returns g c =
    let task = c.args.task.now in
    let begins = goal_begun task c.requires.whole.is _ _ c.in_ok-latest.ensures in
    record { deadline = deadlines_for task c.requires.whole _ _ (omega (arith, begins, c.in_ok-relax_all.ensures.rises task.goal)) c.in_ok-relax_all.ensures.relaxed }
