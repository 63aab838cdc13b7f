use Rattle.std.proofs.Common.{[], ◌∷◌, ◌++◌}
use Rattle.sabr_frontier.proofs.LoadingLemmas.LoadedParts.{faulty_front}
use Rattle.sabr_frontier.proofs.loader.path_end.PathEnd.extended.Goals as goal

pub returns-in_default-clause-none : goal.returns-in_default-clause-none
returns-in_default-clause-none g c =
    faulty_front c.args.plan.now.plan c.args.request.now c.follow_hop.result (c.args.prefix.now ++ c.args.number ∷ []) c.follow_hop.ensures.fault c.in_default.not-Ok
