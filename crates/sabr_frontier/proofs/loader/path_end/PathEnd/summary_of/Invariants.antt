use Rattle.std.proofs.Common.{◌≡◌, take}
use Rattle.sabr_model.specs.routes.Telling.{summary_of}
use Rattle.sabr_frontier.proofs.loader.path_end.PathEnd.summary_of.Given as goal

abbrev pub invariant-loop-place : goal.invariant-loop-place
invariant-loop-place g l = l.summary ≡ summary_of l.plan.plan (take l.place l.numbers)
