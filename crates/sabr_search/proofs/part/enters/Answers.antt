use Rattle.std.proofs.Common.{sym}
use Rattle.sabr_model.proofs.RouteLemmas.Follows.{any_receives}
use Rattle.sabr_search.proofs.part.enters.Goals as goal

pub loop-number-init : goal.loop-number-init
loop-number-init g c = sym (any_receives c.args.plan.now.plan c.args.node c.args.numbers.now)
