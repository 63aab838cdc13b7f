use Rattle.std.proofs.Common.{sym, ◌∙◌}
use Rattle.sabr_model.proofs.RouteLemmas.Follows.{any_receives, received_behind}
use Rattle.sabr_model.proofs.following.is_received.Goals as goal

pub loop-number-init : goal.loop-number-init
loop-number-init g c = sym (any_receives c.args.plan.now.plan c.args.node c.args.numbers.now)

pub loop-number-preserved : goal.loop-number-preserved
loop-number-preserved g c = received_behind c.args.plan.now.plan c.args.node c.args.numbers.now c.loop-number.number-index c.loop-number-test.true c.loop-number.invariant (sym c.receives.ensures ∙ c.if-receives.false)
