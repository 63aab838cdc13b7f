use Rattle.sabr_model.proofs.ListLemmas.Names.{◌≡◌, drop, list_any, has, receivers, receives}
use Rattle.sabr_model.proofs.following.is_received.Given as goal

abbrev pub invariant-loop-number : goal.invariant-loop-number
invariant-loop-number g l = has l.node (receivers l.plan.plan l.numbers) ≡ list_any (receives l.plan.plan l.node) (drop l.number-index l.numbers)
