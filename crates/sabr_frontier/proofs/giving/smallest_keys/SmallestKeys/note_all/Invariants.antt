use Rattle.sabr_frontier.proofs.Names.{take, AreNoted, carried_keys}
use Rattle.sabr_frontier.proofs.giving.smallest_keys.SmallestKeys.note_all.Given as goal

abbrev pub invariant-loop-place : goal.invariant-loop-place
invariant-loop-place g l = AreNoted l.fn.self (carried_keys (take l.place l.nodes)) l.self
