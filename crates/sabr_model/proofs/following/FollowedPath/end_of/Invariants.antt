use Rattle.sabr_model.proofs.ListLemmas.Names.{take, IsFollowedPath}
use Rattle.sabr_model.proofs.following.FollowedPath.end_of.Given as goal

abbrev pub invariant-loop-i : goal.invariant-loop-i
invariant-loop-i g l = IsFollowedPath l.plan l.request (take l.i l.contacts) l.self
