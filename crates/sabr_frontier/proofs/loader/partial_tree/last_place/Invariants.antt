use Rattle.sabr_frontier.proofs.Names.{◌≡◌, take, RouteRecord, Member}
use Rattle.sabr_frontier.proofs.loader.partial_tree.last_place.Given as goal

abbrev pub invariant-loop-i : goal.invariant-loop-i
invariant-loop-i g l = (x : RouteRecord) → Member x (take l.i l.leaves) → x.contacts ≡ l.last → ⊥
