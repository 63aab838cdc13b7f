use Rattle.std.proofs.Common.{true≢false}
use Rattle.sabr_search.proofs.settled.Settled.find_unbounded.Goals as goal

pub unreachable-requires : goal.unreachable-requires
unreachable-requires g c = true≢false (rw (c.in-Beyond.is, c.none.ensures) at c.in_ok-route.ensures.decided)
