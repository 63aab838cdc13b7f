use Rattle.std.proofs.Common.{arith}
use Rattle.sabr_session.proofs.hops.Hops.new.Goals as goal

pub invariant_of-result : goal.invariant_of-result
invariant_of-result g c = record { within = omega arith; path = c.at_source.ensures; summed = c.of.ensures; stops = tt; faulty = tt }
