use Rattle.std.proofs.Common.{length, ◌-◌}
use Rattle.sabr_model.specs.plan.Openings.{IsNoted}
use Rattle.sabr_model.proofs.plan.openings.Openings.note_all.Given as goal

abbrev pub invariant-loop-self : goal.invariant-loop-self
invariant-loop-self g l = IsNoted l.self.numbers l.self.noted l.contacts

abbrev pub decreases-loop-self : goal.decreases-loop-self
decreases-loop-self g l = length l.contacts - l.self.noted
