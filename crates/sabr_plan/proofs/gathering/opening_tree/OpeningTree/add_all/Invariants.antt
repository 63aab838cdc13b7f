use Rattle.sabr_plan.proofs.Names.{length, ◌-◌}
use Rattle.sabr_plan.specs.Gathering.{IsTreed}
use Rattle.sabr_plan.proofs.gathering.opening_tree.OpeningTree.add_all.Given as goal

abbrev pub invariant-loop-self : goal.invariant-loop-self
invariant-loop-self g l = IsTreed l.self.indexes l.self.treed l.contacts

abbrev pub decreases-loop-self : goal.decreases-loop-self
decreases-loop-self g l = length l.contacts - l.self.treed
