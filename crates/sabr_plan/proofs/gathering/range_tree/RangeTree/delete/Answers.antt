-- The range is found by its key, and the tree has the others.
use Rattle.sabr_plan.proofs.Names.{◌∙◌, ap, filter, not, Range, begins}
use Rattle.sabr_plan.proofs.RangeTrees.{tree_less}
use Rattle.sabr_plan.proofs.gathering.range_tree.RangeTree.delete.Goals.{in-Some, in-None}
use Rattle.sabr_plan.proofs.gathering.range_tree.RangeTree.delete.Goals as goal

pub invariant_of-self : goal.invariant_of-self
invariant_of-self g c = (tree_less c.self.inside.ranges c.remove.new.self c.self.invariant c.args.one c.args.other c.args.start c.remove.ensures.entries).0

pub returns-clause-ok : goal.returns-clause-ok
returns-clause-ok g c =
    let left = (tree_less c.self.inside.ranges c.remove.new.self c.self.invariant c.args.one c.args.other c.args.start c.remove.ensures.entries).1 in
    let is = left ∙ ap (filter (λ (r : Range). not (begins c.args.one c.args.other c.args.start r))) c.self.view_is in
    elim c.match-remove.branch [ in-Some w ↦ rw w.result-is is | in-None w ↦ rw w.result-is tt ]
