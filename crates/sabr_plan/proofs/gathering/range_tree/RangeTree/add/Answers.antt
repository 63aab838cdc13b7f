-- A range that isn't refused goes to its key.
use Rattle.sabr_plan.proofs.Names.{◌∙◌, sym, arith}
use Rattle.sabr_plan.proofs.RangeTrees.{tree_more}
use Rattle.sabr_plan.proofs.gathering.range_tree.RangeTree.add.Goals as goal

pub invariant_of-self-2 : goal.invariant_of-self-2
invariant_of-self-2 g c = (tree_more c.self.inside.ranges c.insert.new.self c.self.invariant c.args.range c.args.self.now c.self.view_is (c.requires.one, omega arith) (c.requires.other, omega arith) c.requires.end c.requires.light (sym c.refusal.ensures ∙ c.in_default.is) c.key.result c.key.ensures c.in-Ok.ensures.entries).0

pub returns-clause-ok : goal.returns-clause-ok
returns-clause-ok g c = (tree_more c.self.inside.ranges c.insert.new.self c.self.invariant c.args.range c.args.self.now c.self.view_is (c.requires.one, omega arith) (c.requires.other, omega arith) c.requires.end c.requires.light (sym c.refusal.ensures ∙ c.in_default.is) c.key.result c.key.ensures c.in-Ok.ensures.entries).1

pub returns-clause-longer : goal.returns-clause-longer
returns-clause-longer g c = (tree_more c.self.inside.ranges c.insert.new.self c.self.invariant c.args.range c.args.self.now c.self.view_is (c.requires.one, omega arith) (c.requires.other, omega arith) c.requires.end c.requires.light (sym c.refusal.ensures ∙ c.in_default.is) c.key.result c.key.ensures c.in-Ok.ensures.entries).2
