use Rattle.std.proofs.Common.{arith}
use Rattle.libcgrlist.proofs.GrowingLemmas.{rules_grow}
use Rattle.libcgrlist.proofs.held.Held.put_range.Goals as goal

pub returns-in-Some-clause-grows : goal.returns-in-Some-clause-grows
returns-in-Some-clause-grows c =
    let grows = rw c.in-Some.is at c.grow.ensures.grows in
    let h = c.add.ensures in
    (grows.0, rules_grow c.grow.new.self.opened.plan.plan c.in-Some.growing c.add.new.self c.args.new c.add.result grows.1 (c.requires.one, omega arith) (c.requires.other, omega arith) c.requires.end c.requires.light h.refused h.ok h.err)
