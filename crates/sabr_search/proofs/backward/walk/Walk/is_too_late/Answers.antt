use Rattle.std.proofs.Common.{◌<◌, length, arith}
use Rattle.std.proofs.lemmas.Bool.{leb-true}
use Rattle.sabr_search.proofs.WholeLemmas.Leaves.{start_late}
use Rattle.sabr_search.proofs.WholeLemmas.Walks.{level_nodes, some_end}
use Rattle.sabr_search.proofs.backward.walk.Walk.is_too_late.Given.{Over}
use Rattle.sabr_search.proofs.backward.walk.Walk.is_too_late.Goals.{After-start-start}
use Rattle.sabr_search.proofs.backward.walk.Walk.is_too_late.Goals as goal

-- the layers have a place for the start
within : (g : Over) (c : After-start-start g) → c.start-start.result < length c.args.layers.now.place.items
within g c = omega (arith, c.start-start.ensures, level_nodes c.args.task.now c.requires.task c.args.self.now.delivery c.args.hops c.args.layers.now c.requires.whole_deadlines, c.requires.task.start_in)

pub head-requires-clause-deadline : goal.head-requires-clause-deadline
head-requires-clause-deadline g c = omega (arith, within g (goal.at.head-requires-clause-deadline g c).After-start-start, c.requires.whole_deadlines.layers.chained.many)

pub head-requires-clause-place : goal.head-requires-clause-place
head-requires-clause-place g c = within g (goal.at.head-requires-clause-place g c).After-start-start

pub head-requires-clause-within : goal.head-requires-clause-within
head-requires-clause-within g c = (c.requires.whole_deadlines.layers.chained.last c.start-start.result (within g (goal.at.head-requires-clause-within g c).After-start-start)).within

pub end_of-end-requires : goal.end_of-end-requires
end_of-end-requires g c = some_end c.args.task.now c.requires.task c.args.self.now.delivery c.args.hops c.args.layers.now c.requires.whole_deadlines

pub before-requires-clause-node : goal.before-requires-clause-node
before-requires-clause-node g c = within g (goal.at.before-requires-clause-node g c).After-start-start

pub returns : goal.returns
returns g c = λ late.
    let task = c.args.task.now in
    let layers = c.args.layers.now in
    let last = c.requires.whole_deadlines.layers.chained.last c.start-start.result (within g (goal.at.returns g c).After-start-start) in
    start_late task c.requires.task c.args.self.now.delivery c.args.hops layers c.requires.whole_deadlines c.head.result c.before-2.result (omega (arith, c.if-head-eq0.false)) (rw (c.head.ensures, ← c.start-start.ensures) last)
    (rw (c.start-start.ensures, c.end_of-end.ensures) at c.before-2.ensures.latest) (omega (arith, leb-true c.before-2.result c.at.result late, c.at.ensures))
