use Rattle.std.proofs.Common.{sym}
use Rattle.sabr_search.proofs.WholeLemmas.Walks.{start_of, visit_at, visit_none}
use Rattle.sabr_search.proofs.backward.walk.Walk.here.Goals as goal

pub returns-in-Some : goal.returns-in-Some
returns-in-Some g c = sym (visit_at (start_of c.args.task.now) c.args.self.now.steps.items c.in-Some.step.now (sym (rw c.as_slice.ensures.value at c.in-Some.ensures.value)))

pub returns-in-None : goal.returns-in-None
returns-in-None g c = rw c.beginning.ensures (sym (visit_none (start_of c.args.task.now) c.args.self.now.steps.items (sym (rw c.as_slice.ensures.value at c.in-None.ensures.value))))
