use Rattle.sabr_search.proofs.task.Task.excluded_from.Goals as goal

pub returns-clause-none : goal.returns-clause-none
returns-clause-none g c = λ none here. rw (← c.self.view_is, ← c.number.ensures) (c.counts.ensures.none none)

pub returns-clause-some : goal.returns-clause-some
returns-clause-some g c = λ j less. rw (← c.self.view_is, ← c.number.ensures) (c.if-node-self.false, c.counts.ensures.some j less)
