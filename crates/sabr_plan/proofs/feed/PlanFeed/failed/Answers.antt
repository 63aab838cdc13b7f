-- After what is held, the reader's failure is reported.
use Rattle.sabr_plan.proofs.Names.{ap, ◌∙◌, Err, false}
use Rattle.sabr_plan.specs.Feeding.{Fed}
use Rattle.sabr_plan.proofs.Held.{broken_held}
use Rattle.sabr_plan.proofs.Outcomes.{outcome-end}
use Rattle.sabr_plan.proofs.feed.PlanFeed.failed.Goals as goal

pub returns-clause-value : goal.returns-clause-value
returns-clause-value g c =
    let i = c.self.inside in
    let s : Fed = record { lines = i.lines; reading = i.reading; held = i.held.items } in
    let inv = c.self.invariant in
    rw (← c.self.view_is) (outcome-end s false inv.3 ∙ ap Err (broken_held i.lines i.held.items inv.0 inv.1 inv.2))
