use Rattle.sabr_frontier.proofs.Names.{ap, subst, ◌∙◌, IfOk, TabledPlan, Calls, IsStarted}
use Rattle.sabr_frontier.specs.session.LastPage.{LastSeen}
use Rattle.sabr_frontier.proofs.session.last_page.LastPage.start_again.Goals as goal

pub returns : goal.returns
returns g c =
    let made = c.into_index_and_finder-index in
    let seen = c.self.view_is in
    subst (λ (p : TabledPlan). IfOk c.start_with_index.result (IsStarted p c.args.request c.args.self.calls)) (made.ensures.index ∙ ap (λ (v : LastSeen). v.plan) seen)
    (subst (λ (calls : Calls). IfOk c.start_with_index.result (IsStarted made.result.0 c.args.request calls)) (made.ensures.calls ∙ ap (λ (v : LastSeen). v.calls) seen) c.start_with_index.ensures)
