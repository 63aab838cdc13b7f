use Rattle.std.proofs.Common.{◌≡◌, Result, Ok, Err, ap, sym, subst, ◌∙◌}
use Rattle.std.specs.Prelude.{IfOk, IfSome}
use Rattle.sabr_model.specs.declared.fault.NoMemory.{NoMemory}
use Rattle.sabr_model.specs.plan.Plan.{TabledPlan}
use Rattle.sabr_model.specs.routes.Arrival.{RouteRequest}
use Rattle.sabr_search.specs.questions.Calls.{Calls}
use Rattle.sabr_frontier.specs.listing.Listing.{state_at}
use Rattle.sabr_frontier.specs.session.LastPage.{LastSeen}
use Rattle.sabr_frontier.specs.session.Session.{IsStarted, Seen}
use Rattle.commands.proofs.runs.answering.Answering.start.Goals as goal
use Rattle.commands.proofs.runs.answering.Answering.start.Goals.{in-Some, in-None}

-- a session just started over this plan
started : (x : Result Seen NoMemory) (p q : TabledPlan) (r : RouteRequest) (calls : Calls) → p ≡ q → IfOk x (IsStarted p r calls) → IfOk x (λ s. (s.plan ≡ q) × (s.request ≡ r) × (s.state ≡ state_at q.plan r 0))
started (Ok s) p q r calls same is = (ap (λ (v : Seen). v.plan) is.shows ∙ same, ap (λ (v : Seen). v.request) is.shows, ap (λ (v : Seen). v.state) is.shows ∙ ap (λ (t : TabledPlan). state_at t.plan r 0) same)
started (Err e) p q r calls same is = tt

pub returns-clause-started : goal.returns-clause-started
returns-clause-started g c =
    elim c.match-take.branch [
      | in-Some w ↦
          let same = subst (λ o. IfSome o (λ (last : LastSeen). last.plan ≡ c.self.inside.plan.now)) (sym c.take.ensures.value ∙ w.in-Some.is) c.self.invariant in
          rw w.result-is (started w.start_again.result w.in-Some.before.plan c.args.self.now c.args.request w.in-Some.before.calls (same ∙ c.self.view_is) w.start_again.ensures)
      | in-None w ↦ rw w.result-is (started w.start.result c.self.inside.plan.now c.args.self.now c.args.request _ c.self.view_is w.start.ensures)
    ]
