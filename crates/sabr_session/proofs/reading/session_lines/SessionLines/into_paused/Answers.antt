-- The session is that of the lines: the loader is over their plan.
use Rattle.std.proofs.Common.{◌≡◌, ◌∙◌, ℕ, List, Ok, Option, Some, None, ap, refl, subst, sym}
use Rattle.sabr_model.specs.plan.Plan.{TabledPlan}
use Rattle.sabr_model.specs.routes.Arrival.{RouteRequest}
use Rattle.sabr_frontier.specs.listing.Listing.{IsState}
use Rattle.sabr_frontier.specs.listing.State.{PartState}
use Rattle.sabr_frontier.specs.loading.Loading.{Loaded, session_with, state_with}
use Rattle.sabr_frontier.specs.session.Paused.{IsPausedOver, seen_over, state_of}
use Rattle.sabr_frontier.specs.session.Session.{Seen}
use Rattle.sabr_session.specs.SessionFed.{IsSessionFrom, OpenText}
use Rattle.sabr_session.specs.PausedTexts.{HasFinder, parts_by, request_by}
use Rattle.sabr_session.specs.SessionRead.{Said}
use Rattle.sabr_session.proofs.reading.session_lines.SessionLines.into_paused.Goals as goal

-- a loader is over the plan
loader_plan : {B : Type 0} (plan : TabledPlan) (finder : Option B) (l : Option Loaded) (m : Loaded) → HasFinder plan finder l → l ≡ Some m → m.plan ≡ plan
loader_plan plan None (Some l) m has is = cc
loader_plan plan None None m has is = absurd has
loader_plan plan (Some b) None m has is = absurd cc
loader_plan plan (Some b) (Some l) m has is = absurd has

-- a session that shows what such a loader ends in is that of the lines
of_lines : (plan : TabledPlan) (said : Said) (l : Loaded) (t : Seen) → l.plan ≡ plan → said.request ≡ l.request → said.parts ≡ l.parts → t ≡ session_with l said.emitted said.last_route
    → IsState l.plan.plan l.request (state_with l.parts said.emitted said.last_route) → IsSessionFrom plan (Ok said) (Ok t)
of_lines plan said l t over request parts is formed =
    rw (is, over) (refl, (ap (λ (r : RouteRequest). (r, state_with l.parts said.emitted said.last_route)) (sym request) ∙ ap (λ (ps : List PartState). (said.request, state_with ps said.emitted said.last_route)) (sym parts), rw (← over, request, parts) formed))

pub returns-in-Ok-clause-from : goal.returns-in-Ok-clause-from
returns-in-Ok-clause-from g c =
    let i = c.self.inside in
    let s = c.in-Ok.paused in
    let l = c.in-Some.loader in
    let over = loader_plan i.plan.now i.finder i.loader l c.self.invariant.0 c.in-Some.is in
    let last : c.as_slice.result.now ≡ i.last = cc in
    let said : Said = record { version = i.version; request = request_by i.loader; emitted = i.emitted; last_route = i.last; count = i.count; parts = parts_by i.loader } in
    let is : seen_over g.B.BestOf.calls_of i.plan.now s ≡ session_with l i.emitted i.last =
    subst (λ (q : TabledPlan). seen_over g.B.BestOf.calls_of q s ≡ session_with l i.emitted i.last) over (subst (λ (ns : List ℕ). seen_over g.B.BestOf.calls_of l.plan s ≡ session_with l i.emitted ns) last c.in-Ok.ensures.ok) in
    let formed = subst (λ (ns : List ℕ). IsState l.plan.plan l.request (state_with l.parts i.emitted ns)) last c.in-Ok.ensures.formed in
    subst (λ (t : OpenText). IsSessionFrom t.plan (Ok t.fed.said) (Ok (seen_over g.B.BestOf.calls_of t.plan s))) c.self.view_is
    (of_lines i.plan.now said l (seen_over g.B.BestOf.calls_of i.plan.now s) over (ap request_by c.in-Some.is) (ap parts_by c.in-Some.is) is formed)

pub returns-in-Ok-clause-paused : goal.returns-in-Ok-clause-paused
returns-in-Ok-clause-paused g c =
    let i = c.self.inside in
    let over = loader_plan i.plan.now i.finder i.loader c.in-Some.loader c.self.invariant.0 c.in-Some.is in
    subst (λ (t : OpenText). IsPausedOver t.plan c.in-Ok.paused) c.self.view_is (subst (λ (q : TabledPlan). IsPausedOver q c.in-Ok.paused) over c.in-Ok.ensures.paused)

pub returns-in-Ok-clause-formed : goal.returns-in-Ok-clause-formed
returns-in-Ok-clause-formed g c =
    let i = c.self.inside in
    let s = c.in-Ok.paused in
    let over = loader_plan i.plan.now i.finder i.loader c.in-Some.loader c.self.invariant.0 c.in-Some.is in
    let shown = subst (λ (t : Seen). IsState t.plan.plan t.request t.state) (sym c.in-Ok.ensures.ok) c.in-Ok.ensures.formed in
    subst (λ (t : OpenText). IsState t.plan.plan s.searcher.request (state_of s)) c.self.view_is (subst (λ (q : TabledPlan). IsState q.plan s.searcher.request (state_of s)) over shown)
