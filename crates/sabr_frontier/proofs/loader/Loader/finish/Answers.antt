use Rattle.sabr_frontier.proofs.Names.{◌≡◌, ◌∙◌, List, ℕ, Ok, Err, ap, sym, subst, IfErr, TabledPlan, LoadFault, NoMemory, IsState, IsRefusedBy, Loaded, state_with, IsPausedOver, seen_over}
use Rattle.std.proofs.Common.{Result}
use Rattle.std.specs.Result.{IsErrAnd}
use Rattle.sabr_frontier.proofs.loader.Loader.finish.Goals as goal

-- only memory can be refused
refused : {X : Type 0} (v : Loaded) (emitted : ℕ) (last : List ℕ) (answer : Result X LoadFault) → IsState v.plan.plan v.request (state_with v.parts emitted last) → IsErrAnd answer (λ f. f ≡ NoMemory)
    → IfErr answer (IsRefusedBy v.plan.plan v.request (state_with v.parts emitted last))
refused v emitted last (Ok x) formed bad = absurd bad
refused v emitted last (Err f) formed e = rw e formed

pub returns-in_err-index-clause-err : goal.returns-in_err-index-clause-err
returns-in_err-index-clause-err g c = refused c.args.self c.args.emitted c.args.last.now c.from_residual-in_err-index.result c.in_ok-paused.ensures.formed c.from_residual-in_err-index.ensures.1

pub resume-requires : goal.resume-requires
resume-requires g c = subst (λ (p : TabledPlan). IsPausedOver p c.in_ok-paused.paused) (ap (λ (v : Loaded). v.plan) (sym c.self.view_is) ∙ sym c.in_ok-index.ensures) c.in_ok-paused.ensures.paused

pub returns-clause-ok : goal.returns-clause-ok
returns-clause-ok g c = c.resume.ensures ∙ ap (λ (p : TabledPlan). seen_over g.B.BestOf.calls_of p c.in_ok-paused.paused) (c.in_ok-index.ensures ∙ ap (λ (v : Loaded). v.plan) c.self.view_is) ∙ c.in_ok-paused.ensures.ok
