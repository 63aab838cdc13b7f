use Rattle.std.proofs.Common.{◌≡◌, ◌∙◌, Ok, Err, ap, false, subst, sym}
use Rattle.sabr_model.specs.plan.Plan.{TabledPlan}
use Rattle.sabr_model.specs.routes.Asking.{IsRequest}
use Rattle.sabr_frontier.specs.session.Paused.{seen_over}
use Rattle.sabr_frontier.specs.session.Session.{Seen}
use Rattle.sabr_session.specs.SessionGiven.{ReadsSession}
use Rattle.sabr_session.specs.Verifying.{VerifiesText}
use Rattle.sabr_session.specs.declared.session_fault.SessionFault.TheVariants as fault
use Rattle.sabr_session.proofs.ReadingLemmas.Verified.{session_verified, fault_verified, break_verified}
use Rattle.sabr_session.proofs.verifying.verify_over.Goals as goal

pub returns-in-Ok-certified : goal.returns-in-Ok-certified
returns-in-Ok-certified g c =
    let old = g.R.Read.input c.args.reader.now in
    let new = g.R.Read.input c.read_paused.new.reader in
    let p = c.plan-plan.result.now in
    let same : p ≡ c.args.index = c.plan-plan.ensures in
    let shown : seen_over g.B.BestOf.calls_of p c.in-Ok.paused ≡ c.resume-session.result = ap (λ (q : TabledPlan). seen_over g.B.BestOf.calls_of q c.in-Ok.paused) same ∙ sym c.resume-session.ensures in
    subst (λ (q : TabledPlan). VerifiesText q.plan old (Ok c.in-Ok-certified.placed) new) same
    (session_verified p c.rules_hold.ensures old new c.resume-session.result
    (subst (λ (t : Seen). ReadsSession p old (Ok t) new) shown c.in-Ok.ensures.read)
    (subst (λ (t : Seen). IsRequest t.request) shown c.in-Ok.ensures.paused.session.limits)
    c.in-Ok-certified.placed c.in-Ok-certified.ensures.ok)

pub returns-in-Read : goal.returns-in-Read
returns-in-Read g c =
    let old = g.R.Read.input c.args.reader.now in
    let new = g.R.Read.input c.read_paused.new.reader in
    subst (λ (q : TabledPlan). VerifiesText q.plan old (Err fault.Read) new) c.plan-plan.ensures
    (break_verified c.plan-plan.result.now c.rules_hold.ensures old new c.in-Err.fault c.in-Err.ensures.read c.in-Read.is)

pub returns : goal.returns
returns g c =
    let old = g.R.Read.input c.args.reader.now in
    let new = g.R.Read.input c.read_paused.new.reader in
    subst (λ (q : TabledPlan). VerifiesText q.plan old (Ok false) new) c.plan-plan.ensures
    (fault_verified c.plan-plan.result.now c.rules_hold.ensures old new c.in-Err.fault c.in-Err.ensures.read c.in_default.not-Read c.in_default.not-NoMemory)
