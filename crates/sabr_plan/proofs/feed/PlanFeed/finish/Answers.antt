-- The text ends after what is held.
use Rattle.sabr_plan.proofs.Names.{◌≡◌, ◌+◌, sym, ap, ◌∙◌, true, inl, inr, [], Ok, Err, ◌⊎◌, err_from_is_err_and, ContactPlan}
use Rattle.sabr_plan.specs.declared.fault.PlanFault.{PlanFault}
use Rattle.sabr_plan.specs.declared.fault.PlanKind.TheVariants as kind
use Rattle.sabr_plan.specs.Steps.{given_as}
use Rattle.sabr_plan.specs.Words.{is_one_line}
use Rattle.sabr_plan.specs.Reading.{Reading, ended_line}
use Rattle.sabr_plan.specs.Feeding.{Fed, outcome}
use Rattle.sabr_plan.proofs.Outcomes.{outcome-end}
use Rattle.sabr_plan.proofs.feed.PlanFeed.finish.Goals as goal

refused : (s : Fed) (f : PlanFault) → is_one_line s.held ≡ true → (f.kind ≡ kind.NoMemory) ⊎ (ended_line (s.lines + 1) s.reading s.held ≡ Err f) → (f.kind ≡ kind.NoMemory) ⊎ (outcome s [] true ≡ Err f)
refused s f one (inl memory) = inl memory
refused s f one (inr e) = inr (outcome-end s true one ∙ ap (given_as (λ r. r.plan)) e)

read : (s : Fed) (r : Reading) (p : ContactPlan) → is_one_line s.held ≡ true → ended_line (s.lines + 1) s.reading s.held ≡ Ok r → p ≡ r.plan → outcome s [] true ≡ Ok p
read s r p one e same = outcome-end s true one ∙ ap (given_as (λ r. r.plan)) e ∙ ap Ok (sym same)

pub returns-in_err-end_text : goal.returns-in_err-end_text
returns-in_err-end_text g c =
    let p = err_from_is_err_and c.from_residual.result c.from_residual.ensures.1 in
    let h = c.in_err-end_text.ensures in
    rw (p.1, p.2) (refused c.args.self c.in_err-end_text.field-0.0 h.held h.value)

pub returns-in-Ok : goal.returns-in-Ok
returns-in-Ok g c =
    let h = c.in_ok-end_text.ensures in
    read c.args.self _ _ h.held h.value (rw c.in-Ok.is at c.into_plan.ensures ∙ ap (λ (s : Fed). s.reading.plan) c.self.view_is)
