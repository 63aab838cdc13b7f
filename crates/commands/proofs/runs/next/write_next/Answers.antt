use Rattle.std.proofs.Common.{◌≡◌, Ok, Err, refl, ap, sym, ◌∙◌}
use Rattle.std.proofs.lemmas.Result.{err_from_is_err_and}
use Rattle.std.specs.Prelude.{is_some}
use Rattle.sabr_model.specs.plan.Plan.{TabledPlan}
use Rattle.sabr_plan.specs.Canonical.{digest_of}
use Rattle.sabr_session.specs.declared.session_fault.SessionFault.TheVariants.{NoMemory}
use Rattle.commands.proofs.RunLemmas.PageTexts.{is_over_plan}
use Rattle.commands.proofs.runs.next.write_next.Goals as goal
use Rattle.commands.proofs.runs.next.write_next.Goals.{then-keep, else-keep}

-- a session that isn't read has no answer, and nothing is asked of one
pub returns-in_err-plan : goal.returns-in_err-plan
returns-in_err-plan g c =
    let (failure, is, same) = err_from_is_err_and c.from_residual.result c.from_residual.ensures.1 in
    (Err c.in_err-plan.field-0.0, (Err NoMemory, (c.in_err-plan.ensures {u = tt}).read, refl, (is ∙ ap Err same, refl, refl)))

pub returns-in_err-listing : goal.returns-in_err-listing
returns-in_err-listing g c =
    let (failure, is, same) = err_from_is_err_and c.from_residual-in_err-listing.result c.from_residual-in_err-listing.ensures.1 in
    (Ok c.in_ok-plan.plan, (Err c.in_err-listing.field-0.0, c.in_ok-plan.ensures.read, c.in_err-listing.ensures.read, (is ∙ ap Err same, refl, refl)))

pub write_page-requires-clause-digest : goal.write_page-requires-clause-digest
write_page-requires-clause-digest g c =
    let over = is_over_plan _ _ _ _ (c.in_ok-listing.ensures {u = tt}).read in
    let same = c.digest-digest.ensures ∙ ap (λ (p : TabledPlan). digest_of p.plan) (sym over) in
    elim c.if-keep.branch [
      | then-keep w ↦ rw w.keep-is same
      | else-keep w ↦ rw w.keep-is tt
    ]

pub returns : goal.returns
returns g c =
    let over = is_over_plan _ _ _ _ (c.in_ok-listing.ensures {u = tt}).read in
    let keeps : is_some c.if-keep.keep ≡ c.args.to.keep = elim c.if-keep.branch [
      | then-keep w ↦ ap is_some w.keep-is ∙ sym w.if-keep.true
      | else-keep w ↦ ap is_some w.keep-is ∙ sym w.if-keep.false
    ]
    in
    (Ok c.in_ok-plan.plan, (Ok c.in_ok-listing.listing, c.in_ok-plan.ensures.read, c.in_ok-listing.ensures.read, rw (← keeps) (rw over at c.write_page.ensures)))
