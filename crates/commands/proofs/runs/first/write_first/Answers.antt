use Rattle.std.proofs.Common.{◌≡◌, Ok, refl, ap, sym, ◌∙◌}
use Rattle.std.proofs.lemmas.Result.{err_from_is_err_and}
use Rattle.std.specs.Prelude.{is_some}
use Rattle.commands.proofs.RunLemmas.PageTexts.{first_report_is, first_place}
use Rattle.commands.proofs.runs.first.write_first.Goals as goal
use Rattle.commands.proofs.runs.first.write_first.Goals.{then-keep, else-keep}

pub returns-in_err-listing : goal.returns-in_err-listing
returns-in_err-listing g c =
    let (failure, is, same) = err_from_is_err_and c.from_residual-in_err-listing.result c.from_residual-in_err-listing.ensures.1 in
    (Ok c.in_ok-plan.plan, c.in_ok-plan.ensures.read, rw (is, same) (refl, refl))

pub returns : goal.returns
returns g c =
    let p = c.in_ok-plan.plan.plan in
    let r = c.args.request in
    let keeps : is_some c.if-keep.digest ≡ c.args.to.keep = elim c.if-keep.branch [
      | then-keep w ↦ ap is_some w.digest-is ∙ sym w.if-keep.true
      | else-keep w ↦ ap is_some w.digest-is ∙ sym w.if-keep.false
    ]
    in
    let written = rw (c.in_ok-listing.ensures {u = tt}).shows at c.write_page.ensures in
    (Ok c.in_ok-plan.plan, c.in_ok-plan.ensures.read, rw (← keeps, ← first_report_is p r c.args.count c.rules_hold.ensures, ← first_place p r c.args.count c.rules_hold.ensures) written)
