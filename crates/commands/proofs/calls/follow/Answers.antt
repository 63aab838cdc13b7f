use Rattle.std.proofs.Common.{[], None, Err, ap, inr, refl, ◌∙◌}
use Rattle.std.proofs.lemmas.Result.{err_from_is_err_and}
use Rattle.commands.specs.words.Values.{values_in}
use Rattle.commands.proofs.calls.follow.Goals as goal

pub returns-in_err-plan-clause-stopped : goal.returns-in_err-plan-clause-stopped
unfolding values_in
returns-in_err-plan-clause-stopped g c =
    let (failure, is, same) = err_from_is_err_and c.from_residual.result c.from_residual.ensures.1 in
    let (refusal, unopened) = c.in_err-plan.ensures.refused in
    rw (is ∙ ap Err (same ∙ refusal)) (inr (inr (record { request = None; count = None; contacts = [] }, refl, unopened)))

pub returns-in_err-lists-clause-stopped : goal.returns-in_err-lists-clause-stopped
unfolding values_in
returns-in_err-lists-clause-stopped g c =
    let (failure, is, same) = err_from_is_err_and c.from_residual-in_err-lists.result c.from_residual-in_err-lists.ensures.1 in
    let (refusal, unopened) = c.in_err-lists.ensures.refused in
    rw (is ∙ ap Err (same ∙ refusal)) (inr (inr (record { request = None; count = None; contacts = [] }, refl, (refl, (g.D.File.Read.input c.in_ok-plan.plan, c.in_ok-plan.ensures.opened), unopened))))
