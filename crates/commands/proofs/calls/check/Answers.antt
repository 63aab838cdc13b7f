use Rattle.std.proofs.Common.{[], None, Err, ap, inr, refl, ◌∙◌}
use Rattle.std.proofs.lemmas.Result.{err_from_is_err_and}
use Rattle.commands.specs.words.Values.{values_in}
use Rattle.commands.proofs.calls.check.Goals as goal

pub returns-in_err-plan-clause-stopped : goal.returns-in_err-plan-clause-stopped
unfolding values_in
returns-in_err-plan-clause-stopped g c =
    let (failure, is, same) = err_from_is_err_and c.from_residual.result c.from_residual.ensures.1 in
    let (refusal, unopened) = c.in_err-plan.ensures.refused in
    rw (is ∙ ap Err (same ∙ refusal)) (inr (inr (record { request = None; count = None; contacts = [] }, refl, unopened)))
