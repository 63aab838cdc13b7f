use Rattle.std.proofs.Common.{◌≡◌, None, Some, sym, subst, ap, ◌∙◌, IsOkUnless}
use Rattle.sabr_model.specs.declared.fault.AddFault.TheVariants.{NoMemory}
use Rattle.sabr_model.specs.plan.Adding.{range_refusal}
use Rattle.libcgrlist.specs.Opened.{OpenPlan}
use Rattle.libcgrlist.proofs.opened.Opened.add_range.Goals as goal

pub returns-in-Ok-clause-refused : goal.returns-in-Ok-clause-refused
returns-in-Ok-clause-refused c f e =
    let same = ap (λ (o : OpenPlan). o.plan.plan) c.self.view_is in
    sym c.in-Ok.is ∙ c.add_range.ensures.refused f (subst (λ p. range_refusal p c.args.new.now ≡ Some f) (sym same) e)

pub returns-in-Err-clause-refused : goal.returns-in-Err-clause-refused
returns-in-Err-clause-refused c f e =
    let same = ap (λ (o : OpenPlan). o.plan.plan) c.self.view_is in
    sym c.in-Err.is ∙ c.add_range.ensures.refused f (subst (λ p. range_refusal p c.args.new.now ≡ Some f) (sym same) e)

pub returns-in-Err-clause-accepted : goal.returns-in-Err-clause-accepted
returns-in-Err-clause-accepted c e =
    let same = ap (λ (o : OpenPlan). o.plan.plan) c.self.view_is in
    subst (λ o. IsOkUnless o NoMemory) c.in-Err.is (c.add_range.ensures.accepted (subst (λ p. range_refusal p c.args.new.now ≡ None) (sym same) e))
