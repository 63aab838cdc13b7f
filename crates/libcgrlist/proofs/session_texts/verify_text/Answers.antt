use Rattle.std.proofs.Common.{◌≡◌, ◌∙◌, ap, subst}
use Rattle.sabr_model.specs.plan.Plan.{TabledPlan}
use Rattle.libcgrlist.proofs.SessionTextLemmas.{verified_bytes}
use Rattle.libcgrlist.specs.Opened.{OpenPlan}
use Rattle.libcgrlist.specs.SessionTexts.{Verifies}
use Rattle.libcgrlist.proofs.session_texts.verify_text.Goals as goal

pub returns-clause-verified : goal.returns-clause-verified
returns-clause-verified c =
    let plan : c.in_ok-index.index ≡ c.args.opened.now.plan = c.in_ok-index.ensures ∙ ap (λ (o : OpenPlan). o.plan) (c.link.ensures ∙ c.digest-digest.ensures.same) in
    subst (λ (q : TabledPlan). Verifies q.plan c.args.text.now c.verify_over.result) plan
    (subst (λ w. Verifies c.in_ok-index.index.plan w c.verify_over.result) c.new-reader.ensures.rest (verified_bytes _ _ _ _ _ _ _ _ c.verify_over.ensures))
