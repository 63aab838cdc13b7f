use Rattle.sabr_plan.proofs.Names.{arith, common_steps}
use Rattle.sabr_plan.proofs.ChainedPlaces.{chained_told}
use Rattle.sabr_plan.proofs.gathering.chains.Chains.size.Goals as goal

pub returns-in_ok-resize-clause-chained : goal.returns-in_ok-resize-clause-chained
returns-in_ok-resize-clause-chained g c = λ ks h. chained_told ks _ _ _ (λ b. grind (arith, common_steps)) h
