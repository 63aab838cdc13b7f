use Rattle.sabr_plan.proofs.Names.{[], refl, IsPlan-empty}
use Rattle.sabr_plan.proofs.ChainedPlaces.{chained_none}
use Rattle.sabr_plan.proofs.TreedOpenings.{treed_none}
use Rattle.sabr_plan.proofs.gathering.gathered_contacts.GatheredContacts.new.Goals as goal

pub invariant_of-result : goal.invariant_of-result
invariant_of-result g c = rw (c.new.ensures.items, c.new-2.ensures.befores, c.new-2.ensures.lasts, c.new-2.ensures.treed) (IsPlan-empty, (chained_none [], λ up. tt), treed_none _ [], λ no. refl)
