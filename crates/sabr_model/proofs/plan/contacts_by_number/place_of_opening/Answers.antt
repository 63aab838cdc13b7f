use Rattle.std.proofs.Common.{rules, tests}
use Rattle.std.proofs.lemmas.Iterator.{YieldsList-from_slice}
use Rattle.std.proofs.lemmas.Iterator.Search.{position_from_yields_List}
use Rattle.sabr_model.specs.plan.Plan.{opens}
use Rattle.sabr_model.proofs.PlanLemmas.Removed.{found_place}
use Rattle.sabr_model.proofs.plan.contacts_by_number.place_of_opening.Goals as goal

pub returns : goal.returns
returns c =
    let cs = c.args.contacts.now in
    let p = opens c.args.from c.args.to c.args.start in
    found_place p cs c.position.result (position_from_yields_List p _ _ c.position.result c.position.ensures.ran (YieldsList-from_slice cs cc) (λ x b q k. search (rules, tests)))
