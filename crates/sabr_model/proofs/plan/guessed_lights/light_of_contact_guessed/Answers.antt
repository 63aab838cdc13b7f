use Rattle.std.proofs.Common.{◌≡◌, None, sym, ◌∙◌, arith, rules}
use Rattle.std.proofs.lemmas.Bool.{lt-ltb}
use Rattle.sabr_model.specs.plan.Light.{light_of_pair}
use Rattle.sabr_model.proofs.PlanLemmas.RangeOrder.{none_back}
use Rattle.sabr_model.proofs.PlanLemmas.TableSteps.{none_there}
use Rattle.sabr_model.proofs.plan.guessed_lights.light_of_contact_guessed.Goals as goal
use Rattle.sabr_model.proofs.plan.guessed_lights.light_of_contact_guessed.Goals.{then-not-both_ways+else-is_some, else-not-both_ways}

pub returns : goal.returns
returns c =
    let rs = c.args.ranges.now in
    let contact = c.args.contact.now in
    let ahead : light_of_pair rs contact.from contact.to contact.start ≡ None =
    elim c.if-not-both_ways.branch [
      | then-not-both_ways+else-is_some w ↦ sym w.light_guessed-light.ensures ∙ none_there w.light_guessed-light.result (sym w.if-is_some.false ∙ w.is_some.ensures)
      | else-not-both_ways w ↦ none_back rs c.requires.ranges contact.from contact.to contact.start (c.requires.both_ways (search rules)) (omega (arith, c.if-from-to.false))
    ] in
    rw (ahead, lt-ltb contact.to contact.from (omega (arith, c.if-from-to.false))) c.light_guessed-2.ensures
