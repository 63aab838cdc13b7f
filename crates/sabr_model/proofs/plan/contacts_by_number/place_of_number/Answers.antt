use Rattle.std.proofs.Common.{◌-◌, ◌<◌, length, arith}
use Rattle.sabr_model.proofs.PlanLemmas.Numbered.{found_here}
use Rattle.sabr_model.proofs.plan.contacts_by_number.place_of_number.Goals as goal

pub returns-then-contacts-count : goal.returns-then-contacts-count
returns-then-contacts-count c =
    let within : c.args.number - 1 < length c.args.contacts.now = omega (arith, c.if-count-gt0.true, c.if-count-contacts.true) in
    (within, found_here 0 c.args.contacts.now c.args.number (c.args.number - 1) _ c.requires within c.if-contacts-count.true)
