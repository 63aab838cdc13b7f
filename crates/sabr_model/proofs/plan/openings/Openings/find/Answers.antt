use Rattle.std.proofs.Common.{◌≡◌, ◌∙◌, sym, ap, cond, arith}
use Rattle.std.specs.Prelude.{slice_get}
use Rattle.std.specs.List.{find}
use Rattle.sabr_model.specs.plan.Plan.{opens}
use Rattle.std.specs.declared.option.Option.TheVariants.{None}
use Rattle.sabr_model.proofs.PlanLemmas.KnownLemmas.{none_noted, none_numbered, only_there}
use Rattle.sabr_model.proofs.plan.openings.Openings.find.Given.{Over}
use Rattle.sabr_model.proofs.plan.openings.Openings.find.Goals.{After-opens}
use Rattle.sabr_model.proofs.plan.openings.Openings.find.Goals as goal

-- what is found
found : (g : Over) (c : After-opens g) → find (opens c.args.from c.args.to c.args.start) c.args.contacts.now ≡ cond c.opens.result (slice_get c.args.contacts.now c.in-Some-place_of_number.place) None
found g c =
    let there = c.in-Some-place_of_number.ensures in
    only_there _ _ _ c.requires.noted (omega arith) c.requires.numbered c.args.from c.args.to c.args.start c.in-Some.number.now c.in-Some-place_of_number.place (sym (c.in-Some.ensures {u = tt}).value) there.0 there.1
    ∙ ap (λ b. cond b (slice_get c.args.contacts.now c.in-Some-place_of_number.place) None) (sym c.opens.ensures)

pub returns-in_default : goal.returns-in_default
returns-in_default g c = none_noted _ _ _ c.requires.noted (omega arith) c.requires.numbered c.args.from c.args.to c.args.start (sym (c.in_default.ensures {u = tt}).value)

pub returns-in_default-place_of_number : goal.returns-in_default-place_of_number
returns-in_default-place_of_number g c =
    none_numbered _ _ _ c.requires.noted (omega arith) c.requires.numbered c.args.from c.args.to c.args.start c.in-Some.number.now (sym (c.in-Some.ensures {u = tt}).value) c.in_default-place_of_number.ensures

pub returns-then-opens : goal.returns-then-opens
returns-then-opens g c = (c.in-Some-place_of_number.ensures.0, rw c.if-opens.true at (found g (goal.at.returns-then-opens g c).After-opens))

pub returns : goal.returns
returns g c = rw c.if-opens.false at (found g (goal.at.returns g c).After-opens)
