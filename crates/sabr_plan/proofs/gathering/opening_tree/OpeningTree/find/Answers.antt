-- The index in the tree is that of the contact that stands, if one does.
use Rattle.sabr_plan.proofs.Names.{◌∙◌, sym, arith}
use Rattle.sabr_plan.proofs.TreedOpenings.{nothing_there, another_there}
use Rattle.sabr_plan.proofs.gathering.opening_tree.OpeningTree.find.Goals.{else-index-contacts-via-then-index-contacts+else-stands_at, else-index-contacts-via-else-index-contacts}
use Rattle.sabr_plan.proofs.gathering.opening_tree.OpeningTree.find.Goals as goal

pub returns-in_default-get-clause-found : goal.returns-in_default-get-clause-found
returns-in_default-get-clause-found g c =
    nothing_there c.args.opening.now _ _ c.args.contacts.now c.add_all.ensures.treed (c.in-Ok.ensures {u = tt}).all (sym (c.in_default-get.ensures {u = tt}).value)

pub returns-clause-found : goal.returns-clause-found
returns-clause-found g c =
    another_there c.args.opening.now _ _ c.args.contacts.now c.add_all.ensures.treed (c.in-Ok.ensures {u = tt}).all c.in-Some.index.now (sym (c.in-Some.ensures {u = tt}).value)
    (elim c.else-index-contacts.branch [
      | else-index-contacts-via-then-index-contacts+else-stands_at w ↦ λ lt. sym w.stands_at.ensures ∙ w.if-stands_at.false
      | else-index-contacts-via-else-index-contacts w ↦ λ lt. absurd (let no_less = w.if-index-contacts.false in omega (arith, lt, no_less))
    ])
