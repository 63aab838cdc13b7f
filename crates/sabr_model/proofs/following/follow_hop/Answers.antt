use Rattle.sabr_model.proofs.ListLemmas.Names.{◌≡◌, ◌∷◌, ◌++◌, [], Some, rules, first_fault}
use Rattle.sabr_model.proofs.RouteLemmas.Follows.{first_fault_behind, path_behind}
use Rattle.sabr_model.proofs.following.follow_hop.Goals as goal

pub returns-in_err-hop-clause-fault : goal.returns-in_err-hop-clause-fault
returns-in_err-hop-clause-fault g c =
    let p = c.args.plan.now.plan in
    let r = c.args.request.now in
    let f = c.in_err-hop.field-0.0 in
    let is : first_fault p r [] (c.args.prefix.now ++ c.args.number ∷ []) ≡ Some f = first_fault_behind p r c.args.prefix.now c.args.number f c.requires.path c.in_err-hop.ensures.err in
    search rules

pub returns-clause-path : goal.returns-clause-path
returns-clause-path g c = path_behind c.args.plan.now.plan c.args.request.now c.args.prefix.now c.args.number c.requires.path c.in_ok-hop.ensures.good
