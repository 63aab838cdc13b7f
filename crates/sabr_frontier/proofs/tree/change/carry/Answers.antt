use Rattle.sabr_frontier.proofs.Names.{arith, set, ap, sym, ◌∙◌, option_and_then, route_of, carrying}
use Rattle.sabr_frontier.proofs.TreeLemmas.ModifiedPlaces.{set-modify, get_there}
use Rattle.sabr_frontier.proofs.tree.change.carry.Goals as goal

pub returns-clause-nodes : goal.returns-clause-nodes
returns-clause-nodes g c =
    let n = c.index_mut-part.result.now in
    ap (λ o. set c.args.nodes.now.items c.args.node.0 (carrying o n)) c.replace.ensures.after
    ∙ set-modify (carrying c.args.found) c.args.nodes.now.items c.args.node.0 n (omega arith) c.index_mut-part.ensures.value

pub returns-clause-route : goal.returns-clause-route
returns-clause-route g c = c.replace.ensures.value ∙ ap (option_and_then route_of) (sym (get_there c.args.nodes.now.items c.args.node.0 c.index_mut-part.result.now (omega arith) c.index_mut-part.ensures.value))
