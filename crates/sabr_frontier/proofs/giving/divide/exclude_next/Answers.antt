use Rattle.sabr_frontier.proofs.Names.{arith, ℕ, List, ap, ◌∙◌, set, excluding}
use Rattle.sabr_frontier.proofs.TreeLemmas.ModifiedPlaces.{set-modify, get_there}
use Rattle.sabr_frontier.proofs.giving.divide.exclude_next.Goals as goal

pub bounds-route-part : goal.bounds-route-part
bounds-route-part g c = (c.requires.next _ (get_there c.args.nodes.now.items c.args.node.0 c.index_mut-part.result.now (omega arith) c.index_mut-part.ensures.value)).longer

pub offset_bounds-route-part : goal.offset_bounds-route-part
offset_bounds-route-part g c = let can = c.requires.next _ (get_there c.args.nodes.now.items c.args.node.0 c.index_mut-part.result.now (omega arith) c.index_mut-part.ensures.value) in omega (arith, can.longer)

pub put-requires-clause-rises : goal.put-requires-clause-rises
put-requires-clause-rises g c = (c.requires.next _ (get_there c.args.nodes.now.items c.args.node.0 c.index_mut-part.result.now (omega arith) c.index_mut-part.ensures.value)).rises

pub returns-clause-ok : goal.returns-clause-ok
returns-clause-ok g c =
    let n = c.index_mut-part.result.now in
    let items = c.args.nodes.now.items in
    ap (λ (z : List ℕ). set items c.args.node.0 (record n { excluded = z })) c.in_ok-put.ensures.ok
    ∙ set-modify (excluding c.args.route.now) items c.args.node.0 n (omega arith) c.index_mut-part.ensures.value
