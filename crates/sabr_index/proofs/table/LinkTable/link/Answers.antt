use Rattle.std.proofs.Common.{◌<◌, List, length, subst, sym}
use Rattle.sabr_index.specs.Links.{NodeLinks}
use Rattle.sabr_index.specs.Incoming.{links_of}
use Rattle.sabr_index.proofs.TableLemmas.{link_in_part}
use Rattle.sabr_index.proofs.table.LinkTable.link.Goals as goal

pub returns : goal.returns
returns g c =
    let t = c.self.inside in
    let node : c.args.index < length _ = subst (λ (ss : List NodeLinks). c.args.index < length ss) (sym c.self.view_is) c.requires.node in
    let place : c.args.place < length (links_of _ c.args.index) = subst (λ (ss : List NodeLinks). c.args.place < length (links_of ss c.args.index)) (sym c.self.view_is) c.requires.place in
    rw (← c.self.view_is) (link_in_part t.nodes.items t.links.items t.passes.items c.args.index c.args.place c.index-node.result.now c.index.result.now node place c.index-node.ensures c.index.ensures)
