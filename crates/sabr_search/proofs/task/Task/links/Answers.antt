use Rattle.std.proofs.Common.{◌≡◌, ◌<◌, Some, length, slice_index, slice_get}
use Rattle.std.proofs.lemmas.Option.{slice_get-get_or}
use Rattle.sabr_search.proofs.LinkLemmas.Linking.{links_at}
use Rattle.sabr_search.proofs.task.Task.links.Goals as goal

pub returns : goal.returns
returns g c =
    let task = rw (← c.self.view_is) at c.requires.task in
    let table = c.self.inside.index.now.table in
    let inside : c.args.node < length table = rw (← c.self.view_is) at c.requires.node in
    let here : slice_get table c.args.node ≡ Some (slice_index table c.args.node) = slice_get-get_or table c.args.node 0 inside in
    rw (← c.self.view_is) (links_at _ task c.args.node (slice_index table c.args.node) here c.links.result.links.now c.links.result.passes.now (c.links.ensures (slice_index table c.args.node) here))
