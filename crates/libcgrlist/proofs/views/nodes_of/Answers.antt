use Rattle.std.proofs.Common.{eqb}
use Rattle.std.proofs.lemmas.List.Filters.{dedup_is}
use Rattle.libcgrlist.proofs.PlanLemmas.{nodes_sorted}
use Rattle.libcgrlist.proofs.views.nodes_of.Goals as goal

pub returns : goal.returns
returns c =
    nodes_sorted c.args.contacts.now c.in_ok-nodes.nodes.items c.sort_unstable.new.self.items c.dedup.new.self.items
    c.in_ok-nodes.ensures c.sort_unstable.ensures.permutation c.sort_unstable.ensures.sorted (dedup_is eqb _ _ c.dedup.ensures.filtered)
