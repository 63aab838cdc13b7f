use Rattle.std.proofs.Common.{◌≡◌, ◌≤◌, length, get_or}
use Rattle.sabr_index.specs.Links.{links_in}
use Rattle.sabr_index.specs.Linking.{AreLinked, parts_of, AreParts}
use Rattle.sabr_index.proofs.building.link_nodes.Given as goal

abbrev pub invariant-loop-index : goal.invariant-loop-index
invariant-loop-index g l = record {
  as_many : length l.nodes.items ≡ l.index;
  parts : AreParts l.nodes.items l.links.items l.passes.items;
  linked : AreLinked l.plan (parts_of l.nodes.items l.links.items l.passes.items);
  few : links_in (parts_of l.nodes.items l.links.items l.passes.items) ≤ get_or l.order.starts.items l.index 0;
  low : links_in (parts_of l.nodes.items l.links.items l.passes.items) ≤ length l.order.items.items;
}
