-- What the views of the parts show.
use Rattle.std.specs.Prelude.{List, [], map, Option, Some, None, slice_get}
use Rattle.std.specs.Option.{option_copied}
use Rattle.sabr_model.specs.routes.Record.{RouteRecord}
use Rattle.sabr_frontier.specs.declared.tree.Node.{Node}
use Rattle.sabr_frontier.specs.declared.tree.NodeId.{NodeId}
use Rattle.sabr_frontier.specs.declared.parts.PartView.{PartView}
use Rattle.sabr_frontier.specs.declared.parts.Parts.{Parts}
use Rattle.sabr_frontier.specs.tree.Shape.{prefix_of}
use Rattle.sabr_frontier.specs.session.Session.{PartSeen}

-- what a view shows
abbrev pub seen_of : {A : Type 0} → PartView A → PartSeen
seen_of v = record { prefix = v.prefix.now; excluded = v.excluded.now; route = option_copied v.route }

abbrev pub seen_node : {A : Type 0} → List RouteRecord → Option (Node A) → PartSeen
seen_node leaves (Some n) = record { prefix = prefix_of leaves n; excluded = n.excluded; route = n.route }
seen_node leaves None = record { prefix = []; excluded = []; route = None }

-- what is shown of a node
abbrev pub seen_at : {A : Type 0} → List RouteRecord → List (Node A) → NodeId → PartSeen
seen_at leaves nodes id = seen_node leaves (slice_get nodes id.0)

-- what is shown of the parts that are left
abbrev pub seen_left : {A : Type 0} → Parts A → List PartSeen
seen_left p = map (seen_at p.leaves.now p.nodes.now) p.index.now
