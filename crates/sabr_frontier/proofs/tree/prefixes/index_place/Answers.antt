use Rattle.sabr_frontier.proofs.Names.{rules, of_calls, IsPartitionPoint-from_clause, part_at, IsBefore}
use Rattle.sabr_frontier.specs.tree.Giving.{stands_before}
use Rattle.sabr_frontier.proofs.TreeLemmas.ListFronts.{passing_is, partitioned}
use Rattle.sabr_frontier.proofs.ListingLemmas.ListMembers.{earlier_prefix}
use Rattle.sabr_frontier.proofs.tree.prefixes.index_place.Goals as goal

pub returns-clause-value : goal.returns-clause-value
returns-clause-value g c =
    let leaves = c.args.leaves.now in
    let nodes = c.args.nodes.now in
    let ids = c.args.index.now in
    let test = stands_before leaves nodes c.args.wanted.now in
    let first = partitioned test (IsBefore leaves nodes) (λ a b. earlier_prefix c.args.wanted.now (part_at leaves nodes a).prefix (part_at leaves nodes b).prefix) ids c.requires in
    passing_is test ids c.partition_point.result c.partition_point.ensures.bound
    (IsPartitionPoint-from_clause test ids c.partition_point.result c.partition_point.ensures.partitioned first (λ a r q k. search (rules, of_calls)))
