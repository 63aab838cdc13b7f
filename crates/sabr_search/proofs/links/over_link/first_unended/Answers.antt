use Rattle.std.proofs.Common.{◌≡◌, leb, slice_index_or, ap, rules, arith}
use Rattle.std.proofs.lemmas.Bool.{leb-true}
use Rattle.std.proofs.lemmas.Option.{get_or_from_slice_get}
use Rattle.std.proofs.lemmas.List.Sorted.{IsPartitionPoint-from_clause, IsPartitionedBy-leb}
use Rattle.sabr_index.specs.declared.link.Pass.{Pass}
use Rattle.sabr_search.proofs.LinkLemmas.OverLinks.{ends_rise, end_within}
use Rattle.sabr_search.proofs.links.over_link.first_unended.Goals as goal

pub returns-clause-ended : goal.returns-clause-ended
returns-clause-ended c = λ k x less at.
    let passes = c.args.passes.now in
    let point = IsPartitionPoint-from_clause (λ (p : Pass). leb p.latest_end c.args.at) passes c.partition_point.result c.partition_point.ensures.partitioned (IsPartitionedBy-leb (λ (p : Pass). p.latest_end) passes c.args.at (ends_rise passes c.requires)) (λ a r f h. search rules) in
    let passed = leb-true (slice_index_or passes k x).latest_end c.args.at (point.0 k x (omega arith) less) in
    let is : slice_index_or passes k x ≡ x = get_or_from_slice_get passes k x x at in
    omega (arith, passed, ap (λ (p : Pass). p.latest_end) is, end_within passes c.requires k x at)
