use Rattle.std.proofs.Common.{ltb, slice_index_or, ap, rules, arith}
use Rattle.std.proofs.lemmas.Bool.{ltb-false}
use Rattle.std.proofs.lemmas.Option.{slice_get_within, get_or_from_slice_get}
use Rattle.std.proofs.lemmas.List.Sorted.{IsPartitionPoint-from_clause, IsPartitionedBy-ltb}
use Rattle.sabr_index.specs.declared.link.Pass.{Pass}
use Rattle.sabr_search.proofs.LinkLemmas.OverLinks.{starts_rise}
use Rattle.sabr_search.proofs.links.leave_link.started.Goals as goal

pub returns-clause-late : goal.returns-clause-late
returns-clause-late c = λ k x le at.
    let passes = c.args.passes.now in
    let point = IsPartitionPoint-from_clause (λ (p : Pass). ltb p.start c.args.before) passes c.partition_point.result c.partition_point.ensures.partitioned (IsPartitionedBy-ltb (λ (p : Pass). p.start) passes c.args.before (starts_rise passes c.requires)) (λ a r f h. search rules) in
    let late = ltb-false (slice_index_or passes k x).start c.args.before (point.1 k x le (slice_get_within passes k x at)) in
    omega (arith, late, ap (λ (p : Pass). p.start) (get_or_from_slice_get passes k x x at))
