use Rattle.std.proofs.Common.{◌≡◌, Some, ◌∙◌, rules, of_calls}
use Rattle.std.specs.Ordering.{nat_cmp, partial_ordering_then, is_le, is_some_and}
use Rattle.std.proofs.lemmas.List.Sorted.{IsPartitionPoint-from_clause}
use Rattle.sabr_model.specs.Order.{by_key}
use Rattle.sabr_model.specs.plan.Plan.{range_key}
use Rattle.sabr_model.proofs.PlanLemmas.KeyOrder.{told_by}
use Rattle.sabr_model.proofs.PlanLemmas.RangeOrder.{is_parted}
use Rattle.sabr_model.proofs.plan.ranges.ranges_until.Goals as goal

pub returns : goal.returns
returns c =
    let key = c.args.key in
    record {
      within = c.partition_point.ensures.bound;
      point = IsPartitionPoint-from_clause (λ y. is_le (by_key (range_key y) key)) c.args.ranges.now c.partition_point.result c.partition_point.ensures.partitioned (is_parted c.args.ranges.now key c.requires)
          (λ a r q k.
          let one = nat_cmp a.0.now.one key.0 in
          let other = nat_cmp a.0.now.other key.1 in
          let start = nat_cmp a.0.now.start key.2 in
          let told : r ≡ is_some_and is_le (partial_ordering_then (partial_ordering_then (Some one) (Some other)) (Some start)) = search (rules, of_calls) in
          (told ∙ told_by is_le one other start, search (rules, of_calls)));
    }
