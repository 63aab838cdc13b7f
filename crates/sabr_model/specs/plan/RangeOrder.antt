-- Ranges in order, on which a binary search for a range depends.
use Rattle.std.specs.Prelude.{◌≡◌, ℕ, ◌<◌, ◌≤◌, true, false, List, length, slice_index_or}
use Rattle.std.specs.List.Sorted.{IsPartitionPoint}
use Rattle.std.specs.Ordering.{is_le}
use Rattle.std.specs.declared.cmp.Ordering.TheVariants.{Less}
use Rattle.sabr_model.specs.declared.contact.Range.{Range}
use Rattle.sabr_model.specs.Order.{by_key}
use Rattle.sabr_model.specs.plan.Plan.{overlap, range_key}
use Rattle.sabr_model.specs.plan.Adding.{by_range_key}

-- ranges in order, no two of which overlap
pub record IsRangeList (ranges : List Range) : Type 0 where
  pub windows : (k : ℕ) (d : Range) → k < length ranges → (slice_index_or ranges k d).start < (slice_index_or ranges k d).end
  pub rises : (i j : ℕ) (d : Range) → i < j → j < length ranges → by_range_key (slice_index_or ranges i d) (slice_index_or ranges j d) ≡ Less
  pub apart : (i j : ℕ) (d : Range) → i < j → j < length ranges → overlap (slice_index_or ranges i d) (slice_index_or ranges j d) ≡ false

-- exactly the first `count` ranges come no later than a pair and second
pub record IsCountUntil (ranges : List Range) (key : ℕ × ℕ × ℕ) (count : ℕ) : Type 0 where
  pub within : count ≤ length ranges
  pub point : IsPartitionPoint (λ r. is_le (by_key (range_key r) key) ≡ true) (λ r. is_le (by_key (range_key r) key) ≡ false) ranges count
