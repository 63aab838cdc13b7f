use Rattle.sabr_plan.proofs.Names.{◌≡◌, ℕ, ◌≤◌, length, map, ◌-◌}
use Rattle.std.specs.Fn.{FnReturnsAt}
use Rattle.sabr_plan.specs.Gathering.{AreChained}
use Rattle.sabr_plan.proofs.gathering.chains.Chains.add_all.Given as goal

abbrev pub invariant-loop-bucket_of : goal.invariant-loop-bucket_of
invariant-loop-bucket_of g l = record {
  sized : l.buckets ≤ length l.self.lasts.items;
  within : length l.self.befores.items ≤ length l.list;
  chained : ((of : g.row.X.Denot → ℕ) → ((x : g.row.X.Denot) (b : ℕ) → FnReturnsAt g.F.Fn l.bucket_of x b → b ≡ of x) → AreChained (map of l.list) l.fn.self.befores.items l.fn.self.lasts.items → AreChained (map of l.list) l.self.befores.items l.self.lasts.items);
}

abbrev pub decreases-loop-bucket_of : goal.decreases-loop-bucket_of
decreases-loop-bucket_of g l = length l.list - length l.self.befores.items
