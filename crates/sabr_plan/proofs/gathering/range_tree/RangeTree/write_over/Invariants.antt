use Rattle.sabr_plan.proofs.Names.{◌≡◌, ◌≤◌, ◌++◌, length}
use Rattle.std.specs.Vec.{vec_capacity}
use Rattle.sabr_plan.proofs.gathering.range_tree.RangeTree.write_over.Given as goal

abbrev pub invariant-loop-range : goal.invariant-loop-range
invariant-loop-range g l = record {
  items : l.list.items ++ l.range-iterator ≡ l.fn.self;
  room : length l.fn.self ≤ vec_capacity l.list;
}
