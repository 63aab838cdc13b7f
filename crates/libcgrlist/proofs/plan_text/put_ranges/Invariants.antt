use Rattle.std.proofs.Common.{◌≡◌, ◌++◌, take}
use Rattle.std.specs.List.{flat_map}
use Rattle.libcgrlist.specs.PlanTexts.{range_line}
use Rattle.libcgrlist.proofs.plan_text.put_ranges.Given as goal

abbrev pub invariant-loop-range : goal.invariant-loop-range
invariant-loop-range l = l.text.items ≡ l.initial.text.items ++ flat_map range_line (take l.range-index l.ranges)
