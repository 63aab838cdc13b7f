use Rattle.std.proofs.Common.{◌≡◌, ◌++◌}
use Rattle.libcgrlist.specs.PlanTexts.{gap_text}
use Rattle.libcgrlist.proofs.plan_text.put_gap.Given as goal

abbrev pub invariant-loop-number : goal.invariant-loop-number
invariant-loop-number l = l.text.items ≡ l.initial.text.items ++ gap_text l.start l._number
