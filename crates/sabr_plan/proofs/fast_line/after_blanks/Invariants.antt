use Rattle.sabr_plan.proofs.Names.{◌≡◌, ◌-◌, ◌≤◌, length, take, true, list_all}
use Rattle.sabr_plan.specs.Words.{is_blank}
use Rattle.sabr_plan.proofs.fast_line.after_blanks.Given as goal

abbrev pub invariant-loop-count : goal.invariant-loop-count
invariant-loop-count l = record {
  range : l.count ≤ length l.text;
  blank : list_all is_blank (take l.count l.text) ≡ true;
}

abbrev pub decreases-loop-count : goal.decreases-loop-count
decreases-loop-count l = length l.text - l.count
