use Rattle.sabr_plan.proofs.Names.{◌≡◌, ◌+◌, ◌-◌, ◌*◌}
use Rattle.sabr_plan.proofs.TextReading.{HasRead}
use Rattle.sabr_plan.specs.Reading.{most_lines, plan_of}
use Rattle.sabr_plan.specs.Feeding.{outcome, weight}
use Rattle.sabr_plan.proofs.read.read_plan.Given as goal

abbrev pub invariant-loop-feed : goal.invariant-loop-feed
invariant-loop-feed g l = record {
  read : HasRead plan_of (outcome l.feed) (g.R.Read.input l.initial.reader) (g.R.Read.input l.reader);
  fine : (g.R.Read.input l.reader).failures ≡ (g.R.Read.input l.initial.reader).failures;
}

abbrev pub decreases-loop-feed : goal.decreases-loop-feed
decreases-loop-feed g l = 256 * most_lines + 1 - weight l.feed
