-- A time comes after blanks.
use Rattle.sabr_plan.proofs.PlainWords.{ended_ahead}
use Rattle.sabr_plan.proofs.fast_line.time_ahead.Goals as goal

pub returns-clause-word : goal.returns-clause-word
returns-clause-word c = record { start = _; gap = c.in_ok-start.ensures.gap.0; some = c.in_ok-start.ensures.gap.1; front = c.in_ok-time.ensures.word }

pub returns-clause-ended : goal.returns-clause-ended
returns-clause-ended c = ended_ahead (returns-clause-word c) c.requires.ended
