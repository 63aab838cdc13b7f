use Rattle.std.proofs.Common.{length}
use Rattle.sabr_session.proofs.ReadingLemmas.StepsTaken.{HasTaken}
use Rattle.sabr_session.proofs.reading.line_reader.LineReader.take_in.Given as goal

abbrev pub invariant-loop-line : goal.invariant-loop-line
invariant-loop-line g l = HasTaken l.initial.self l.piece l.self l.rest

abbrev pub decreases-loop-line : goal.decreases-loop-line
decreases-loop-line g l = length l.rest
