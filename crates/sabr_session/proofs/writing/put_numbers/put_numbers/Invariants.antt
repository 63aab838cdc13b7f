use Rattle.std.proofs.Common.{take}
use Rattle.sabr_session.specs.Gathering.{HasPut}
use Rattle.sabr_session.specs.SessionText.{spaced_by}
use Rattle.sabr_session.proofs.writing.put_numbers.put_numbers.Given as goal

abbrev pub invariant-loop-number : goal.invariant-loop-number
invariant-loop-number g l = HasPut g.W.Write.output l.fn.text (spaced_by g.N.Integer.text (take l.number-index l.numbers)) l.text
