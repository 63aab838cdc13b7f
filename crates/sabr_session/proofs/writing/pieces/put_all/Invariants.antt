use Rattle.std.proofs.Common.{take}
use Rattle.sabr_session.specs.Gathering.{HasPut}
use Rattle.sabr_session.specs.Pieces.{piece_text}
use Rattle.sabr_session.proofs.TextLemmas.Gathering.{joined}
use Rattle.sabr_session.proofs.writing.pieces.put_all.Given as goal

abbrev pub invariant-loop-piece : goal.invariant-loop-piece
invariant-loop-piece g l = HasPut g.W.Write.output l.fn.text (joined piece_text (take l.piece-index l.pieces)) l.text
