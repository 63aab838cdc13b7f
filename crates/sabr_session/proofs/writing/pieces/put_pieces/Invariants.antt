use Rattle.std.proofs.Common.{List, ℕ, Bor, take}
use Rattle.sabr_session.specs.Gathering.{HasPut}
use Rattle.sabr_session.proofs.TextLemmas.Gathering.{joined}
use Rattle.sabr_session.proofs.writing.pieces.put_pieces.Given as goal

abbrev pub invariant-loop-piece : goal.invariant-loop-piece
invariant-loop-piece g l = HasPut g.W.Write.output l.fn.text (joined (λ (t : Bor (List ℕ)). t.now) (take l.piece-index l.pieces)) l.text
