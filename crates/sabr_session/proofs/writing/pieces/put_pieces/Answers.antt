use Rattle.std.proofs.Common.{List, ℕ, Bor}
use Rattle.sabr_session.proofs.TextLemmas.Gathering.{HasPut-nil, HasPut-piece, Puts-in_piece}
use Rattle.sabr_session.proofs.writing.pieces.put_pieces.Goals as goal

pub loop-piece-init : goal.loop-piece-init
loop-piece-init g c = HasPut-nil c.args.text.now

pub returns-in_err-put : goal.returns-in_err-put
returns-in_err-put g c =
    Puts-in_piece (λ (t : Bor (List ℕ)). t.now) _ c.args.pieces.now c.loop-piece.piece-index _ c.from_residual.result c.loop-piece-test.true c.from_residual.ensures.1
    c.loop-piece.invariant (c.in_err-put.ensures {u = tt})

pub loop-piece-preserved : goal.loop-piece-preserved
loop-piece-preserved g c =
    HasPut-piece (λ (t : Bor (List ℕ)). t.now) c.args.pieces.now c.loop-piece.piece-index _ c.loop-piece-test.true c.loop-piece.invariant (c.in_ok-put.ensures {u = tt})
