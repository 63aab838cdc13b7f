use Rattle.std.proofs.lemmas.Result.{err_from_is_err_and}
use Rattle.sabr_session.proofs.ReadingLemmas.SessionGivenSoFar.{no_index}
use Rattle.sabr_session.proofs.reading.session_feed.read_session.Goals as goal

pub returns-in_err-index-clause-read : goal.returns-in_err-index-clause-read
returns-in_err-index-clause-read g c =
    let p = err_from_is_err_and c.from_residual-in_err-index.result c.from_residual-in_err-index.ensures.1 in
    rw (p.1, p.2) (no_index _ _ _ _ c.in_ok-paused.ensures.read)
