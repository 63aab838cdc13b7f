-- Piece after piece, to the end of the text or its first fault.
use Rattle.std.proofs.Common.{refl, arith}
use Rattle.std.proofs.lemmas.Result.{err_from_is_err_and}
use Rattle.sabr_model.proofs.ListLemmas.ReadTexts.{end_told}
use Rattle.sabr_session.proofs.ReadingLemmas.SessionGivenSoFar.{finished_over, nothing_given, paused_failed, piece_given, piece_refused, reader_ended}
use Rattle.sabr_session.proofs.reading.session_feed.read_paused.Goals as goal

pub loop-feed-init : goal.loop-feed-init
loop-feed-init g c = record { given = nothing_given _ _ _ c.new-feed.result c.new-feed.ensures; fine = refl }

pub returns-in-Ok-eq0-clause-read : goal.returns-in-Ok-eq0-clause-read
returns-in-Ok-eq0-clause-read g c =
    let h = c.in-Ok-eq0.ensures in
    let finished = finished_over g.B.BestOf.calls_of _ _ _ _ c.loop-feed.feed c.finish_paused.result c.loop-feed.invariant.given c.finish_paused.ensures in
    reader_ended _ _ _ _ _ c.loop-feed.feed _ c.loop-feed.invariant.given (rw c.in-Ok-eq0.field-0-test at h.bytes) (end_told _ _ (g.R.Read.input c.read.new.self) h.end h.left c.in-Ok-eq0.field-0-test (omega (arith, c.read.auto.buf))) (omega (arith, h.count, c.loop-feed.invariant.fine)) finished.0

pub loop-feed-preserved : goal.loop-feed-preserved
loop-feed-preserved g c =
    let h = c.in-Ok.ensures in
    record {
      given = piece_given _ _ _ _ _ c.loop-feed.feed c.feed.new.self _ _ c.loop-feed.invariant.given h.bytes c.in_ok-feed-in-Ok.ensures.fed;
      fine = omega (arith, h.count, c.loop-feed.invariant.fine);
    }

pub returns-in_err-feed-in-Ok-clause-read : goal.returns-in_err-feed-in-Ok-clause-read
returns-in_err-feed-in-Ok-clause-read g c =
    let p = err_from_is_err_and c.from_residual.result c.from_residual.ensures.1 in
    let h = c.in-Ok.ensures in
    rw (p.1, p.2) (piece_refused _ _ _ _ _ c.loop-feed.feed c.feed.new.self _ c.in_err-feed-in-Ok.field-0.0 c.loop-feed.invariant.given h.bytes (omega (arith, h.count, c.loop-feed.invariant.fine)) c.in_err-feed-in-Ok.ensures.fed)

pub returns-in-Ok-eq0-clause-failed : goal.returns-in-Ok-eq0-clause-failed
returns-in-Ok-eq0-clause-failed g c = paused_failed g.B.BestOf.calls_of _ _ c.finish_paused.result _ (returns-in-Ok-eq0-clause-read g c)

pub returns-in_err-feed-in-Ok-clause-failed : goal.returns-in_err-feed-in-Ok-clause-failed
returns-in_err-feed-in-Ok-clause-failed g c = paused_failed g.B.BestOf.calls_of _ _ c.from_residual.result _ (returns-in_err-feed-in-Ok-clause-read g c)

pub returns-in-Ok-eq0-clause-paused : goal.returns-in-Ok-eq0-clause-paused
returns-in-Ok-eq0-clause-paused g c = (finished_over g.B.BestOf.calls_of _ _ _ _ c.loop-feed.feed c.finish_paused.result c.loop-feed.invariant.given c.finish_paused.ensures).1

pub returns-in-Ok-eq0-clause-calls : goal.returns-in-Ok-eq0-clause-calls
returns-in-Ok-eq0-clause-calls g c = (finished_over g.B.BestOf.calls_of _ _ _ _ c.loop-feed.feed c.finish_paused.result c.loop-feed.invariant.given c.finish_paused.ensures).2

pub returns-in-Ok-eq0-clause-formed : goal.returns-in-Ok-eq0-clause-formed
returns-in-Ok-eq0-clause-formed g c = (finished_over g.B.BestOf.calls_of _ _ _ _ c.loop-feed.feed c.finish_paused.result c.loop-feed.invariant.given c.finish_paused.ensures).3
