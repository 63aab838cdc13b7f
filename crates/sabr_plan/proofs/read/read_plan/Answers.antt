-- One piece after another, to the end of the text or its first bad line.
use Rattle.sabr_plan.proofs.Names.{arith, err_from_is_err_and}
use Rattle.sabr_model.proofs.ListLemmas.ReadTexts.{end_told}
use Rattle.sabr_plan.proofs.TextReading.{text_ended}
use Rattle.sabr_plan.specs.Feeding.{Answers}
use Rattle.sabr_plan.specs.PlanRead.{IsNoMemory, IsRead}
use Rattle.sabr_plan.proofs.Held.{piece_refused, read_failed}
use Rattle.sabr_plan.proofs.read.read_plan.Goals as goal

pub returns-in-Ok-eq0-clause-read : goal.returns-in-Ok-eq0-clause-read
returns-in-Ok-eq0-clause-read g c =
    let h = c.in-Ok-eq0.ensures in
    text_ended Answers IsRead IsNoMemory _ c.loop-feed.invariant.read c.finish.result (rw c.in-Ok-eq0.field-0-test at h.bytes) (end_told _ _ (g.R.Read.input c.read.new.self) h.end h.left c.in-Ok-eq0.field-0-test (omega (arith, c.read.auto.buf))) (omega (arith, h.count, c.loop-feed.invariant.fine)) c.finish.ensures

pub returns-in_err-feed-in-Ok-clause-read : goal.returns-in_err-feed-in-Ok-clause-read
returns-in_err-feed-in-Ok-clause-read g c =
    let p = err_from_is_err_and c.from_residual.result c.from_residual.ensures.1 in
    let h = c.in-Ok.ensures in
    rw (p.1, p.2) (piece_refused c.loop-feed.feed _ _ c.in_err-feed-in-Ok.field-0.0 c.loop-feed.invariant.read h.bytes (omega (arith, h.count, c.loop-feed.invariant.fine)) c.in_err-feed-in-Ok.ensures.fed)

pub returns-in-Ok-eq0-clause-failed : goal.returns-in-Ok-eq0-clause-failed
returns-in-Ok-eq0-clause-failed g c = read_failed _ c.finish.result _ (returns-in-Ok-eq0-clause-read g c)

pub returns-in_err-feed-in-Ok-clause-failed : goal.returns-in_err-feed-in-Ok-clause-failed
returns-in_err-feed-in-Ok-clause-failed g c = read_failed _ c.from_residual.result _ (returns-in_err-feed-in-Ok-clause-read g c)
