-- The lines before the one that failed were written.
use Rattle.sabr_plan.proofs.Names.{ap, ◌∙◌, err_from_is_err_and}
use Rattle.sabr_plan.proofs.SpelledPlans.{stopped_at}
use Rattle.sabr_plan.proofs.canonical_text.write_lines.Goals as goal

pub returns-in_err-write_text : goal.returns-in_err-write_text
returns-in_err-write_text g c =
    let p = err_from_is_err_and c.from_residual.result c.from_residual.ensures.1 in
    let part = rw c.as_bytes.ensures at c.in_err-write_text.ensures in
    let shown = g.W.Write.output in
    let x = c.record-item in
    rw p.1
    (stopped_at g.T.Record.line_of c.args.records.now c.loop-record.record-index x.result c.loop-record-test.true c.line.result (c.line.ensures ∙ ap g.T.Record.line_of x.is)
    (shown c.args.writer.now) (shown c.loop-record.writer) (shown c.write_text.new.writer) c.loop-record.invariant part)
