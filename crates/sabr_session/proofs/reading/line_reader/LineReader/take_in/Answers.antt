-- Each LF of a piece ends a line, and what is after the last is held.
use Rattle.std.proofs.Common.{Result, Ok, Err, OnOk, IfErr}
use Rattle.std.proofs.lemmas.Result.{err_from_is_err_and}
use Rattle.sabr_session.proofs.ReadingLemmas.StepsTaken.{nothing_taken, line_then_refused, line_then_read, rest_then_held, rest_then_refused}
use Rattle.sabr_session.proofs.reading.line_reader.LineReader.take_in.Goals as goal

pub loop-line-init : goal.loop-line-init
loop-line-init g c = nothing_taken c.args.self.now c.args.piece.now

pub returns-in_err-end_line-clause-err : goal.returns-in_err-end_line-clause-err
returns-in_err-end_line-clause-err g c =
    let p = err_from_is_err_and c.from_residual.result c.from_residual.ensures.1 in
    let h = c.in_err-end_line.ensures in
    let at = c.in-Some.ensures in
    rw (p.1, p.2) (line_then_refused c.args.self.now c.args.piece.now c.loop-line.self c.loop-line.rest.now c.loop-line.invariant h.held c.in-Some.line.now c.in-Some.after.now at.1 at.0 c.in_err-end_line.field-0.0 c.end_line.new.self.fed.said h.value)

pub loop-line-preserved : goal.loop-line-preserved
loop-line-preserved g c =
    let h = c.in_ok-end_line.ensures in
    let at = c.in-Some.ensures in
    line_then_read c.args.self.now c.args.piece.now c.loop-line.self c.loop-line.rest.now c.loop-line.invariant h.held c.in-Some.line.now c.in-Some.after.now at.1 at.0 c.end_line.new.self h.plan h.calls h.value h.rest.0 h.rest.1 h.fits

both_ok : {A E P Q R : Type 0} (r : Result A E) → (P → Q → R) → OnOk r P → OnOk r Q → OnOk r R
both_ok (Ok x) f p q = f p q
both_ok (Err e) f p q = tt

each_err : {A E : Type 0} {P Q : E → Type 0} (r : Result A E) → ((e : E) → P e → Q e) → IfErr r P → IfErr r Q
each_err (Ok x) f p = tt
each_err (Err e) f p = f e p

pub returns-clause-ok : goal.returns-clause-ok
returns-clause-ok g c =
    let h = c.hold.ensures in
    both_ok c.hold.result (λ is fine. rest_then_held c.args.self.now c.args.piece.now c.loop-line.self c.loop-line.rest.now c.loop-line.invariant h.held c.hold.new.self c.in_default.ensures is fine) h.ok h.fine

pub returns-clause-err : goal.returns-clause-err
returns-clause-err g c =
    let h = c.hold.ensures in
    each_err c.hold.result (λ f told. rest_then_refused c.args.self.now c.args.piece.now c.loop-line.self c.loop-line.rest.now c.loop-line.invariant h.held f c.in_default.ensures told) h.err
