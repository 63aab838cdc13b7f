use Rattle.std.proofs.Common.{◌≡◌, ℕ, List, ◌++◌, take, drop, refl, sym, ap, subst, ◌∙◌, Err, arith}
use Rattle.std.proofs.lemmas.Result.{err_from_is_err_and}
use Rattle.sabr_model.specs.Devices.{Gives}
use Rattle.sabr_model.proofs.ListLemmas.ReadTexts.{Gives-append, Gives-kept, Gives-nil}
use Rattle.commands.specs.words.Lines.{IsGoodSoFar, IsJudged, fault_in}
use Rattle.sabr_plan.specs.Words.{is_one_line}
use Rattle.commands.specs.declared.words.lines.LinesFault.TheVariants.{Read}
use Rattle.commands.proofs.WordLemmas.TextLines.{judged_on, line_refused, none_bad_so_far, one_line_on, reader_failed}
use Rattle.commands.proofs.words.lines.read_lines.Goals as goal

pub loop-form-init : goal.loop-form-init
loop-form-init g c = record {
  read = subst (λ (text : List ℕ). Gives (g.R.Read.input c.args.reader.now) text (g.R.Read.input c.args.reader.now)) (sym c.new-text.ensures.items) (Gives-nil (g.R.Read.input c.args.reader.now));
  fine = refl;
  good = subst (λ (text : List ℕ). IsGoodSoFar c.args.form text (record { number = 1; bytes = 0 })) (sym c.new-text.ensures.items) (none_bad_so_far c.args.form);
}

pub returns-in-Err : goal.returns-in-Err
returns-in-Err g c =
    let h = c.in-Err.ensures in
    let gives = Gives-kept (g.R.Read.input c.args.reader.now) (g.R.Read.input c.loop-form.reader) (g.R.Read.input c.read.new.self) c.loop-form.text.items c.loop-form.invariant.read h.bytes in
    (Err Read, reader_failed c.args.form _ _ c.loop-form.text.items c.loop-form.judged gives (omega (arith, h.count, c.loop-form.invariant.fine)) c.loop-form.invariant.good, refl)

pub judge_piece-requires-clause-judged : goal.judge_piece-requires-clause-judged
judge_piece-requires-clause-judged g c =
    subst (λ t. IsJudged c.args.form t c.loop-form.judged) (sym (c.as_slice-in-Ok.ensures.value ∙ c.in-Ok-extend_from_slice.ensures.items))
    (judged_on c.args.form c.loop-form.text.items _ c.loop-form.judged c.loop-form.invariant.good.judged)

pub judge_piece-requires-clause-rest : goal.judge_piece-requires-clause-rest
judge_piece-requires-clause-rest g c = λ one.
    let grown = one_line_on c.loop-form.text.items _ c.loop-form.judged c.loop-form.invariant.good.judged.within c.loop-form.invariant.good.rest one in
    ap (λ t. is_one_line (drop c.loop-form.judged.bytes t)) (c.as_slice-in-Ok.ensures.value ∙ c.in-Ok-extend_from_slice.ensures.items) ∙ grown

pub returns-in_err-judged-in-Ok : goal.returns-in_err-judged-in-Ok
returns-in_err-judged-in-Ok g c =
    let p = err_from_is_err_and c.from_residual.result c.from_residual.ensures.1 in
    let h = c.in-Ok.ensures in
    let fault = c.in_err-judged-in-Ok.field-0.0 in
    let text = c.loop-form.text.items ++ take c.in-Ok.count c.read.new.buf in
    let gives = Gives-append (g.R.Read.input c.args.reader.now) (g.R.Read.input c.loop-form.reader) (g.R.Read.input c.read.new.self) c.loop-form.text.items _ c.loop-form.invariant.read h.bytes in
    let same : c.as_slice-in-Ok.result.now ≡ text = c.as_slice-in-Ok.ensures.value ∙ c.in-Ok-extend_from_slice.ensures.items in
    (Err fault, line_refused c.args.form _ _ text fault gives (omega (arith, h.count, c.loop-form.invariant.fine)) (λ more. ap (λ t. fault_in c.args.form 1 (t ++ more)) (sym same) ∙ (c.in_err-judged-in-Ok.ensures {u = tt}).refused more), rw (p.1, p.2) refl)
