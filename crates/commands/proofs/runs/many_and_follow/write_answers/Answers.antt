use Rattle.std.proofs.Common.{Ok, Err, refl, ap, ◌∙◌}
use Rattle.std.proofs.lemmas.Result.{err_from_is_err_and}
use Rattle.commands.specs.runs.Many.{form_of}
use Rattle.commands.specs.texts.Messages.{failure_of_lines}
use Rattle.commands.specs.words.Lines.{fault_of, lines_in, asked_from}
use Rattle.commands.specs.declared.words.lines.LinesFault.TheVariants.{NoMemory}
use Rattle.commands.proofs.RunLemmas.ManyAnswers.{not_requested, none_bad, answers_left}
use Rattle.commands.proofs.runs.many_and_follow.write_answers.Goals as goal

-- lines that aren't read have no answer, and nothing is asked of one
pub returns-in_err-plan : goal.returns-in_err-plan
returns-in_err-plan g c =
    let (failure, is, same) = err_from_is_err_and c.from_residual.result c.from_residual.ensures.1 in
    (Err c.in_err-plan.field-0.0, (Err NoMemory, (c.in_err-plan.ensures {u = tt}).read, refl, (is ∙ ap Err same, refl)))

pub returns : goal.returns
returns g c =
    let read = rw c.form.ensures at c.in-Err.ensures in
    (Ok c.in_ok-plan.plan, (read.0, c.in_ok-plan.ensures.read, read.1, not_requested c.in_ok-plan.plan c.args.kind read.0 c.in-Err.fault _ (g.O.Write.output c.args.out.now) read.2 (ap Err (c.of_lines.ensures ∙ ap (λ form. failure_of_lines form c.in-Err.fault) c.form-in-Err.ensures))))

pub send_answers-requires-clause-requests : goal.send_answers-requires-clause-requests
send_answers-requires-clause-requests g c =
    let read = rw c.form.ensures at c.in-Ok.ensures in
    ap (λ t. fault_of (asked_from (form_of c.args.kind) 1 (lines_in t))) c.as_slice.ensures.value ∙ none_bad (form_of c.args.kind) _ read.0 read.2

pub returns-in-Ok : goal.returns-in-Ok
returns-in-Ok g c =
    let read = rw c.form.ensures at c.in-Ok.ensures in
    (Ok c.in_ok-plan.plan, (read.0, c.in_ok-plan.ensures.read, read.1, answers_left c.in_ok-plan.plan c.args.kind read.0 _ c.send_answers.result (g.O.Write.output c.args.out.now) (g.O.Write.output c.send_answers.new.out) read.2 (rw c.as_slice.ensures.value at c.send_answers.ensures)))
