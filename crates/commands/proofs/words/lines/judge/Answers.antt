use Rattle.std.proofs.Common.{ap, sym, ◌∙◌}
use Rattle.std.proofs.lemmas.List.{take_rest}
use Rattle.sabr_plan.specs.Words.{is_one_line}
use Rattle.commands.proofs.WordLemmas.TextLines.{bad_line, good_line, rest_refused}
use Rattle.commands.proofs.words.lines.judge.Goals as goal

pub returns-in-Some-fault_at-clause-refused : goal.returns-in-Some-fault_at-clause-refused
returns-in-Some-fault_at-clause-refused c =
    let h = c.in-Some.ensures {u = tt} in
    bad_line c.args.form c.args.text.now c.loop-line.judged c.in-Some.line.now c.in-Some._after.now c.loop-line.invariant h.0 h.1 c.in-Some-fault_at.kind (sym c.fault_at.ensures.value ∙ c.in-Some-fault_at.is)

pub loop-line-preserved : goal.loop-line-preserved
loop-line-preserved c =
    let h = c.in-Some.ensures {u = tt} in
    let within = rw c.in_default-fault_at.is at c.fault_at.ensures.limit in
    good_line c.args.form c.args.text.now c.loop-line.judged c.in-Some.line.now c.in-Some._after.now c.loop-line.invariant h.0 h.1 (sym c.fault_at.ensures.value ∙ c.in_default-fault_at.is) within

pub returns-clause-good : goal.returns-clause-good
returns-clause-good c = record {
  judged = c.loop-line.invariant;
  rest = ap is_one_line (sym (take_rest c.args.text.now c.loop-line.judged.bytes)) ∙ c.in_default.ensures {u = tt};
  fits = sym c.is_bad_rest.ensures ∙ c.if-is_bad_rest.false;
}

pub returns-then-is_bad_rest-clause-refused : goal.returns-then-is_bad_rest-clause-refused
returns-then-is_bad_rest-clause-refused c =
    let one = ap is_one_line (sym (take_rest c.args.text.now c.loop-line.judged.bytes)) ∙ c.in_default.ensures {u = tt} in
    rest_refused c.args.form c.args.text.now c.loop-line.judged c.loop-line.invariant one (sym c.is_bad_rest.ensures ∙ c.if-is_bad_rest.true)
