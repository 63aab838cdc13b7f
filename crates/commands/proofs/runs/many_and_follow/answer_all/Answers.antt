use Rattle.std.proofs.Common.{Ok, Err, refl, subst, ◌∙◌}
use Rattle.std.proofs.lemmas.Result.{err_from_is_err_and}
use Rattle.commands.proofs.RunLemmas.ManyAnswers.{Leaves, none_answered, one_answered, fails, all_answered}
use Rattle.commands.proofs.runs.many_and_follow.answer_all.Goals as goal

pub loop-line-init : goal.loop-line-init
loop-line-init g c = record { answered = none_answered c.args.answering.now.plan c.args.kind _ _ c.requires.requests; plan = refl }

pub returns-in_err-answer : goal.returns-in_err-answer
returns-in_err-answer g c =
    let (failure, is, same) = err_from_is_err_and c.from_residual.result c.from_residual.ensures.1 in
    let left =
    subst (Leaves c.args.kind c.in-Some.line.now (Err c.in_err-answer.field-0.0) (g.O.Write.output c.loop-line.out) (g.O.Write.output c.answer.new.out)) c.loop-line.invariant.plan
    (c.in_err-answer.ensures {u = tt}).answer in
    rw (is, same) (fails c.args.answering.now _ _ _ _ _ _ _ c.loop-line.invariant.answered (c.in-Some.ensures {u = tt}).lines (g.O.Write.output c.answer.new.out) c.in_err-answer.field-0.0 left)

pub loop-line-preserved : goal.loop-line-preserved
loop-line-preserved g c =
    let done = c.in_ok-answer.ensures {u = tt} in
    let left = subst (Leaves c.args.kind c.in-Some.line.now (Ok tt) (g.O.Write.output c.loop-line.out) (g.O.Write.output c.answer.new.out)) c.loop-line.invariant.plan done.answer in
    record {
      answered = one_answered c.args.answering.now _ _ _ _ _ _ _ c.loop-line.invariant.answered (c.in-Some.ensures {u = tt}).lines (g.O.Write.output c.answer.new.out) tt left;
      plan = done.plan ∙ c.loop-line.invariant.plan;
    }

pub returns : goal.returns
returns g c = all_answered _ _ _ _ _ _ c.loop-line.invariant.answered (c.in_default.ensures {u = tt}).lines
