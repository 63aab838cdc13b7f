use Rattle.std.proofs.Common.{arith, sym, ◌∙◌}
use Rattle.commands.proofs.RunLemmas.ManyAnswers.{all_flushed, broken_before, broken_by_flush}
use Rattle.commands.proofs.runs.many_and_follow.send_answers.Goals as goal

pub returns-then-has_broken : goal.returns-then-has_broken
returns-then-has_broken g c =
    let (xs, is, left) = rw c.new.ensures at c.answer_all-answered.ensures in
    (xs, is, broken_before _ xs _ c.answer_all-answered.result _ _ (sym c.has_broken.ensures ∙ c.if-has_broken.true) left)

pub returns-in_default : goal.returns-in_default
returns-in_default g c =
    let (xs, is, left) = rw c.new.ensures at c.answer_all-answered.ensures in
    let failed = c.in_default.ensures {u = tt} in
    (xs, is, broken_by_flush _ xs _ c.answer_all-answered.result (g.O.Write.output c.args.out.now) (g.O.Write.output c.answer_all-answered.new.out) (g.O.Write.output c.flush.new.self) (sym c.has_broken.ensures ∙ c.if-has_broken.false) left failed.bytes failed.count)

pub returns : goal.returns
returns g c =
    let (xs, is, left) = rw c.new.ensures at c.answer_all-answered.ensures in
    let flushed = c.in-Ok.ensures {u = tt} in
    (xs, is, all_flushed _ xs _ c.answer_all-answered.result (g.O.Write.output c.args.out.now) (g.O.Write.output c.answer_all-answered.new.out) (g.O.Write.output c.flush.new.self) (sym c.has_broken.ensures ∙ c.if-has_broken.false) left flushed.bytes (omega (arith, flushed.count)) flushed.mark)
