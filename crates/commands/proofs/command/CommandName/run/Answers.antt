use Rattle.commands.proofs.RunLemmas.PageTexts.{with_none_left}
use Rattle.commands.proofs.command.CommandName.run.Goals as goal

pub returns-in-Verify-clause-ran : goal.returns-in-Verify-clause-ran
returns-in-Verify-clause-ran g c = rw c.in-Verify.is (with_none_left c.verify.result _ _ c.verify.ensures.ran)

pub returns-in-Check-clause-ran : goal.returns-in-Check-clause-ran
returns-in-Check-clause-ran g c = rw c.in-Check.is (with_none_left c.check.result _ _ c.check.ensures.ran)

pub returns-in-Explain-clause-ran : goal.returns-in-Explain-clause-ran
returns-in-Explain-clause-ran g c = rw c.in-Explain.is (with_none_left c.explain.result _ _ c.explain.ensures.ran)

pub returns-in-Many-clause-ran : goal.returns-in-Many-clause-ran
returns-in-Many-clause-ran g c = rw c.in-Many.is (with_none_left c.many.result _ _ c.many.ensures.ran)

pub returns-in-Follow-clause-ran : goal.returns-in-Follow-clause-ran
returns-in-Follow-clause-ran g c = rw c.in-Follow.is (with_none_left c.follow.result _ _ c.follow.ensures.ran)
