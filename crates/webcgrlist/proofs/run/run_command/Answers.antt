use Rattle.std.proofs.Common.{inr}
use Rattle.commands.specs.words.Values.{values_in}
use Rattle.webcgrlist.proofs.run.run_command.Goals as goal

pub returns-in-Verify : goal.returns-in-Verify
unfolding values_in
returns-in-Verify g c = rw c.in-Verify.is (inr c.verify.ensures)

pub returns-in-Check : goal.returns-in-Check
unfolding values_in
returns-in-Check g c = rw c.in-Check.is (inr c.check.ensures)

pub returns-in-Follow : goal.returns-in-Follow
unfolding values_in
returns-in-Follow g c = rw c.in-Follow.is (inr c.follow.ensures)
