use Rattle.std.proofs.Common.{inl, inr}
use Rattle.commands.proofs.program.run_command.Goals as goal

pub returns-in-Ok : goal.returns-in-Ok
returns-in-Ok g c = inl c.in-Ok.ensures.ran

pub returns-in-Err : goal.returns-in-Err
returns-in-Err g c =
    let (out, err, left) = c.in-Err.ensures.not_run in
    inr (record {
      why = c.in-Err.failure;
      stops = c.in-Err.ensures.stopped;
      writes_nothing = out;
      makes_nothing = left;
      reports = rw err at c.report_failure.ensures.message;
      ends = c.report_failure.ensures.status;
    })
