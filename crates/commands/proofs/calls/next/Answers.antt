use Rattle.std.proofs.Common.{◌≡◌, [], None, Some, is_some, refl, sym, subst}
use Rattle.clap.specs.Matches.{found_of}
use Rattle.commands.specs.declared.command.CommandName.TheVariants as command
use Rattle.commands.specs.runs.Calls.{IsMadeWhereKept, kept_path}
use Rattle.commands.specs.runs.SessionRuns.{WritesNextPage, place_of}
use Rattle.commands.proofs.RunLemmas.PageTexts.{leaves_made}
use Rattle.commands.proofs.calls.next.Goals as goal

pub returns-clause-ran : goal.returns-clause-ran
returns-clause-ran g c =
    let rules = g.D.FileSystem.rules in
    let run = c.run_next-status-2 in
    let is : kept_path command.Next (found_of c.args.words.now) ≡ Some c.in-Some.path.now = sym (rw c.in-Some.is at c.session_out.ensures) in
    let (planned, (resumed, (end, reads, reads_old, writes, reports, ends))) = run.ensures in
    let session = g.D.NewFile.Write.output c.in_ok-new.new in
    let session₁ = g.D.NewFile.Write.output run.new.session in
    record {
      values = record { request = None; count = Some c.in_ok-count.count; contacts = [] };
      count = c.in_ok-count.count;
      given = c.in_ok-count.ensures.next;
      counted = refl;
      session = session;
      session₁ = session₁;
      makes = subst (λ kept. IsMadeWhereKept rules kept session) (sym is) c.in_ok-new.ensures.made.0;
      runs = record {
        plan = g.D.File.Read.input c.in_ok-plan.plan;
        plan₁ = g.D.File.Read.input run.new.plan;
        planned = planned;
        end = end;
        opens = c.in_ok-plan.ensures.opened;
        reads = reads;
        does = record {
          file = g.D.File.Read.input c.in_ok-old.old;
          file₁ = g.D.File.Read.input run.new.old;
          answer = resumed;
          opens = c.in_ok-old.ensures.opened;
          reads = reads_old;
          writes = subst (λ kept. WritesNextPage planned (place_of resumed) (is_some kept) c.in_ok-count.count end (g.O.Write.output c.args.out.now) (g.O.Write.output run.new.out) session session₁) (sym is) writes;
        };
        reports = reports;
        ends = ends;
      };
      leaves = leaves_made rules _ _ _ _ _ _ _ is c.in_ok-new.ensures.made.1 c.keep_if_done.ensures;
    }
