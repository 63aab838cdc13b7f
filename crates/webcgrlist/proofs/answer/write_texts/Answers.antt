use Rattle.std.proofs.Common.{rules}
use Rattle.webcgrlist.proofs.GrowLemmas.{grow, put_grown}
use Rattle.webcgrlist.proofs.answer.write_texts.Goals as goal

pub returns-clause-texts : goal.returns-clause-texts
returns-clause-texts c =
    let ends = c.run_within-ended.ensures.ends in
    let grown = grow _ _ _ _ _ ends in
    record {
      before = _;
      after = _;
      unwritten = record { report = c.new-report.ensures.taken; session = c.new-session.ensures.taken; message = c.new-message.ensures.taken };
      ends = ends;
      report = record { buffer = put_grown c.new-report.result c.run_within-ended.new.report _ c.args.report.now _ grown.report c.new-report.ensures.same_room c.new-report.ensures.before c.new-report.ensures.taken (search rules); counted = c.length.ensures };
      session = record { buffer = put_grown c.new-session.result c.run_within-ended.new.session _ c.args.session.now _ grown.session c.new-session.ensures.same_room c.new-session.ensures.before c.new-session.ensures.taken (search rules); counted = c.length-2.ensures };
      message = record { buffer = put_grown c.new-message.result c.run_within-ended.new.message _ c.args.message.now _ grown.message c.new-message.ensures.same_room c.new-message.ensures.before c.new-message.ensures.taken (search rules); counted = c.length-3.ensures };
    }
