use Rattle.commands.proofs.RunLemmas.PageTexts.{flush_failed}
use Rattle.commands.proofs.runs.pages.send_report.Goals as goal

pub returns-in_default-clause-text : goal.returns-in_default-clause-text
returns-in_default-clause-text g c = flush_failed (g.O.Write.output c.args.out.now) (g.O.Write.output c.write_report.new.writer) (g.O.Write.output c.flush.new.self) _ c.in_ok-write_report.ensures c.in_default.ensures.bytes c.in_default.ensures.count
