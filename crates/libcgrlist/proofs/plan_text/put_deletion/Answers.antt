use Rattle.std.proofs.Common.{codes, decimal}
use Rattle.sabr_plan.specs.Times.{time_text_of}
use Rattle.libcgrlist.specs.PlanTexts.{deletion_line}
use Rattle.libcgrlist.proofs.PlanTextPieces.{four_words}
use Rattle.libcgrlist.proofs.plan_text.put_deletion.Goals as goal

pub returns : goal.returns
unfolding deletion_line
returns c =
    let start = rw c.time_text.ensures at c.in_ok-put_word-2.ensures in
    four_words 100 (codes "contact") (time_text_of c.args.start) (decimal 1) (decimal 2)
    c.args.text.now.items c.push.new.self.items c.put_word.new.text.items c.put_word-2.new.text.items c.put_number.new.text.items c.put_number-2.new.text.items c.push-2.new.self.items
    c.in_ok-push.ensures.items c.in_ok-put_word.ensures start c.in_ok-put_number.ensures c.in_ok-put_number-2.ensures c.in_ok-push-2.ensures.items
