use Rattle.std.proofs.Common.{decimal}
use Rattle.sabr_plan.specs.Times.{time_text_of}
use Rattle.libcgrlist.specs.PlanTexts.{addition_line}
use Rattle.libcgrlist.proofs.PlanTextPieces.{six_words}
use Rattle.libcgrlist.proofs.plan_text.put_addition.Goals as goal

pub returns : goal.returns
unfolding addition_line
returns c =
    let a = c.args.addition.now in
    let start = rw c.time_text.ensures at c.in_ok-put_word-2.ensures in
    let end = rw c.time_text-2.ensures at c.in_ok-put_word-3.ensures in
    six_words 97 c.args.name.now (time_text_of a.start) (time_text_of a.end) (decimal a.one) (decimal a.other) (decimal a.value)
    c.args.text.now.items c.push.new.self.items c.put_word.new.text.items c.put_word-2.new.text.items c.put_word-3.new.text.items c.put_number.new.text.items c.put_number-2.new.text.items c.put_number-3.new.text.items c.push-2.new.self.items
    c.in_ok-push.ensures.items c.in_ok-put_word.ensures start end c.in_ok-put_number.ensures c.in_ok-put_number-2.ensures c.in_ok-put_number-3.ensures c.in_ok-push-2.ensures.items
