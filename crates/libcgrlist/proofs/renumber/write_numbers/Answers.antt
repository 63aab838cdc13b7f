use Rattle.std.proofs.Common.{◌∙◌, sym}
use Rattle.host.proofs.BufferLemmas.{put_over-nothing}
use Rattle.sabr_model.specs.declared.contact.Contact.{Contact}
use Rattle.libcgrlist.proofs.PlanLemmas.{number_put, number_not_put}
use Rattle.libcgrlist.proofs.renumber.write_numbers.Goals.{else-i-numbers, then-i-numbers}
use Rattle.libcgrlist.proofs.renumber.write_numbers.Goals as goal

pub loop-i-init : goal.loop-i-init
loop-i-init c = sym (put_over-nothing c.args.numbers.now)

pub loop-i-preserved : goal.loop-i-preserved
loop-i-preserved c =
    let none : Contact = record { number = 0; from = 0; to = 0; start = 0; end = 0; rate = 0 } in
    elim c.if-i-numbers.branch [
      | then-i-numbers w ↦ w.numbers-is ∙ number_put c.args.contacts.now c.args.numbers.now c.loop-i.numbers c.loop-i.i none c.loop-i-test.true c.loop-i.invariant w.if-i-numbers.true
      | else-i-numbers w ↦ w.numbers-is ∙ number_not_put c.args.contacts.now c.args.numbers.now c.loop-i.numbers c.loop-i.i none c.loop-i-test.true c.loop-i.invariant w.if-i-numbers.false
    ]
