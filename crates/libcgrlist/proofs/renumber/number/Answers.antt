use Rattle.std.proofs.Common.{length-set}
use Rattle.sabr_model.specs.declared.contact.Contact.{Contact}
use Rattle.libcgrlist.proofs.PlanLemmas.{number_more}
use Rattle.libcgrlist.proofs.renumber.number.Goals as goal

pub loop-place-preserved : goal.loop-place-preserved
loop-place-preserved c =
    let none : Contact = record { number = 0; from = 0; to = 0; start = 0; end = 0; rate = 0 } in record {
      count = simp length-set c.loop-place.invariant.count;
      made = number_more c.args.contacts.now c.loop-place.contacts c.loop-place.place none c.loop-place-test.true c.loop-place.invariant.made;
    }
