use Rattle.libcgrlist.proofs.AdditionLemmas.{adds_all}
use Rattle.libcgrlist.proofs.additions.add_contacts.Goals as goal

pub returns : goal.returns
returns c =
    adds_all c.args.opened.now _ c.with_contacts-made.result c.take_over.result c.args.place.now c.take_over.new.place c.take_over.new.opened c.with_contacts-made.ensures.made c.take_over.ensures
