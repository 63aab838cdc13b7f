use Rattle.std.proofs.Common.{◌≡◌, take}
use Rattle.sabr_model.specs.plan.Table.{ends_of}
use Rattle.libcgrlist.proofs.views.ends_of.Given as goal

abbrev pub invariant-loop-contact : goal.invariant-loop-contact
invariant-loop-contact l = l.nodes.items ≡ ends_of (take l.contact-index l.contacts)
