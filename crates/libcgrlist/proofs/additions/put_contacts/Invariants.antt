use Rattle.std.proofs.Common.{◌≡◌, drop}
use Rattle.libcgrlist.specs.Additions.{all_put}
use Rattle.libcgrlist.specs.Changes.{contact_put}
use Rattle.libcgrlist.proofs.additions.put_contacts.Given as goal

abbrev pub invariant-loop-place : goal.invariant-loop-place
invariant-loop-place l = all_put contact_put l.place l.plan.plan (drop l.place l.contacts) ≡ all_put contact_put 0 l.fn.plan.plan l.contacts
