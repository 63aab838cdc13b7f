use Rattle.std.proofs.Common.{◌≡◌, ◌*◌, ◌≤◌, length, take}
use Rattle.libcgrlist.specs.Buffers.{contacts_of}
use Rattle.libcgrlist.proofs.buffers.count_contacts.Given as goal

abbrev pub invariant-loop-route : goal.invariant-loop-route
invariant-loop-route l = record {
  counted : l.count ≡ length (contacts_of (take l.route-index l.routes));
  few : l.count ≤ l.route-index * 20000;
}
