use Rattle.std.proofs.Common.{◌≡◌, length}
use Rattle.sabr_session.specs.Hops.{hops_left}
use Rattle.libcgrlist.specs.Following.{hops_of}
use Rattle.libcgrlist.proofs.FollowLemmas.{AreWritten}
use Rattle.libcgrlist.proofs.follow.follow_contacts.Given as goal

abbrev pub invariant-loop-hop : goal.invariant-loop-hop
invariant-loop-hop l = record {
  written : AreWritten (hops_of l.plan.plan l.request l.contacts) (hops_left l.hops) l.fn.rows l.rows l.count;
  question : l.hops.question ≡ record { plan = l.plan; request = l.request; contacts = l.contacts };
}

abbrev pub decreases-loop-hop : goal.decreases-loop-hop
decreases-loop-hop l = length (hops_left l.hops)
