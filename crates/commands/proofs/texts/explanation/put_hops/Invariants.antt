use Rattle.std.proofs.Common.{◌≡◌, length}
use Rattle.sabr_session.specs.Hops.{hops_left}
use Rattle.commands.proofs.Explained.{PutBefore}
use Rattle.commands.proofs.texts.explanation.put_hops.Given as goal

abbrev pub invariant-loop-hop : goal.invariant-loop-hop
invariant-loop-hop g l = record {
  put : PutBefore g.W.Write.output l.initial.text (hops_left l.initial.hops) (hops_left l.hops) l.text;
  question : l.hops.question ≡ l.initial.hops.question;
}

abbrev pub decreases-loop-hop : goal.decreases-loop-hop
decreases-loop-hop g l = length (hops_left l.hops)
