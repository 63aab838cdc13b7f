use Rattle.std.proofs.Common.{ap, arith, length}
use Rattle.sabr_session.proofs.WordLemmas.ReadLists.{with_front-nil}
use Rattle.sabr_plan.proofs.TextPieces.{some_piece}
use Rattle.sabr_session.proofs.reading.lists.numbers_listed.Goals as goal

pub loop-left-init : goal.loop-left-init
loop-left-init c = record {
  few = omega (arith, ap length c.new-nodes.ensures);
  some = λ e. absurd (omega (arith, ap length e, some_piece 32 c.args.text.now));
  listed = rw c.new-nodes.ensures (with_front-nil _);
}
