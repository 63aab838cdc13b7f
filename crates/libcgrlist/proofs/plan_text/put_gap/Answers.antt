use Rattle.libcgrlist.proofs.PlanTextPieces.{gap_put, no_gap}
use Rattle.libcgrlist.proofs.plan_text.put_gap.Goals as goal

pub loop-number-init : goal.loop-number-init
loop-number-init c = no_gap c.args.start c.args.text.now.items

pub loop-number-preserved : goal.loop-number-preserved
loop-number-preserved c =
    gap_put c.args.start c.loop-number._number c.args.text.now.items c.loop-number.text.items c.put_addition.new.text.items c.put_deletion.new.text.items
    c.loop-number.invariant c.in_ok-put_addition.ensures c.in_ok-put_deletion.ensures
