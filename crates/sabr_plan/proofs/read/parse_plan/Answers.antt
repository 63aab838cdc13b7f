-- The text is one piece.
use Rattle.sabr_plan.proofs.Names.{err_from_is_err_and}
use Rattle.sabr_plan.proofs.Held.{all_was_read, all_is_refused}
use Rattle.sabr_plan.proofs.read.parse_plan.Goals as goal

pub returns-in_err-feed : goal.returns-in_err-feed
returns-in_err-feed g c =
    let p = err_from_is_err_and c.from_residual.result c.from_residual.ensures.1 in
    rw (p.1, p.2) (all_is_refused c.new-feed.result _ c.in_err-feed.field-0.0 c.new-feed.ensures c.in_err-feed.ensures.fed)

pub returns : goal.returns
returns g c = all_was_read c.new-feed.result _ _ c.finish.result c.new-feed.ensures c.in_ok-feed.ensures.fed c.finish.ensures
