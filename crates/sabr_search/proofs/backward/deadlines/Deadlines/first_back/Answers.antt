use Rattle.std.proofs.Common.{◌+◌, ◌∙◌, arith}
use Rattle.std.proofs.lemmas.List.{get_or-set_other}
use Rattle.sabr_search.proofs.ForwardLemmas.Queues.{all_same}
use Rattle.sabr_search.proofs.WayLemmas.EarliestSeconds.{filled}
use Rattle.sabr_search.proofs.backward.deadlines.Deadlines.first_back.Goals as goal

pub returns-clause-none : goal.returns-clause-none
returns-clause-none g c = λ k other.
    rw (filled _ _ 0 _ _ c.clear.ensures.items (omega (arith, c.clear.ensures.len)) c.in_ok-resize-2.ensures.items, c.goal-2.ensures) (get_or-set_other _ c.args.task.now.goal k (c.args.delivery + 1) 0 other ∙ all_same _ 0 k)
