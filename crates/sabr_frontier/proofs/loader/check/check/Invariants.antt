use Rattle.sabr_frontier.proofs.Names.{take, AllGoOn, IsChecked}
use Rattle.sabr_frontier.proofs.loader.check.check.Given as goal

abbrev pub invariant-loop-number : goal.invariant-loop-number
invariant-loop-number g l = record {
  so_far : IsChecked l.question.plan.now.plan l.question.request (l.prefix, take l.number-index l.excluded) l.checked;
  paths : AllGoOn l.question.plan.now.plan l.question.request (l.prefix, take l.number-index l.excluded);
}
