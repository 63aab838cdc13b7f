use Rattle.sabr_model.proofs.ListLemmas.Names.{take, AreMet}
use Rattle.sabr_model.proofs.following.met_by.Given as goal

abbrev pub invariant-loop-number : goal.invariant-loop-number
invariant-loop-number g l = AreMet l.plan l.met (take l.number-index l.numbers)
