use Rattle.sabr_model.proofs.ListLemmas.Names.{◌≡◌, drop, rises_above}
use Rattle.sabr_model.proofs.request.is_increasing.Given as goal

abbrev pub invariant-loop-number : goal.invariant-loop-number
invariant-loop-number l = rises_above 0 l.numbers ≡ rises_above l.low (drop l.number-index l.numbers)
