-- Why a search stops.
use Rattle.std.specs.Prelude.{⊤}
use Rattle.std.specs.declared.result.Result.{Result}
use Rattle.std.specs.declared.result.Result.TheVariants.{Ok, Err}
use Rattle.sabr_search.specs.declared.stopped.Stopped.{Stopped}
use Rattle.sabr_search.specs.declared.stopped.Stopped.TheVariants.{NoMemory, NoLooks}

-- it stops for want of looks for this reason alone
abbrev pub StopsOnlyIf : {T : Type 0} → Result T Stopped → Type 0 → Type 0
StopsOnlyIf (Ok value) reason = ⊤
StopsOnlyIf (Err NoMemory) reason = ⊤
StopsOnlyIf (Err NoLooks) reason = reason
