-- What the run leaves that writes the canonical text of a plan.
use Rattle.std.specs.Prelude.{◌≡◌, Result, Ok, Err}
use Rattle.sabr_model.specs.plan.Plan.{TabledPlan}
use Rattle.sabr_model.specs.Devices.{Output, Written, WrittenInPart}
use Rattle.sabr_plan.specs.Canonical.{canonical_text}
use Rattle.sabr_plan.specs.declared.fault.PlanFault.{PlanFault}
use Rattle.commands.specs.declared.failure.Failure.{Failure}
use Rattle.commands.specs.declared.failure.Failure.TheVariants as failure
use Rattle.commands.specs.texts.Messages.{failure_of_plan}

-- what is written over what reading gave: over a plan its canonical text, or a beginning of it if the writer failed, and
-- it doesn't allocate; nothing if the plan was refused
abbrev pub WritesCanonical : Result TabledPlan PlanFault → Result (Unit {0}) Failure → Output → Output → Type 0
WritesCanonical (Err fault) end old new = (end ≡ Err (failure_of_plan fault)) × (new ≡ old)
WritesCanonical (Ok p) (Ok _) old new = Written old (canonical_text p.plan) new
WritesCanonical (Ok p) (Err failure.Write) old new = WrittenInPart old (canonical_text p.plan) new
WritesCanonical (Ok p) (Err _) old new = ⊥
