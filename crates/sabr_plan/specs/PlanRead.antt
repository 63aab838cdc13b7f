-- What reading a plan leaves.
use Rattle.std.specs.Prelude.{◌≡◌, Result}
use Rattle.sabr_model.specs.Devices.{Input}
use Rattle.sabr_plan.specs.TextReading.{ReadsToEnd}
use Rattle.sabr_model.specs.plan.Plan.{TabledPlan}
use Rattle.sabr_plan.specs.Reading.{plan_of}
use Rattle.sabr_plan.specs.Feeding.{Answers}
use Rattle.sabr_plan.specs.declared.fault.PlanFault.{PlanFault}
use Rattle.sabr_plan.specs.declared.fault.PlanKind.TheVariants.{NoMemory, Read}

-- the fault of a reader that failed, and of a failed allocation
abbrev pub IsRead : PlanFault → Type 0
IsRead f = f.kind ≡ Read

abbrev pub IsNoMemory : PlanFault → Type 0
IsNoMemory f = f.kind ≡ NoMemory

-- these bytes were read, and the result is that of their text
abbrev pub ReadsPlan : Input → Result TabledPlan PlanFault → Input → Type 0
ReadsPlan = ReadsToEnd plan_of Answers IsRead IsNoMemory
