-- What a call over a handle finds and leaves.
use Rattle.std.specs.Prelude.{◌≡◌, ℕ, Bool, true, false, IsTrue, Option, None, Some, IfSome, is_some}
use Rattle.sabr_model.specs.plan.Plan.{IsPlan}
use Rattle.libcgrlist.specs.Held.{CanGrow, standing}
use Rattle.libcgrlist.specs.Opened.{OpenPlan}
use Rattle.libcgrlist.specs.declared.held.Held.{Held}
use Rattle.libcgrlist.specs.Status.{closed}
use Rattle.libcgrlist.specs.declared.handle.PlanHandle.{PlanHandle}

-- what C owes of a handle, and gets back: an open one has a plan
abbrev pub IsValidHandle : PlanHandle → Type 0
IsValidHandle handle = IsTrue handle.is_open → IsTrue (is_some handle.place.held) × IfSome handle.place.held CanGrow

-- over a closed handle a call answers that, and changes nothing behind it; over an open one this holds of what stood
-- behind it and of what stands there after the call, and the plan there obeys the rules of plans
abbrev pub CallsOver : Bool → Option Held → ℕ → Option Held → (OpenPlan → OpenPlan → Type 0) → Type 0
CallsOver false old status new P = (status ≡ closed) × (new ≡ old)
CallsOver true (Some o) status (Some n) P = P (standing o) (standing n) × IsPlan (standing n).plan.plan
CallsOver true (Some o) status None P = ⊥
CallsOver true None status new P = ⊥

-- a handle stays open or closed, and valid, and this holds of what stands behind it before and after
abbrev pub Calls : PlanHandle → PlanHandle → ℕ → (OpenPlan → OpenPlan → Type 0) → Type 0
Calls old new status P = (new.is_open ≡ old.is_open) × IsValidHandle new × CallsOver old.is_open old.place.held status new.place.held P
