-- What reading a session text leaves.
use Rattle.std.specs.Prelude.{◌≡◌, ℕ, Bool, List, Result}
use Rattle.sabr_model.specs.Devices.{Input}
use Rattle.sabr_plan.specs.TextReading as text
use Rattle.sabr_model.specs.plan.Plan.{TabledPlan}
use Rattle.sabr_plan.specs.Canonical.{digest_of}
use Rattle.sabr_frontier.specs.session.Session.{Seen}
use Rattle.sabr_session.specs.SessionRead.{Said, said_of}
use Rattle.sabr_session.specs.SessionFed.{IsSessionFrom}
use Rattle.sabr_session.specs.declared.session_fault.SessionFault.{SessionFault}
use Rattle.sabr_session.specs.declared.session_fault.SessionFault.TheVariants.{Read, NoMemory}

-- what the lines of these bytes say over the plan
abbrev pub said_over : TabledPlan → List ℕ → Bool → Result Said SessionFault
said_over plan bytes ended = said_of plan.plan (digest_of plan.plan) bytes ended

-- the fault of a reader that failed, and of a failed allocation
abbrev pub IsRead : SessionFault → Type 0
IsRead f = f ≡ Read

abbrev pub IsNoMemory : SessionFault → Type 0
IsNoMemory f = f ≡ NoMemory

-- the reader ended after these bytes, and they are the text
abbrev pub EndsText : TabledPlan → Input → List ℕ → Result Seen SessionFault → Input → Type 0
EndsText plan = text.EndsText (said_over plan) (IsSessionFrom plan)

-- the reader failed after these bytes, which have no fault
abbrev pub BreaksText : TabledPlan → Input → List ℕ → Result Seen SessionFault → Input → Type 0
BreaksText plan = text.BreaksText (said_over plan) IsRead

-- these bytes are refused for all bytes after them, or an allocation failed
abbrev pub RefusesText : TabledPlan → Input → List ℕ → Result Seen SessionFault → Input → Type 0
RefusesText plan = text.RefusesText (said_over plan) IsRead IsNoMemory

-- these bytes were read, and the result is that of their text
abbrev pub ReadsSession : TabledPlan → Input → Result Seen SessionFault → Input → Type 0
ReadsSession plan = text.ReadsToEnd (said_over plan) (IsSessionFrom plan) IsRead IsNoMemory
