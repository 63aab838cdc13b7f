-- Which bytes are the text after some number of the best routes, and what verifying a text leaves.
use Rattle.std.specs.Prelude.{◌≡◌, ◌≢◌, ℕ, ◌+◌, ◌≤◌, Bool, false, IsTrue, ◌↔◌, ◌⊎◌, List, ◌++◌, length, Result, Ok, Err}
use Rattle.sabr_model.specs.Devices.{Input, HasEnded}
use Rattle.sabr_plan.specs.TextReading.{AreRefused, ReadsBytes}
use Rattle.sabr_model.specs.plan.Plan.{ContactPlan}
use Rattle.sabr_model.specs.routes.Arrival.{RouteRequest}
use Rattle.sabr_model.specs.routes.Asking.{IsRequest}
use Rattle.sabr_model.specs.routes.Listing.{routes}
use Rattle.sabr_plan.specs.Canonical.{digest_of}
use Rattle.sabr_frontier.specs.listing.Listing.{state_at}
use Rattle.sabr_session.specs.SessionText.{HasText, IsUnlimited, session_text, old_session_text}
use Rattle.sabr_session.specs.SessionRead.{said_of}
use Rattle.sabr_session.specs.declared.session_fault.SessionFault.{SessionFault}
use Rattle.sabr_session.specs.declared.session_fault.SessionFault.TheVariants.{Read, NoMemory}

-- the text after some number of the best routes, for an accepted request; in version 1 for one without limits
pub record IsSessionText (p : ContactPlan) (bytes : List ℕ) : Type 0 where
  pub request : RouteRequest
  pub place : ℕ
  pub accepted : IsRequest request
  pub within : place ≤ length (routes p request)
  pub there : HasText (state_at p request place)
  pub spelled : (bytes ≡ session_text p request place) ⊎ (IsUnlimited request × (bytes ≡ old_session_text p request place))

-- the reader ended after these bytes: yes exactly if they are such a text, or an allocation failed
abbrev pub EndsVerified : ContactPlan → Input → List ℕ → Result Bool SessionFault → Input → Type 0
EndsVerified p old given (Ok placed) new = HasEnded new × (new.failures ≡ old.failures) × (IsTrue placed ↔ IsSessionText p given)
EndsVerified p old given (Err f) new = (new.failures ≡ old.failures) × (f ≡ NoMemory)

-- the reader failed after these bytes, which have no fault
abbrev pub BreaksVerified : ContactPlan → Input → List ℕ → Result Bool SessionFault → Input → Type 0
BreaksVerified p old given answer new = (new.failures ≡ old.failures + 1) × (answer ≡ Err Read) × (said_of p (digest_of p) given false ≡ Err Read)

-- these bytes have a fault, for all bytes after them
pub record HasFault (p : ContactPlan) (given : List ℕ) : Type 0 where
  pub fault : SessionFault
  pub other : fault ≢ Read
  pub told : AreRefused (said_of p (digest_of p)) given fault

-- these bytes have a fault, and begin no such text, or an allocation failed
abbrev pub RefusesVerified : ContactPlan → Input → List ℕ → Result Bool SessionFault → Input → Type 0
RefusesVerified p old given (Ok placed) new = (new.failures ≡ old.failures) × (placed ≡ false) × HasFault p given × ((more : List ℕ) → IsSessionText p (given ++ more) → ⊥)
RefusesVerified p old given (Err f) new = (new.failures ≡ old.failures) × (f ≡ NoMemory)

-- these bytes were read, and the result is that of their text
abbrev pub VerifiesText : ContactPlan → Input → Result Bool SessionFault → Input → Type 0
VerifiesText p = ReadsBytes (EndsVerified p) (BreaksVerified p) (RefusesVerified p)
