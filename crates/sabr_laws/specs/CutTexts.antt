-- Texts of sessions that were cut.
use Rattle.std.specs.Prelude.{◌≡◌, ◌≢◌, ℕ, true, List, [], ◌++◌, Ok}
use Rattle.sabr_model.specs.plan.Plan.{ContactPlan, IsPlan}
use Rattle.sabr_model.specs.routes.Arrival.{RouteRequest}
use Rattle.sabr_plan.specs.Canonical.{digest_of}
use Rattle.sabr_frontier.specs.listing.State.{State}
use Rattle.sabr_session.specs.SessionText.{text_of, old_text_of, IsUnlimited}
use Rattle.sabr_session.specs.SessionRead.{IsSessionOf}
use Rattle.sabr_session.specs.TextLaws.{CanBeTold}

-- over a plan of digest h, the bytes spell no session
abbrev pub SpellNone : ContactPlan → List ℕ → List ℕ → Type 0
SpellNone p h bytes = (x : RouteRequest × State) → IsSessionOf p h bytes true (Ok x) → ⊥

-- a text that spells a session spells none if bytes are left out at its end
abbrev pub NoTextBeginsAnother : Type 0
NoTextBeginsAnother =
    (p : ContactPlan) (h begins rest : List ℕ) (x : RouteRequest × State)
    → IsSessionOf p h (begins ++ rest) true (Ok x) → rest ≢ [] → SpellNone p h begins

-- no proper beginning of the text of a request and a state spells a session, in either version
pub record IsRefusedWhenCut (p : ContactPlan) (r : RouteRequest) (s : State) : Type 0 where
  pub text : (begins rest : List ℕ) → begins ++ rest ≡ text_of (digest_of p) r s → rest ≢ [] → SpellNone p (digest_of p) begins
  pub old : IsUnlimited r → (begins rest : List ℕ) → begins ++ rest ≡ old_text_of (digest_of p) r s → rest ≢ [] → SpellNone p (digest_of p) begins

-- the same of each accepted request and each well-formed state over each plan
abbrev pub CutTextsAreRefused : Type 0
CutTextsAreRefused = (p : ContactPlan) (r : RouteRequest) (s : State) → IsPlan p → CanBeTold p r s → IsRefusedWhenCut p r s
