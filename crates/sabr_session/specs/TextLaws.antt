-- Laws of session texts: they are read back, they have one meaning, and their chunks are one text.
use Rattle.std.specs.Prelude.{◌≡◌, ℕ, Bool, true, List, Result, Ok, ◌≢◌, false, [], ◌∷◌, ◌++◌, flat_map, Err, IfOk, ◌⊎◌}
use Rattle.sabr_model.specs.plan.Plan.{ContactPlan, IsPlan, TabledPlan}
use Rattle.sabr_model.specs.routes.Arrival.{RouteRequest}
use Rattle.sabr_model.specs.routes.Asking.{IsRequest}
use Rattle.sabr_plan.specs.Canonical.{digest_of}
use Rattle.sabr_frontier.specs.listing.State.{State}
use Rattle.sabr_frontier.specs.listing.Listing.{IsState}
use Rattle.sabr_session.specs.SessionText.{text_of, old_text_of, HasText, IsUnlimited}
use Rattle.sabr_session.specs.SessionRead.{IsSessionOf}
use Rattle.sabr_session.specs.declared.session_fault.SessionFault.{SessionFault}
use Rattle.sabr_plan.specs.Words.{lines_of}
use Rattle.sabr_frontier.specs.session.Session.{Seen}
use Rattle.sabr_search.specs.questions.Calls.{Calls}
use Rattle.sabr_session.specs.SessionFed.{OpenText, opened_over, IsFed, IsFinished, IsSessionFrom}
use Rattle.sabr_session.specs.SessionGiven.{said_over}
use Rattle.sabr_session.specs.declared.session_fault.SessionFault.TheVariants.{Read, NoMemory}

-- over a plan: an accepted request and a well-formed state that have a text
pub record CanBeTold (p : ContactPlan) (r : RouteRequest) (s : State) : Type 0 where
  pub accepted : IsRequest r
  pub formed : IsState p r s
  pub there : HasText s

-- reading their text gives exactly this request and this state; for a request without limits, reading their text in
-- version 1 does, too
pub record IsReadBack (p : ContactPlan) (r : RouteRequest) (s : State) : Type 0 where
  pub text : IsSessionOf p (digest_of p) (text_of (digest_of p) r s) true (Ok (r, s))
  pub old : IsUnlimited r → IsSessionOf p (digest_of p) (old_text_of (digest_of p) r s) true (Ok (r, s))

-- if two texts of a version are equal, so are their requests and their states
pub record AreApart (h : List ℕ) (r q : RouteRequest) (s t : State) : Type 0 where
  pub text : text_of h r s ≡ text_of h q t → (r ≡ q) × (s ≡ t)
  pub old : IsUnlimited r → IsUnlimited q → old_text_of h r s ≡ old_text_of h q t → (r ≡ q) × (s ≡ t)

-- the texts over a plan: each is read to what it was written of, and no two are alike
pub record TextsTell (p : ContactPlan) : Type 0 where
  pub read_back : (r : RouteRequest) (s : State) → CanBeTold p r s → IsReadBack p r s
  pub apart : (h : List ℕ) (r q : RouteRequest) (s t : State) → CanBeTold p r s → CanBeTold p q t → AreApart h r q s t

abbrev pub TextsTellSessions : Type 0
TextsTellSessions = (p : ContactPlan) → IsPlan p → TextsTell p

-- a text has at most one result
abbrev pub HasOneAnswer : Type 0
HasOneAnswer =
    (p : ContactPlan) (h bytes : List ℕ) (ended : Bool) (a b : Result (RouteRequest × State) SessionFault)
    → IsSessionOf p h bytes ended a → IsSessionOf p h bytes ended b → a ≡ b

-- ---- chunks of a session text, fed one after the other, are one text

-- chunks and their results, fed in turn
abbrev pub AreFed : Result OpenText SessionFault → List (List ℕ × Result (Unit {0}) SessionFault) → Result OpenText SessionFault → Type 0
AreFed old [] new = new ≡ old
AreFed old (fed ∷ more) new = (mid : Result OpenText SessionFault) × IsFed old fed.0 fed.1 mid × AreFed mid more new

-- the bytes of the chunks
abbrev pub bytes_of : List (List ℕ × Result (Unit {0}) SessionFault) → List ℕ
bytes_of fed = flat_map (λ f. f.0) fed

-- the result of a chunk if these are the bytes so far: Ok if a failure of the reader after them would be reported as
-- Read, and otherwise the fault that would be reported, or a failed allocation
abbrev pub IsAnswerSoFar : TabledPlan → List ℕ → Result (Unit {0}) SessionFault → Type 0
IsAnswerSoFar plan bytes (Ok u) = said_over plan bytes false ≡ Err Read
IsAnswerSoFar plan bytes (Err f) = (f ≡ NoMemory) ⊎ ((f ≢ Read) × (said_over plan bytes false ≡ Err f))

-- after these chunks, the results of the next and of the end are those of all bytes so far; what is held is the line
-- after the last LF
pub record IsOneText (plan : TabledPlan) (fed : List (List ℕ × Result (Unit {0}) SessionFault)) (old : Result OpenText SessionFault) : Type 0 where
  pub piece : (piece : List ℕ) (answer : Result (Unit {0}) SessionFault) (new : Result OpenText SessionFault) → IsFed old piece answer new → IsAnswerSoFar plan (bytes_of fed ++ piece) answer
  pub held : IfOk old (λ t. t.fed.held ≡ (lines_of (bytes_of fed)).open_line)
  pub end : (answer : Result Seen SessionFault) → IsFinished old answer → IsSessionFrom plan (said_over plan (bytes_of fed) true) answer

-- for all chunks
abbrev pub PiecesAreOneText : Type 0
PiecesAreOneText =
    (plan : TabledPlan) (calls : Calls) (fed : List (List ℕ × Result (Unit {0}) SessionFault)) (old : Result OpenText SessionFault)
    → AreFed (Ok (opened_over plan calls)) fed old → IsOneText plan fed old
