-- Session texts: the text of a listing's place, the listing of a text, and whether a text is that of a place.
use Rattle.std.specs.Prelude.{◌≡◌, ℕ, ◌⊎◌, List, Option, None, Some, min, true, Ok, Err, Bool, false, Result}
use Rattle.sabr_frontier.specs.session.Session.{Seen, session_over}
use Rattle.sabr_session.specs.SessionText.{text_of_session}
use Rattle.libcgrlist.specs.Status.{no_listing, no_memory, done, has_listing, no}
use Rattle.libcgrlist.specs.Buffers.{GivesNoText, GivesText}
use Rattle.sabr_plan.specs.Canonical.{digest_of}
use Rattle.sabr_search.specs.questions.Calls.{no_calls}
use Rattle.sabr_session.specs.SessionRead.{IsSessionOf}
use Rattle.sabr_session.specs.declared.session_fault.SessionFault.{SessionFault}
use Rattle.libcgrlist.specs.Listings.{IfOpen}
use Rattle.libcgrlist.specs.Opened.{OpenPlan, listing_of}
use Rattle.sabr_model.specs.plan.Plan.{ContactPlan}
use Rattle.sabr_session.specs.Verifying.{IsSessionText}
use Rattle.sabr_session.specs.declared.session_fault.SessionFault.TheVariants as fault

-- no listing is open; or the text of its place is given
abbrev pub AnswersText : Option Seen → ℕ → List ℕ → List ℕ → ℕ → ℕ → Type 0
AnswersText None status old new length_old length_new = (status ≡ no_listing) × GivesNoText old new length_old length_new
AnswersText (Some s) status old new length_old length_new = GivesText (text_of_session s) status old new length_old length_new

-- the status of a refused session text; bytes in memory are read without a failure
abbrev pub session_status : SessionFault → ℕ
session_status fault.BadHeader = 80
session_status (fault.BadLine n) = 81
session_status fault.OtherPlan = 82
session_status fault.BadRequest = 83
session_status fault.NotClosed = 84
session_status (fault.BadRoute n) = 85
session_status fault.BadCount = 86
session_status fault.Read = no_memory
session_status fault.NoMemory = no_memory

-- the line that a fault names, or the largest number of 64 bits if that is less; 0 if it names none
abbrev pub session_line : SessionFault → ℕ
session_line fault.BadHeader = 0
session_line (fault.BadLine n) = min n 18446744073709551615
session_line fault.OtherPlan = 0
session_line fault.BadRequest = 0
session_line fault.NotClosed = 0
session_line (fault.BadRoute n) = min n 18446744073709551615
session_line fault.BadCount = 0
session_line fault.Read = 0
session_line fault.NoMemory = 0

-- the listing behind the handle is at the place that the bytes spell over the plan, and nothing can be taken back
abbrev pub IsLoaded : OpenPlan → List ℕ → OpenPlan → Type 0
IsLoaded o bytes n = IfOpen n.listing (λ s.
    IsSessionOf o.plan.plan (digest_of o.plan.plan) bytes true (Ok (s.request, s.state))
    × (n ≡ record o { listing = Some (listing_of (session_over o.plan s.request s.state no_calls)) }))

-- an allocation fails, or this is the first fault of the bytes over the plan
abbrev pub IsRefusal : OpenPlan → List ℕ → SessionFault → Type 0
IsRefusal o bytes f = (f ≡ fault.NoMemory) ⊎ IsSessionOf o.plan.plan (digest_of o.plan.plan) bytes true (Err f)

-- the bytes are refused, and their first fault is given
abbrev pub IsRefusedText : OpenPlan → List ℕ → ℕ → ℕ → Type 0
IsRefusedText o bytes status line =
    (f : SessionFault) × IsSessionOf o.plan.plan (digest_of o.plan.plan) bytes true (Err f) × (status ≡ session_status f) × (line ≡ session_line f)

-- a listing is open already; or an allocation fails; or the listing of the bytes is opened; or they are refused
abbrev pub AnswersLoad : Option Seen → OpenPlan → List ℕ → ℕ → ℕ → OpenPlan → Type 0
AnswersLoad (Some s) o bytes status line n = (status ≡ has_listing) × (line ≡ 0) × (n ≡ o)
AnswersLoad None o bytes status line n =
    ((status ≡ done) × (line ≡ 0) × IsLoaded o bytes n)
    ⊎ ((((status ≡ no_memory) × (line ≡ 0)) ⊎ IsRefusedText o bytes status line) × (n ≡ o))

-- yes only of the text of a place in the list of a request over the plan, and no only of another; no fault but memory comes
abbrev pub Verifies : ContactPlan → List ℕ → Result Bool SessionFault → Type 0
Verifies p bytes (Ok true) = IsSessionText p bytes
Verifies p bytes (Ok false) = IsSessionText p bytes → ⊥
Verifies p bytes (Err f) = f ≡ fault.NoMemory

-- done if the bytes are the text of a place in the list of a request over the plan, no if they aren't; or an allocation
-- fails
abbrev pub IsVerified : ContactPlan → List ℕ → ℕ → Type 0
IsVerified p bytes status = (status ≡ no_memory) ⊎ (((status ≡ done) × IsSessionText p bytes) ⊎ ((status ≡ no) × (IsSessionText p bytes → ⊥)))
