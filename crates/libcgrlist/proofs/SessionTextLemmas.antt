-- Session texts that lie in memory: the listing of one, and whether it is verified.
use Rattle.std.proofs.Common.{◌≡◌, ℕ, ◌⊎◌, inl, inr, Bool, true, List, [], ◌++◌, append-nil, sym, ap, subst, ◌∙◌, refl, arith, Result, Ok, Err, Some, false}
use Rattle.sabr_model.specs.Devices.{Input}
use Rattle.sabr_model.specs.plan.Plan.{ContactPlan}
use Rattle.sabr_frontier.specs.session.Session.{Seen}
use Rattle.sabr_session.specs.SessionFed.{IsSessionFrom}
use Rattle.sabr_session.specs.SessionGiven.{said_over}
use Rattle.sabr_session.specs.declared.session_fault.SessionFault.{SessionFault}
use Rattle.libcgrlist.specs.SessionTexts.{IsLoaded, IsRefusal, IsRefusedText, session_line, session_status, Verifies}
use Rattle.libcgrlist.specs.Opened.{OpenPlan, listing_of}
use Rattle.libcgrlist.specs.Status.{no_memory}
use Rattle.std.specs.Prelude.{IsTrue}
use Rattle.sabr_session.specs.Verifying.{BreaksVerified, EndsVerified, IsSessionText, RefusesVerified, VerifiesText}

-- ---- the listing of a text

-- a reader that lies in memory
abbrev bytes_at : List ℕ → List ℕ → Bool → Input
bytes_at rest given ended = record { remaining = Some rest; given = given; ended = ended; failures = 0 }

-- what is behind the handle once the session of a text is there
pub loaded : (o n : OpenPlan) (text : List ℕ) (s t : Seen)
    → IsSessionFrom o.plan (said_over o.plan text true) (Ok s) → t ≡ listing_of s → n ≡ record o { listing = Some t } → IsLoaded o text n
loaded o n text s t from is after = rw after (rw is (from.1, ap (λ u. record o { listing = Some (listing_of u) }) from.0))

-- a fault of a text with its status and its line
pub refused : (o : OpenPlan) (text : List ℕ) (f : SessionFault) (status line : ℕ)
    → IsRefusal o text f → status ≡ session_status f → line ≡ session_line f
    → ((status ≡ no_memory) × (line ≡ 0)) ⊎ IsRefusedText o text status line
refused o text f status line (inl memory) named numbered = inl (rw memory at named, rw memory at numbered)
refused o text f status line (inr first) named numbered = inr (f, first, named, numbered)

-- ---- whether it is verified

-- the reader ended, since it never fails, or the bytes begin no such text; so the answer is that to all of them
pub verified_bytes : (p : ContactPlan) (text rest before after : List ℕ) (b e : Bool) (answer : Result Bool SessionFault)
    → VerifiesText p (bytes_at text before b) answer (bytes_at rest after e) → Verifies p text answer
verified_bytes p text rest before after b e answer verifies = told answer verifies.told
  where
    parts : text ≡ verifies.given ++ rest
    parts = verifies.gives.1

    whole : rest ≡ [] → verifies.given ≡ text
    whole none = sym (parts ∙ ap (λ w. verifies.given ++ w) none ∙ append-nil verifies.given)

    told : (a : Result Bool SessionFault)
        → EndsVerified p (bytes_at text before b) verifies.given a (bytes_at rest after e) ⊎ (BreaksVerified p (bytes_at text before b) verifies.given a (bytes_at rest after e) ⊎ RefusesVerified p (bytes_at text before b) verifies.given a (bytes_at rest after e))
        → Verifies p text a
    told (Err f) (inl h) = h.1
    told (Err f) (inr (inl h)) = absurd (omega (arith, h.0))
    told (Err f) (inr (inr h)) = h.1
    told (Ok true) (inl h) = subst (λ w. IsSessionText p w) (whole h.0.1) (h.2.0 refl)
    told (Ok true) (inr (inl h)) = absurd (omega (arith, h.0))
    told (Ok true) (inr (inr h)) = let e : true ≡ false = h.1 in absurd cc
    told (Ok false) (inl h) = λ is. let e : IsTrue false = h.2.1 (subst (λ w. IsSessionText p w) (sym (whole h.0.1)) is) in absurd cc
    told (Ok false) (inr (inl h)) = absurd (omega (arith, h.0))
    told (Ok false) (inr (inr h)) = λ is. h.3 rest (subst (λ w. IsSessionText p w) parts is)
