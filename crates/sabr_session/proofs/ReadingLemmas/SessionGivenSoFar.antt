-- What reading a session text leaves, call by call.
use Rattle.std.proofs.Common.{◌≡◌, ℕ, ◌+◌, true, false, List, [], ◌⊎◌, inl, inr, sym, subst, ◌∙◌, refl, Result, Ok, Err, IfOk, IfErr}
use Rattle.sabr_model.specs.Devices.{Input, Gives, HasEnded}
use Rattle.sabr_plan.proofs.TextReading as reading
use Rattle.sabr_model.specs.plan.Plan.{TabledPlan}
use Rattle.sabr_plan.specs.Canonical.{digest_of}
use Rattle.sabr_frontier.specs.declared.session.paused.PausedSession.{PausedSession}
use Rattle.sabr_frontier.specs.listing.Listing.{IsState}
use Rattle.sabr_frontier.specs.session.Paused.{IsPausedOver, state_of}
use Rattle.sabr_frontier.specs.session.Session.{Seen}
use Rattle.sabr_search.specs.questions.Calls.{Calls}
use Rattle.sabr_session.specs.declared.session_fault.SessionFault.{SessionFault}
use Rattle.sabr_session.specs.declared.session_fault.SessionFault.TheVariants as fault
use Rattle.sabr_session.specs.SessionRead.{Said, ComesTo}
use Rattle.sabr_session.specs.SessionFed.{OpenText, nothing_fed, opened_over, outcome_of, IsFed, IsFinished, IsSessionFrom}
use Rattle.sabr_session.specs.SessionGiven.{EndsText, BreaksText, RefusesText, IsNoMemory, IsRead, ReadsSession, said_over}
use Rattle.sabr_session.specs.PausedTexts.{IsFinishedPaused, shown_over}
use Rattle.sabr_session.proofs.ReadingLemmas.SessionOutcomes.{said_of-outcome, outcome-read}
use Rattle.sabr_session.proofs.ReadingLemmas.StepsTaken.{text_not_read}

-- bytes were read of a text over the plan that wasn't refused, and whatever comes after them, it comes to the same
pub record HasGiven (plan : TabledPlan) (calls : Calls) (old new : Input) (t : OpenText) : Type 0 where
  pub read : reading.HasRead (said_over plan) (outcome_of t) old new
  pub over : t.plan ≡ plan
  pub counted : t.calls ≡ calls
  pub fine : outcome_of t [] false ≡ Err fault.Read

-- a feed holds such a text
abbrev pub HasFed : TabledPlan → Calls → Input → Input → Result OpenText SessionFault → Type 0
HasFed plan calls old new (Ok t) = HasGiven plan calls old new t
HasFed plan calls old new (Err f) = ⊥

-- nothing was read at first
pub nothing_given : (plan : TabledPlan) (calls : Calls) (old : Input) (feed : Result OpenText SessionFault) → feed ≡ Ok (opened_over plan calls) → HasFed plan calls old old feed
nothing_given plan calls old feed is = rw is (record {
  read = reading.nothing_read (said_over plan) (outcome_of (opened_over plan calls)) old (λ more ended. said_of-outcome plan.plan (digest_of plan.plan) more ended);
  over = refl;
  counted = refl;
  fine = outcome-read plan.plan (digest_of plan.plan) nothing_fed refl refl;
})

-- one more piece
pub piece_given : {U : Type 0} (plan : TabledPlan) (calls : Calls) (old mid new : Input) (feed next : Result OpenText SessionFault) (piece : List ℕ) (u : U)
    → HasFed plan calls old mid feed → Gives mid piece new → IsFed {U = U} feed piece (Ok u) next → HasFed plan calls old new next
piece_given plan calls old mid new (Err f) next piece u was gives fed = absurd was
piece_given plan calls old mid new (Ok t) (Err f) piece u was gives fed = absurd fed
piece_given plan calls old mid new (Ok t) (Ok s) piece u was gives fed = record {
  read = reading.piece_read (outcome_of s) new piece was.read gives fed.same;
  over = fed.plan ∙ was.over;
  counted = fed.calls ∙ was.counted;
  fine = fed.fine;
}

-- a piece is refused
pub piece_refused : (plan : TabledPlan) (calls : Calls) (old mid new : Input) (feed next : Result OpenText SessionFault) (piece : List ℕ) (f : SessionFault)
    → HasFed plan calls old mid feed → Gives mid piece new → new.failures ≡ old.failures → IsFed {U = Unit {0}} feed piece (Err f) next → ReadsSession plan old (Err f) new
piece_refused plan calls old mid new (Err g) next piece f was gives fine fed = absurd was
piece_refused plan calls old mid new (Ok t) next piece f was gives fine fed = reading.piece_refused (IsSessionFrom plan) IsRead IsNoMemory new was.read piece f gives fine fed.1

-- the reader ended
pub reader_ended : (plan : TabledPlan) (calls : Calls) (old mid new : Input) (feed : Result OpenText SessionFault) (answer : Result Seen SessionFault)
    → HasFed plan calls old mid feed → Gives mid [] new → HasEnded new → new.failures ≡ old.failures → IsFinished feed answer → ReadsSession plan old answer new
reader_ended plan calls old mid new (Err f) answer was gives end fine finished = absurd was
reader_ended plan calls old mid new (Ok t) answer was gives end fine finished =
    reading.text_ended (IsSessionFrom plan) IsRead IsNoMemory new was.read answer gives end fine (subst (λ (q : TabledPlan). IsSessionFrom q (outcome_of t [] true) answer) was.over finished)

-- the session of such a text was paused over the plan
pub finished_over : {B A : Type 0} (calls_of : B → Calls) (plan : TabledPlan) (calls : Calls) (old new : Input) (feed : Result OpenText SessionFault) (answer : Result (PausedSession B A) SessionFault)
    → HasFed plan calls old new feed → IsFinishedPaused calls_of feed answer
    → IsFinished feed (shown_over calls_of plan answer) × IfOk answer (IsPausedOver plan) × IfOk answer (λ s. calls_of s.searcher.finder ≡ calls) × IfOk answer (λ s. IsState plan.plan s.searcher.request (state_of s))
finished_over calls_of plan calls old new (Err f) answer was told = absurd was
finished_over calls_of plan calls old new (Ok t) answer was told = rw (← was.over, ← was.counted) told

-- its index may be refused
pub no_index : (plan : TabledPlan) (old : Input) (s : Seen) (new : Input) → ReadsSession plan old (Ok s) new → ReadsSession plan old (Err fault.NoMemory) new
no_index plan old s new reads = record { given = reads.given; gives = reads.gives; told = by_end reads.told }
  where
    by_end : EndsText plan old reads.given (Ok s) new ⊎ (BreaksText plan old reads.given (Ok s) new ⊎ RefusesText plan old reads.given (Ok s) new)
        → EndsText plan old reads.given (Err fault.NoMemory) new ⊎ (BreaksText plan old reads.given (Err fault.NoMemory) new ⊎ RefusesText plan old reads.given (Err fault.NoMemory) new)
    by_end (inl e) = inl (e.0, e.1, inl refl)
    by_end (inr (inl bad)) = absurd bad
    by_end (inr (inr bad)) = absurd bad

-- no text that ends is refused as if its reader had failed
pub never_read : (plan : TabledPlan) (given : List ℕ) (f : SessionFault) → IsSessionFrom plan (said_over plan given true) (Err f) → f ≡ fault.Read → ⊥
never_read plan given f (inl memory) e = cc
never_read plan given f (inr comes) e = by_said (said_over plan given true) refl comes
  where
    by_said : (said : Result Said SessionFault) → said_over plan given true ≡ said → ComesTo plan.plan said (Err f) → ⊥
    by_said (Ok s) is (inl (closed, never)) = absurd cc
    by_said (Ok s) is (inr (count, closed, never)) = absurd cc
    by_said (Err g) is told =
        let same : f ≡ g = cc in
        text_not_read plan.plan (digest_of plan.plan) given g is (sym same ∙ e)

-- the fault of a session is Read only if its reader failed
pub read_failed : (plan : TabledPlan) (old : Input) (answer : Result Seen SessionFault) (new : Input) → ReadsSession plan old answer new → IfErr answer (λ f. f ≡ fault.Read → new.failures ≡ old.failures + 1)
read_failed plan old answer new reads = reading.read_failed (said_over plan) (IsSessionFrom plan) IsRead IsNoMemory old new answer (λ f memory is. cc) (never_read plan) reads

pub paused_failed : {B A : Type 0} (calls_of : B → Calls) (plan : TabledPlan) (old : Input) (answer : Result (PausedSession B A) SessionFault) (new : Input)
    → ReadsSession plan old (shown_over calls_of plan answer) new → IfErr answer (λ f. f ≡ fault.Read → new.failures ≡ old.failures + 1)
paused_failed calls_of plan old (Ok s) new reads = tt
paused_failed calls_of plan old (Err f) new reads = read_failed plan old (Err f) new reads
