-- A session text that is read in chunks: what was read so far, what the text comes to, and what a call that reads leaves.
use Rattle.std.specs.Prelude.{◌≡◌, ◌≢◌, ℕ, ◌+◌, ◌*◌, nat_lt, ◌&&◌, ◌||◌, Bool, true, false, List, [], ◌++◌, length, Result, Ok, Err, ◌⊎◌}
use Rattle.sabr_plan.specs.TextReading.{AreRefused, ContinuesAs}
use Rattle.sabr_model.specs.plan.Plan.{ContactPlan, TabledPlan}
use Rattle.sabr_plan.specs.Canonical.{digest_of}
use Rattle.sabr_plan.specs.Steps.{and_then}
use Rattle.sabr_plan.specs.Words.{has_bytes, lines_of}
use Rattle.sabr_search.specs.questions.Calls.{Calls}
use Rattle.sabr_frontier.specs.session.Session.{Seen, session_over}
use Rattle.sabr_session.specs.SessionRead.{Said, nothing_said, read_lines, is_after, last_line, most_bytes, misspelled, ComesTo}
use Rattle.sabr_session.specs.declared.session_fault.SessionFault.{SessionFault}
use Rattle.sabr_session.specs.declared.session_fault.SessionFault.TheVariants.{Read, NoMemory}

-- the number of lines that LF has ended, what they say, and the bytes of the line after them
pub record SessionFed : Type 0 where
  pub lines : ℕ
  pub said : Said
  pub held : List ℕ

-- before the first chunk
abbrev pub nothing_fed : SessionFed
nothing_fed = record { lines = 0; said = nothing_said; held = [] }

-- what all lines come to say, with these bytes after what was fed
unfoldable pub outcome : ContactPlan → List ℕ → SessionFed → List ℕ → Bool → Result Said SessionFault
outcome p h s bytes ended =
    let text = lines_of (s.held ++ bytes) in
    and_then (read_lines p h (s.lines + 1) s.said text.ended) (last_line ended (s.lines + 1 + length text.ended) text.open_line)

-- the beginning of line n that is refused for all bytes after it: it has too many bytes, or a byte after `end`
abbrev pub is_bad_front : ℕ → Said → List ℕ → Bool
is_bad_front n s front = (is_after n s && has_bytes front) || nat_lt most_bytes (length front)

-- over a plan, what was fed of a text that wasn't refused, and the calls of its session's finder
pub record OpenText : Type 0 where
  pub plan : TabledPlan
  pub calls : Calls
  pub fed : SessionFed

-- before the first chunk, over a plan
abbrev pub opened_over : TabledPlan → Calls → OpenText
opened_over plan calls = record { plan = plan; calls = calls; fed = nothing_fed }

-- what all lines come to say, with these bytes after the text, over its plan
abbrev pub outcome_of : OpenText → List ℕ → Bool → Result Said SessionFault
outcome_of t bytes ended = outcome t.plan.plan (digest_of t.plan.plan) t.fed bytes ended

-- a chunk continues a text: the line after the last LF is held, and no more; for all bytes after it the text comes to
-- the same; and if the reader fails there, Read is the result
pub record GoesOn (old : OpenText) (piece : List ℕ) (new : OpenText) : Type 0 where
  pub plan : new.plan ≡ old.plan
  pub calls : new.calls ≡ old.calls
  pub held : new.fed.held ≡ (lines_of (old.fed.held ++ piece)).open_line
  pub same : ContinuesAs (outcome_of old) piece (outcome_of new)
  pub fine : outcome_of new [] false ≡ Err Read

-- a chunk is refused: a failed allocation, or this fault for all bytes after it
abbrev pub IsRefusedPiece : OpenText → List ℕ → SessionFault → Type 0
IsRefusedPiece t piece f = (f ≡ NoMemory) ⊎ ((f ≢ Read) × AreRefused (outcome_of t) piece f)

-- more bytes aren't held: a failed allocation, or no line begins with those held and them
abbrev pub IsRefusedFront : OpenText → List ℕ → SessionFault → Type 0
IsRefusedFront t bytes f =
    (f ≡ NoMemory) ⊎ ((f ≡ misspelled (t.fed.lines + 1)) × (is_bad_front (t.fed.lines + 1) t.fed.said (t.fed.held ++ bytes) ≡ true))

-- a chunk was fed to a text: the text goes on, or is refused; a text that was refused before is refused again
abbrev pub IsFed : {U : Type 0} → Result OpenText SessionFault → List ℕ → Result U SessionFault → Result OpenText SessionFault → Type 0
IsFed (Ok t) piece (Ok _) (Ok new) = GoesOn t piece new
IsFed (Ok t) piece (Ok _) (Err g) = ⊥
IsFed (Ok t) piece (Err f) new = (new ≡ Err f) × IsRefusedPiece t piece f
IsFed (Err g) piece (Ok _) new = ⊥
IsFed (Err g) piece (Err f) new = (f ≡ g) × (new ≡ Err g)

-- the most lines of a text: six before the parts, at most 2 ^ 64 - 1 parts, and `end`
abbrev pub most_lines : ℕ
most_lines = 18446744073709551622

-- the bytes of a longest line, with its LF
abbrev pub line_weight : ℕ
line_weight = 660009

-- it grows with each byte
abbrev pub weight : OpenText → ℕ
weight t = line_weight * t.fed.lines + length t.fed.held

-- no text reaches it
abbrev pub weight_bound : ℕ
weight_bound = line_weight * (most_lines + 1)

abbrev pub weight_of : Result OpenText SessionFault → ℕ
weight_of (Ok t) = weight t
weight_of (Err f) = 0

-- the session of what a text says, without former states or a search; or the text's fault, or a failed allocation
abbrev pub IsSessionFrom : TabledPlan → Result Said SessionFault → Result Seen SessionFault → Type 0
IsSessionFrom plan said (Ok s) =
    (s ≡ session_over plan s.request s.state s.calls) × ComesTo plan.plan said (Ok (s.request, s.state))
IsSessionFrom plan said (Err f) = (f ≡ NoMemory) ⊎ ComesTo plan.plan said (Err f)

-- the text has ended after what was fed; a text that was refused before is refused again
abbrev pub IsFinished : Result OpenText SessionFault → Result Seen SessionFault → Type 0
IsFinished (Ok t) answer = IsSessionFrom t.plan (outcome_of t [] true) answer
IsFinished (Err f) answer = answer ≡ Err f

-- ---- what a call that reads a line of a session text leaves; an allocation may also fail

-- the new state, or the fault, or a failed allocation
abbrev pub Leaves : {S U : Type 0} → Result S SessionFault → Result U SessionFault → S → Type 0
Leaves wanted (Ok _) new = wanted ≡ Ok new
Leaves wanted (Err f) new = (f ≡ NoMemory) ⊎ (wanted ≡ Err f)
