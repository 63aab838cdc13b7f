-- A plan text that is read in chunks: what was read so far, and what the text comes to.
use Rattle.std.specs.Prelude.{◌≡◌, ℕ, ◌+◌, ◌-◌, ◌*◌, Bool, List, [], ◌++◌, length, ◌≤◌, IsTrue, OnOk, OnErr, Result, Ok, Err, ◌⊎◌}
use Rattle.sabr_plan.specs.TextReading.{AreRefused, ContinuesAs}
use Rattle.sabr_model.specs.plan.Plan.{ContactPlan, TabledPlan}
use Rattle.sabr_plan.specs.Steps.{and_then}
use Rattle.sabr_plan.specs.Words.{lines_of, is_one_line}
use Rattle.sabr_plan.specs.Reading.{Reading, most_lines, most_line_bytes, nothing_read, Leaves, limited, read_lines, last_line}
use Rattle.sabr_plan.specs.declared.fault.PlanFault.{PlanFault}
use Rattle.sabr_plan.specs.declared.fault.PlanKind.{PlanKind}
use Rattle.sabr_plan.specs.declared.fault.PlanKind.TheVariants.{NoMemory}

-- how many lines LF has ended, what they leave, and the bytes of the line after them
pub record Fed : Type 0 where
  pub lines : ℕ
  pub reading : Reading
  pub held : List ℕ

-- after this number of lines, the bytes are a beginning of one more, and none if there may be no more
abbrev pub BeginsLine : ℕ → List ℕ → Type 0
BeginsLine lines held = (lines ≤ most_lines) × (length held ≤ most_line_bytes * (most_lines - lines)) × (length held ≤ most_line_bytes) × IsTrue (is_one_line held)

-- before the first chunk
abbrev pub nothing_fed : Fed
nothing_fed = record { lines = 0; reading = nothing_read; held = [] }

-- what comes of a text, with these bytes after what was fed
unfoldable pub outcome : Fed → List ℕ → Bool → Result ContactPlan PlanFault
outcome s bytes ended =
    let text = lines_of (s.held ++ bytes) in
    and_then (read_lines (s.lines + 1) s.reading text.ended) (last_line ended (s.lines + 1 + length text.ended) text.open_line)

-- a chunk was fed: for all bytes after it, the text comes to the same
abbrev pub IsFed : {U : Type 0} → Fed → List ℕ → Result U PlanFault → Fed → Type 0
IsFed old piece (Ok _) new = ContinuesAs (outcome old) piece (outcome new)
IsFed old piece (Err f) new = (f.kind ≡ NoMemory) ⊎ AreRefused (outcome old) piece f

-- the line that goes on with these bytes was ended, or refused
pub record EndsLine {U : Type 0} (old : Fed) (back : List ℕ) (r : Result U PlanKind) (new : Fed) : Type 0 where
  pub value : Leaves (limited (old.lines + 1) old.reading (old.held ++ back)) r new.reading
  pub refused : OnErr r (new.lines ≡ old.lines)
  pub rest : OnOk r ((new.lines ≡ old.lines + 1) × (new.held ≡ []))
  pub fits : OnOk r (length old.held + length back ≤ most_line_bytes)
  pub one : IsTrue (is_one_line old.held)

-- it grows with each byte, up to that of the most lines
abbrev pub weight : Fed → ℕ
weight s = 256 * s.lines + length s.held

-- the plan, its fault, or a failed allocation
abbrev pub Answers : Result ContactPlan PlanFault → Result TabledPlan PlanFault → Type 0
Answers wanted (Ok p) = wanted ≡ Ok p.plan
Answers wanted (Err f) = (f.kind ≡ NoMemory) ⊎ (wanted ≡ Err f)
