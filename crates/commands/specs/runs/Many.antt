-- What a run over many lines leaves: the answers to them, one after the other.
use Rattle.std.specs.Prelude.{◌≡◌, ◌≤◌, ⊤, ℕ, Bool, true, false, IsTrue, List, [], ◌∷◌, ◌++◌, All, Result, Ok, Err, codes}
use Rattle.std.specs.List.{concat}
use Rattle.sabr_model.specs.plan.Plan.{ContactPlan, TabledPlan}
use Rattle.sabr_model.specs.Devices.{Input, Output, Written, WrittenAndFlushed, WrittenInPart}
use Rattle.sabr_model.specs.routes.Arrival.{RouteRequest}
use Rattle.sabr_plan.specs.declared.fault.PlanFault.{PlanFault}
use Rattle.sabr_frontier.specs.listing.Listing.{most_routes}
use Rattle.sabr_frontier.specs.session.LastPage.{LastSeen}
use Rattle.sabr_session.specs.ReportText.{HasSpelledTimes, report_text}
use Rattle.commands.specs.declared.words.lines.LinesFault.{LinesFault}
use Rattle.commands.specs.declared.failure.Failure.{Failure}
use Rattle.commands.specs.declared.failure.Failure.TheVariants as failure
use Rattle.commands.specs.declared.words.lines.LineForm.{LineForm}
use Rattle.commands.specs.declared.words.lines.LineForm.TheVariants.{Requests, Lists}
use Rattle.commands.specs.declared.runs.answering.AnswerKind.{AnswerKind}
use Rattle.commands.specs.declared.runs.answering.AnswerKind.TheVariants.{FirstRoutes, Explanation}
use Rattle.commands.specs.texts.Messages.{failure_of_plan, failure_of_lines}
use Rattle.commands.specs.texts.PlanTexts.{explanation_text}
use Rattle.commands.specs.words.Lines.{AskedLine, ReadsLines}
use Rattle.commands.specs.runs.SessionRuns.{report_from}

-- the form of the lines that are answered so: the first routes of requests, and the explanations of lists
abbrev pub form_of : AnswerKind → LineForm
form_of (FirstRoutes count) = Requests
form_of Explanation = Lists

-- a page may have that many routes
abbrev pub IsWithin : AnswerKind → Type 0
IsWithin (FirstRoutes count) = count ≤ most_routes
IsWithin Explanation = ⊤

-- the word before a line
abbrev pub word_of : AnswerKind → List ℕ
word_of (FirstRoutes count) = codes "request "
word_of Explanation = codes "list "

-- the line before an answer: its own, after a word
abbrev pub heading : AnswerKind → List ℕ → List ℕ
heading kind line = concat (word_of kind ∷ line ∷ codes "\n" ∷ [])

-- what is written of a line after that: the report of the first page of its request, or the explanation of its contacts
abbrev pub body_text : ContactPlan → AnswerKind → AskedLine → List ℕ
body_text p (FirstRoutes count) x = report_from p x.asked.request 0 count
body_text p Explanation x = explanation_text p x.asked.request x.asked.contacts

-- the answer to a line
abbrev pub answer_text : ContactPlan → AnswerKind → AskedLine → List ℕ
answer_text p kind x = heading kind x.line ++ body_text p kind x

-- a last page is the first one of a request, as its report shows it
pub record IsFirstPage (p : TabledPlan) (r : RouteRequest) (count : ℕ) (l : LastSeen) : Type 0 where
  pub plan : l.plan ≡ p
  pub times : All HasSpelledTimes l.routes
  pub report : report_text l.routes 1 l.more ≡ report_from p.plan r 0 count

-- the answers to lines, one after the other
abbrev pub answers_text : ContactPlan → List AskedLine → AnswerKind → List ℕ
answers_text p [] kind = []
answers_text p (x ∷ xs) kind = answer_text p kind x ++ answers_text p xs kind

-- memory was refused at a line: the answers to those before it were written, and nothing else
pub record StopsAtLine (p : ContactPlan) (xs : List AskedLine) (kind : AnswerKind) (old new : Output) : Type 0 where
  pub before : List AskedLine
  pub request : AskedLine
  pub after : List AskedLine
  pub parts : xs ≡ before ++ request ∷ after
  pub written : Written old (answers_text p before kind) new

-- what answering leaves before its flush: all answers; a beginning of them if the writer failed; the answers before a
-- line if memory was refused there
abbrev pub LeavesAnswers : ContactPlan → List AskedLine → AnswerKind → Result (Unit {0}) Failure → Output → Output → Type 0
LeavesAnswers p xs kind (Ok _) old new = Written old (answers_text p xs kind) new
LeavesAnswers p xs kind (Err failure.Write) old new = WrittenInPart old (answers_text p xs kind) new
LeavesAnswers p xs kind (Err failure.NoMemory) old new = StopsAtLine p xs kind old new
LeavesAnswers p xs kind (Err _) old new = ⊥

-- the same with a flush, of all answers or of those before the line at which memory was refused
abbrev pub WritesAll : ContactPlan → List AskedLine → AnswerKind → Result (Unit {0}) Failure → Output → Output → Type 0
WritesAll p xs kind (Ok _) old new = WrittenAndFlushed old (answers_text p xs kind) new
WritesAll p xs kind (Err failure.Write) old new = WrittenInPart old (answers_text p xs kind) new
WritesAll p xs kind (Err failure.NoMemory) old new = StopsAtLine p xs kind old new × IsTrue new.flushed
WritesAll p xs kind (Err _) old new = ⊥

-- the writer failed before the flush
abbrev pub has_broken : Result (Unit {0}) Failure → Bool
has_broken (Err failure.Write) = true
has_broken _ = false

-- what one answer leaves: all of it, a beginning of it if the writer failed, and nothing if memory was refused
abbrev pub LeavesAnswer : ContactPlan → AnswerKind → AskedLine → Result (Unit {0}) Failure → Output → Output → Type 0
LeavesAnswer p kind x (Ok _) old new = Written old (answer_text p kind x) new
LeavesAnswer p kind x (Err failure.Write) old new = WrittenInPart old (answer_text p kind x) new
LeavesAnswer p kind x (Err failure.NoMemory) old new = new ≡ old
LeavesAnswer p kind x (Err _) old new = ⊥

-- lines are read over what reading the plan gave: if the plan was refused they aren't, and nothing is asked of them
abbrev pub ReadsLinesOver : LineForm → Result TabledPlan PlanFault → Input → Result (List AskedLine) LinesFault → Input → Type 0
ReadsLinesOver form (Err fault) old requested new = new ≡ old
ReadsLinesOver form (Ok p) old requested new = ReadsLines form old requested new

-- what a run leaves over what reading the plan and then the lines gave: the answers, or nothing if either was refused,
-- the plan first
abbrev pub WritesAnswers : Result TabledPlan PlanFault → Result (List AskedLine) LinesFault → AnswerKind → Result (Unit {0}) Failure → Output → Output → Type 0
WritesAnswers (Err fault) requested kind end old new = (end ≡ Err (failure_of_plan fault)) × (new ≡ old)
WritesAnswers (Ok p) (Err fault) kind end old new = (end ≡ Err (failure_of_lines (form_of kind) fault)) × (new ≡ old)
WritesAnswers (Ok p) (Ok xs) kind end old new = WritesAll p.plan xs kind end old new
