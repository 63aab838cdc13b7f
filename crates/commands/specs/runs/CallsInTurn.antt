-- Calls of the program in turn, from words to words and files: a call `first`, and then calls `next`, each over the
-- file in which the one before left its session, at last one that leaves none.
use Rattle.std.specs.Prelude.{◌≡◌, ℕ, ◌+◌, true, List, [], ◌∷◌, ◌++◌, Option, None, Some, Ok, if◌then◌else◌}
use Rattle.std.specs.Str.{bytes_eq}
use Rattle.clap.specs.Matches.{first_value}
use Rattle.clap.specs.Walk.{rows_of}
use Rattle.clap.specs.declared.parser.matches.Found.{Found}
use Rattle.sabr_model.specs.Devices.{Output}
use Rattle.sabr_model.specs.plan.Plan.{ContactPlan}
use Rattle.sabr_model.specs.routes.Arrival.{RouteRequest}
use Rattle.sabr_model.specs.routes.Asking.{IsRequest}
use Rattle.sabr_plan.specs.Reading.{plan_of}
use Rattle.sabr_session.specs.SessionText.{session_text}
use Rattle.commands.specs.declared.command.CommandName.{CommandName}
use Rattle.commands.specs.declared.command.CommandName.TheVariants as command
use Rattle.commands.specs.declared.failure.Status.TheVariants as status
use Rattle.commands.specs.words.CommandLine.{given_by}
use Rattle.commands.specs.words.Values.{values_of, path_under, plan_word, session_word, session_out_word}
use Rattle.commands.specs.runs.Calls.{FileRules, Left}
use Rattle.commands.specs.runs.SessionRuns.{place_after, report_from}
use Rattle.commands.specs.runs.Program.{EndsWords, named_in, rows_in}

-- the text of the file at each path, if there is one
abbrev pub Files : Type 0
Files = List ℕ → Option (List ℕ)

-- a system over these files: one that is opened reads as its text, and one that is made wasn't there, and is empty
abbrev pub over : Files → FileRules
over files = record {
  opened = λ path x. (text : List ℕ) × (files path ≡ Some text) × (x.remaining ≡ Some text);
  unopened = λ path. Unit {0};
  made = λ path x. (files path ≡ None) × (x.contents ≡ Some []);
  unmade = λ path. Unit {0};
  unremoved = λ path. Unit {0};
  removed = λ path. Unit {0};
}

-- the files after a call that left these: each reads as what was written to it, and the others as before
abbrev pub files_after : Files → Left → Files
files_after files [] = files
files_after files (file ∷ others) = λ path. if bytes_eq path file.0 then file.1.contents else files_after files others path

-- a call: its words, how many routes it asks for, and the path at which it keeps its session; the files that it left,
-- and what its writers showed before and after
pub record Call : Type 0 where
  pub words : List (List ℕ)
  pub count : ℕ
  pub path : List ℕ
  pub left : Left
  pub out : Output
  pub out₁ : Output
  pub err : Output
  pub err₁ : Output

-- over these files, it ended with status 0
abbrev pub IsDoneCall : Files → Call → Type 0
IsDoneCall files c = EndsWords (over files) c.words [] c.left c.out c.out₁ c.err c.err₁ status.Done

-- the words name a command, and this holds of what they give it
abbrev pub Asks : CommandName → List (List ℕ) → (Found → Type 0) → Type 0
Asks name words Has = (named_in (given_by words) ≡ Some name) × ((found : Found) → rows_in (given_by words) ≡ Some (rows_of found) → Has found)

-- a first page over the plan at a path
pub record AsksFirst (at : List ℕ) (r : RouteRequest) (c : Call) (found : Found) : Type 0 where
  pub plan : path_under found plan_word ≡ at
  pub values : values_of command.First found ≡ Ok (record { request = Some r; count = Some c.count; contacts = [] })
  pub kept : first_value found session_out_word ≡ Some c.path

-- the page after an old session, which is at a path, too
pub record AsksNext (at old : List ℕ) (c : Call) (found : Found) : Type 0 where
  pub plan : path_under found plan_word ≡ at
  pub session : path_under found session_word ≡ old
  pub values : values_of command.Next found ≡ Ok (record { request = None; count = Some c.count; contacts = [] })
  pub kept : first_value found session_out_word ≡ Some c.path

-- the page after that of an old session, and no session is written
pub record AsksLast (at old : List ℕ) (c : Call) (found : Found) : Type 0 where
  pub plan : path_under found plan_word ≡ at
  pub session : path_under found session_word ≡ old
  pub values : values_of command.Next found ≡ Ok (record { request = None; count = Some c.count; contacts = [] })
  pub kept : first_value found session_out_word ≡ None

-- a call `first` over these files
abbrev pub IsFirstCall : Files → List ℕ → RouteRequest → Call → Type 0
IsFirstCall files at r c = Asks command.First c.words (AsksFirst at r c) × IsDoneCall files c

-- calls `next`, the first over the session at this path, and each other one over that of the call before
abbrev pub AreNextCalls : Files → List ℕ → List ℕ → List Call → Type 0
AreNextCalls files at old [] = Unit {0}
AreNextCalls files at old (c ∷ calls) = Asks command.Next c.words (AsksNext at old c) × IsDoneCall files c × AreNextCalls (files_after files c.left) at c.path calls

-- a call `next` over the session at this path that keeps none
abbrev pub IsLastCall : Files → List ℕ → List ℕ → Call → Type 0
IsLastCall files at old c = Asks command.Next c.words (AsksLast at old c) × IsDoneCall files c

-- the files after all calls
abbrev pub files_left : Files → List Call → Files
files_left files [] = files
files_left files (c ∷ calls) = files_left (files_after files c.left) calls

-- a call after pages that were asked for that many routes: it printed the page after theirs, and at its path the
-- session text of the place after that is left
pub record IsPrinted (p : ContactPlan) (r : RouteRequest) (asked : ℕ) (end : Files) (c : Call) : Type 0 where
  pub printed : c.out₁.taken ≡ c.out.taken ++ report_from p r (place_after p r 0 asked) c.count
  pub left : end c.path ≡ Some (session_text p r (place_after p r 0 (asked + c.count)))

-- such calls, one after the other
abbrev pub ArePrinted : ContactPlan → RouteRequest → ℕ → Files → List Call → Type 0
ArePrinted p r asked end [] = Unit {0}
ArePrinted p r asked end (c ∷ calls) = IsPrinted p r asked end c × ArePrinted p r (asked + c.count) end calls

-- how many routes the calls were asked for together
abbrev pub asked_in : List Call → ℕ
asked_in [] = 0
asked_in (c ∷ calls) = c.count + asked_in calls

-- the path at which the last of them keeps its session
abbrev pub last_path : List ℕ → List Call → List ℕ
last_path path [] = path
last_path path (c ∷ calls) = last_path c.path calls

-- a call after them that keeps no session printed the page after theirs, and left no file
pub record EndsCalls (p : ContactPlan) (r : RouteRequest) (calls : List Call) (c : Call) : Type 0 where
  pub printed : c.out₁.taken ≡ c.out.taken ++ report_from p r (place_after p r 0 (asked_in calls)) c.count
  pub left : c.left ≡ []

-- the calls print the listing page by page, and leave the session text of each place; so does a call that ends them,
-- which leaves no text
pub record PrintInTurn (files : Files) (at : List ℕ) (p : ContactPlan) (r : RouteRequest) (first : Call) (calls : List Call) : Type 0 where
  pub each : ArePrinted p r 0 (files_left files (first ∷ calls)) (first ∷ calls)
  pub last : (c : Call) → IsLastCall (files_left files (first ∷ calls)) at (last_path first.path calls) c → EndsCalls p r (first ∷ calls) c

-- over files of which one has the text of a plan, a call `first` for an accepted request, and then any calls `next`
abbrev pub CallsInTurn : Type 0
CallsInTurn =
    (files : Files) (at text : List ℕ) (p : ContactPlan) (r : RouteRequest) (first : Call) (calls : List Call) → files at ≡ Some text → plan_of text true ≡ Ok p → IsRequest r
    → IsFirstCall files at r first → AreNextCalls (files_after files first.left) at first.path calls
    → PrintInTurn files at p r first calls
