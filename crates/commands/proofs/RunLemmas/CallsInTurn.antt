-- Calls in turn print the listing page by page, and leave its session texts at their paths.
use Rattle.std.proofs.Common.{◌≡◌, ℕ, ◌+◌, Bool, true, false, List, [], ◌∷◌, ◌++◌, append-nil, arith, refl, sym, ap, subst, ◌∙◌, inl, inr, Result, Ok, Err, Option, None, Some, is_some, if◌then◌else◌}
use Rattle.std.specs.Io.KnownBytes.{Appends}
use Rattle.std.specs.Str.{bytes_eq}
use Rattle.std.proofs.lemmas.Slice.Eq.{bytes_eq-Decides}
use Rattle.clap.specs.declared.parser.matches.Found.{Found}
use Rattle.sabr_model.specs.Devices.{Input, Output, Takes}
use Rattle.sabr_model.specs.plan.Plan.{ContactPlan, TabledPlan}
use Rattle.sabr_model.specs.routes.Arrival.{RouteRequest}
use Rattle.sabr_plan.specs.PlanRead.{ReadsPlan}
use Rattle.sabr_plan.specs.declared.fault.PlanFault.{PlanFault}
use Rattle.sabr_frontier.specs.listing.State.{State}
use Rattle.sabr_session.specs.SessionText.{session_text}
use Rattle.sabr_session.specs.declared.session_fault.SessionFault.{SessionFault}
use Rattle.commands.specs.declared.command.CommandName.{CommandName}
use Rattle.commands.specs.declared.command.CommandName.TheVariants as command
use Rattle.commands.specs.declared.failure.Failure.{Failure}
use Rattle.commands.specs.declared.failure.Status.TheVariants as status
use Rattle.commands.specs.runs.Calls.{LeavesFile, IsMadeWhereKept, RunsCommand}
use Rattle.commands.specs.texts.Messages.{status_at}
use Rattle.commands.specs.runs.SessionRuns.{WritesFirstPage, WritesNextPage, WritesPage, place_of, text_over, place_after, report_from}
use Rattle.commands.specs.runs.RunsInTurn.{Run, IsDone, IsFirst, IsNext, AreNext, ArePages, asked_of, text_left}
use Rattle.commands.specs.runs.CallsInTurn.{Files, over, files_after, Call, IsDoneCall, Asks, AsksFirst, AsksNext, AsksLast, IsFirstCall, AreNextCalls, IsLastCall, files_left, ArePrinted, asked_in, last_path, CallsInTurn}
use Rattle.commands.proofs.RunLemmas.RunsInTurn.{never_done, place_on, runs_go_on, runs_in_turn}

-- ---- files

-- the file that a call left has what was written to it
new_text : (files : Files) (path : List ℕ) (x : Output) → files_after files ((path, x) ∷ []) path ≡ x.contents
new_text files path x =
    let same : bytes_eq path path ≡ true = (bytes_eq-Decides path path).1 refl in
    rw same refl

-- one that was there before has its text
old_text : (files : Files) (path : List ℕ) (x : Output) (q text : List ℕ) → files path ≡ None → files q ≡ Some text → files_after files ((path, x) ∷ []) q ≡ Some text
old_text files path x q text none there = at (bytes_eq q path) refl
  where
    at : (b : Bool) → bytes_eq q path ≡ b → (if b then x.contents else files q) ≡ Some text
    at true e =
        let is : q ≡ path = (bytes_eq-Decides q path).0 e in
        let gone : files q ≡ None = ap files is ∙ none in
        absurd cc
    at false e = there

-- an empty file, to which a text was added
appended : (old new : Option (List ℕ)) (text : List ℕ) → old ≡ Some [] → Appends old new text → new ≡ Some text
appended None new text e h = absurd cc
appended (Some xs) None text e h = absurd h
appended (Some xs) (Some ys) text e h =
    let none : xs ≡ [] = cc in
    ap Some (h ∙ ap (λ b. b ++ text) none)

-- a file that was opened reads as the text of its path
opened_text : (files : Files) (path at text : List ℕ) (x : Input) → path ≡ at → files at ≡ Some text → (t : List ℕ) × (files path ≡ Some t) × (x.remaining ≡ Some t) → x.remaining ≡ Some text
opened_text files path at text x is there (t, holds, has) = has ∙ sym holds ∙ ap files is ∙ there

-- ---- what a run that is done wrote

record Texts (out out₁ session session₁ : Output) : Type 0 where
  report : List ℕ
  text : List ℕ
  prints : out₁.taken ≡ out.taken ++ report
  keeps : Takes session text session₁

page_texts : (p : ContactPlan) (report : List ℕ) (x : RouteRequest × State) (end : Result (Unit {0}) Failure) (out out₁ session session₁ : Output) → status_at end ≡ status.Done
    → WritesPage true p report x end out out₁ session session₁ → Texts out out₁ session session₁
page_texts p report x (Err f) out out₁ session session₁ done w = absurd (never_done f done)
page_texts p report x (Ok u) out out₁ session session₁ done w = record {
  report = report;
  text = text_over p x;
  prints = w.0.0.0.0;
  keeps = w.1.1.0.0;
}

first_texts : (planned : Result TabledPlan PlanFault) (r : RouteRequest) (count : ℕ) (end : Result (Unit {0}) Failure) (out out₁ session session₁ : Output) → status_at end ≡ status.Done
    → WritesFirstPage planned r true count end out out₁ session session₁ → Texts out out₁ session session₁
first_texts (Err fault) r count end out out₁ session session₁ done w = absurd (never_done _ (sym (ap status_at w.0) ∙ done))
first_texts (Ok t) r count end out out₁ session session₁ done w = page_texts t.plan _ _ end out out₁ session session₁ done w

next_texts : (planned : Result TabledPlan PlanFault) (place : Result (RouteRequest × State) SessionFault) (count : ℕ) (end : Result (Unit {0}) Failure) (out out₁ session session₁ : Output)
    → status_at end ≡ status.Done → WritesNextPage planned place true count end out out₁ session session₁ → Texts out out₁ session session₁
next_texts (Err fault) place count end out out₁ session session₁ done w = absurd (never_done _ (sym (ap status_at w.0) ∙ done))
next_texts (Ok t) (Err fault) count end out out₁ session session₁ done w = absurd (never_done _ (sym (ap status_at w.0) ∙ done))
next_texts (Ok t) (Ok s) count end out out₁ session session₁ done w = page_texts t.plan _ _ end out out₁ session session₁ done w

-- what a run wrote that is done and keeps no session
record Report (out out₁ session session₁ : Output) : Type 0 where
  report : List ℕ
  prints : out₁.taken ≡ out.taken ++ report
  keeps : session₁ ≡ session

last_report : (planned : Result TabledPlan PlanFault) (place : Result (RouteRequest × State) SessionFault) (count : ℕ) (end : Result (Unit {0}) Failure) (out out₁ session session₁ : Output)
    → status_at end ≡ status.Done → WritesNextPage planned place false count end out out₁ session session₁ → Report out out₁ session session₁
last_report (Err fault) place count end out out₁ session session₁ done w = absurd (never_done _ (sym (ap status_at w.0) ∙ done))
last_report (Ok t) (Err fault) count end out out₁ session session₁ done w = absurd (never_done _ (sym (ap status_at w.0) ∙ done))
last_report (Ok t) (Ok s) count (Err f) out out₁ session session₁ done w = absurd (never_done f done)
last_report (Ok t) (Ok s) count (Ok u) out out₁ session session₁ done w = record { report = _; prints = w.0.0.0.0; keeps = w.1 }

-- ---- a call as a run

-- the command that the words name ran, over what they give it
ran : (name : CommandName) (Has : Found → Type 0) (files : Files) (c : Call) → Asks name c.words Has → IsDoneCall files c
    → (found : Found) × Has found × RunsCommand name (over files) found [] c.left c.out c.out₁ c.err c.err₁ status.Done
ran name Has files c (named, has) (inl unread) = elim unread.0 [ inl (text, faults, reports, ends) ↦ absurd cc | inr (reports, ends) ↦ absurd cc ]
ran name Has files c (named, has) (inr read) =
    let n = read.1 in
    let is : Some n.name ≡ Some name = sym n.is.named ∙ named in
    let same : n.name ≡ name = cc in
    elim n.does [
      | inl runs ↦ (n.found, has n.found n.is.rows, subst (λ m. RunsCommand m (over files) n.found [] c.left c.out c.out₁ c.err c.err₁ status.Done) same runs)
      | inr before ↦ absurd (never_done before.why (sym before.ends))
    ]

-- a call is a run that wrote these texts: it printed the report, and left a new file with the session text
record IsRunOf (files : Files) (c : Call) (run : Run) : Type 0 where
  counted : run.count ≡ c.count
  printed : c.out₁.taken ≡ c.out.taken ++ run.report
  was_none : files c.path ≡ None
  session : Output
  left : c.left ≡ (c.path, session) ∷ []
  kept : session.contents ≡ Some run.text

left_file : (files : Files) (c : Call) (run : Run) → IsRunOf files c run → files_after files c.left c.path ≡ Some run.text
left_file files c run x = ap (λ left. files_after files left c.path) x.left ∙ new_text files c.path x.session ∙ x.kept

stands : (files : Files) (c : Call) (run : Run) (q text : List ℕ) → IsRunOf files c run → files q ≡ Some text → files_after files c.left q ≡ Some text
stands files c run q text x there = ap (λ left. files_after files left q) x.left ∙ old_text files c.path x.session q text x.was_none there

-- the run of a call over these devices, which wrote these texts
module _ (text : List ℕ) (files : Files) (c : Call) (reader : Input) (planned : Result TabledPlan PlanFault) (reader₁ : Input) (end : Result (Unit {0}) Failure) (session session₁ : Output)
    (texts : Texts c.out c.out₁ session session₁) (count : ℕ) where
  abbrev run_of : Run
  run_of = record { count = count; report = texts.report; text = texts.text }

  run_done : reader.remaining ≡ Some text → ReadsPlan reader planned reader₁ → status_at end ≡ status.Done → IsDone text run_of
  run_done has reads done = record {
    alone = record {
      reader = reader;
      planned = planned;
      reader₁ = reader₁;
      has = inl has;
      reads = reads;
      out = c.out;
      out₁ = c.out₁;
      takes = inl texts.prints;
    };
    end = end;
    done = done;
    session = session;
    session₁ = session₁;
    takes_text = inl texts.keeps.0;
  }

  is_run : count ≡ c.count → (files c.path ≡ None) × (session.contents ≡ Some []) → c.left ≡ (c.path, session₁) ∷ [] → IsRunOf files c run_of
  is_run counted made left = record {
    counted = counted;
    printed = texts.prints;
    was_none = made.0;
    session = session₁;
    left = left;
    kept = appended session.contents session₁.contents texts.text made.1 texts.keeps.1;
  }

ok_same : {A E : Type 0} (a b : A) → ◌≡◌ {A = Result A E} (Ok a) (Ok b) → a ≡ b
ok_same a b e = cc

some_same : {A : Type 0} (a b : A) → Some a ≡ Some b → a ≡ b
some_same a b e = cc

module _ (text : List ℕ) where
  first_run : (files : Files) (at : List ℕ) (r : RouteRequest) (c : Call) → files at ≡ Some text → IsFirstCall files at r c → (run : Run) × IsFirst text r run × IsRunOf files c run
  unfolding run_done ran
  first_run files at r c there (asks, done) =
      let (found, a, h) = ran command.First (AsksFirst at r c) files c asks done in
      let run = h.runs in
      let values : h.values ≡ record { request = Some r; count = Some c.count; contacts = [] } = ok_same _ _ (sym h.given ∙ a.values) in
      let request : h.request ≡ r = some_same _ _ (sym h.asked ∙ ap (λ v. v.request) values) in
      let count : h.count ≡ c.count = some_same _ _ (sym h.counted ∙ ap (λ v. v.count) values) in
      let made = subst (λ kept. IsMadeWhereKept (over files) kept h.session) a.kept h.makes in
      let leaves = subst (λ kept. LeavesFile (over files) kept status.Done h.session₁ [] c.left) a.kept h.leaves in
      let kept = subst (λ kept. WritesFirstPage run.planned h.request (is_some kept) h.count run.end c.out c.out₁ h.session h.session₁) a.kept run.does in
      let writes = subst (λ q. WritesFirstPage run.planned q true h.count run.end c.out c.out₁ h.session h.session₁) request kept in
      let texts = first_texts run.planned r h.count run.end c.out c.out₁ h.session h.session₁ (sym run.ends) writes in
      let has = opened_text files _ at text run.plan a.plan there run.opens in (
        run_of text files c run.plan run.planned run.plan₁ run.end h.session h.session₁ texts h.count,
        (run_done text files c run.plan run.planned run.plan₁ run.end h.session h.session₁ texts h.count has run.reads (sym run.ends), writes),
        is_run text files c run.plan run.planned run.plan₁ run.end h.session h.session₁ texts h.count count made leaves,
      )

  next_run : (files : Files) (at old before : List ℕ) (c : Call) → files at ≡ Some text → files old ≡ Some before → Asks command.Next c.words (AsksNext at old c) → IsDoneCall files c
      → (run : Run) × IsNext text before true run × IsRunOf files c run
  unfolding run_done ran
  next_run files at old before c there stored asks done =
      let (found, a, h) = ran command.Next (AsksNext at old c) files c asks done in
      let run = h.runs in
      let second = run.does in
      let values : h.values ≡ record { request = None; count = Some c.count; contacts = [] } = ok_same _ _ (sym h.given ∙ a.values) in
      let count : h.count ≡ c.count = some_same _ _ (sym h.counted ∙ ap (λ v. v.count) values) in
      let made = subst (λ kept. IsMadeWhereKept (over files) kept h.session) a.kept h.makes in
      let leaves = subst (λ kept. LeavesFile (over files) kept status.Done h.session₁ [] c.left) a.kept h.leaves in
      let writes = subst (λ kept. WritesNextPage run.planned (place_of second.answer) (is_some kept) h.count run.end c.out c.out₁ h.session h.session₁) a.kept second.writes in
      let texts = next_texts run.planned (place_of second.answer) h.count run.end c.out c.out₁ h.session h.session₁ (sym run.ends) writes in
      let has = opened_text files _ at text run.plan a.plan there run.opens in (
        run_of text files c run.plan run.planned run.plan₁ run.end h.session h.session₁ texts h.count,
        record {
          is_done = run_done text files c run.plan run.planned run.plan₁ run.end h.session h.session₁ texts h.count has run.reads (sym run.ends);
          reader = second.file;
          resumed = second.answer;
          reader₁ = second.file₁;
          has = inl (opened_text files _ old before second.file a.session stored second.opens);
          reads = second.reads;
          writes = writes;
        },
        is_run text files c run.plan run.planned run.plan₁ run.end h.session h.session₁ texts h.count count made leaves,
      )

  -- a call that keeps no session is a run that printed its report
  record IsLastRun (before : List ℕ) (c : Call) : Type 0 where
    run : Run
    next : IsNext text before false run
    counted : run.count ≡ c.count
    printed : c.out₁.taken ≡ c.out.taken ++ run.report
    left : c.left ≡ []

  last_run : (files : Files) (at old before : List ℕ) (c : Call) → files at ≡ Some text → files old ≡ Some before → IsLastCall files at old c → IsLastRun before c
  unfolding ran
  last_run files at old before c there stored (asks, done) =
      let (found, a, h) = ran command.Next (AsksLast at old c) files c asks done in
      let run = h.runs in
      let second = run.does in
      let values : h.values ≡ record { request = None; count = Some c.count; contacts = [] } = ok_same _ _ (sym h.given ∙ a.values) in
      let count : h.count ≡ c.count = some_same _ _ (sym h.counted ∙ ap (λ v. v.count) values) in
      let leaves = subst (λ kept. LeavesFile (over files) kept status.Done h.session₁ [] c.left) a.kept h.leaves in
      let writes = subst (λ kept. WritesNextPage run.planned (place_of second.answer) (is_some kept) h.count run.end c.out c.out₁ h.session h.session₁) a.kept second.writes in
      let report = last_report run.planned (place_of second.answer) h.count run.end c.out c.out₁ h.session h.session₁ (sym run.ends) writes in
      let taken : h.session₁.taken ≡ h.session.taken ++ [] = ap (λ x. x.taken) report.keeps ∙ sym (append-nil h.session.taken) in
      record {
        run = record { count = h.count; report = report.report; text = [] };
        next = record {
          is_done = record {
            alone = record {
              reader = run.plan;
              planned = run.planned;
              reader₁ = run.plan₁;
              has = inl (opened_text files _ at text run.plan a.plan there run.opens);
              reads = run.reads;
              out = c.out;
              out₁ = c.out₁;
              takes = inl report.prints;
            };
            end = run.end;
            done = sym run.ends;
            session = h.session;
            session₁ = h.session₁;
            takes_text = inl taken;
          };
          reader = second.file;
          resumed = second.answer;
          reader₁ = second.file₁;
          has = inl (opened_text files _ old before second.file a.session stored second.opens);
          reads = second.reads;
          writes = writes;
        };
        counted = count;
        printed = report.prints;
        left = leaves;
      }

  -- calls are these runs, one after the other
  abbrev AreRunsOf : Files → List Call → List Run → Type 0
  AreRunsOf files [] [] = Unit {0}
  AreRunsOf files [] (run ∷ runs) = ⊥
  AreRunsOf files (c ∷ calls) [] = ⊥
  AreRunsOf files (c ∷ calls) (run ∷ runs) = IsRunOf files c run × AreRunsOf (files_after files c.left) calls runs

  next_runs : (files : Files) (at old before : List ℕ) (calls : List Call) → files at ≡ Some text → files old ≡ Some before → AreNextCalls files at old calls
      → (runs : List Run) × AreNext text before runs × AreRunsOf files calls runs
  next_runs files at old before [] there stored are = ([], tt, tt)
  next_runs files at old before (c ∷ calls) there stored (asks, done, others) =
      let (run, next, is) = next_run files at old before c there stored asks done in
      let (runs, are, rest) = next_runs (files_after files c.left) at c.path run.text calls (stands files c run at text is there) (left_file files c run is) others in
      (run ∷ runs, (next, are), (is, rest))

  -- what was there before the calls is there after them
  all_stand : (files : Files) (calls : List Call) (runs : List Run) (q held : List ℕ) → AreRunsOf files calls runs → files q ≡ Some held → files_left files calls q ≡ Some held
  all_stand files [] runs q held are there = there
  all_stand files (c ∷ calls) [] q held are there = absurd are
  all_stand files (c ∷ calls) (run ∷ runs) q held (is, rest) there = all_stand (files_after files c.left) calls runs q held rest (stands files c run q held is there)

  -- they were asked for as many routes, and the last of them left its session text at its path
  all_asked : (files : Files) (calls : List Call) (runs : List Run) → AreRunsOf files calls runs → asked_of runs ≡ asked_in calls
  all_asked files [] [] are = refl
  all_asked files [] (run ∷ runs) are = absurd are
  all_asked files (c ∷ calls) [] are = absurd are
  all_asked files (c ∷ calls) (run ∷ runs) (is, rest) = omega (arith, is.counted, all_asked (files_after files c.left) calls runs rest)

  left_last : (files : Files) (calls : List Call) (runs : List Run) (path before : List ℕ) → AreRunsOf files calls runs → files path ≡ Some before → files_left files calls (last_path path calls) ≡ Some (text_left before runs)
  left_last files [] [] path before are there = there
  left_last files [] (run ∷ runs) path before are there = absurd are
  left_last files (c ∷ calls) [] path before are there = absurd are
  left_last files (c ∷ calls) (run ∷ runs) path before (is, rest) there = left_last (files_after files c.left) calls runs c.path run.text rest (left_file files c run is)

  all_printed : (p : ContactPlan) (r : RouteRequest) (asked : ℕ) (files : Files) (calls : List Call) (runs : List Run) → AreRunsOf files calls runs → ArePages p r 0 asked runs
      → ArePrinted p r asked (files_left files calls) calls
  all_printed p r asked files [] runs are pages = tt
  all_printed p r asked files (c ∷ calls) [] are pages = absurd are
  all_printed p r asked files (c ∷ calls) (run ∷ runs) (is, rest) (page, pages) =
      let end = files_left (files_after files c.left) calls in
      let report = is.printed ∙ ap (λ b. c.out.taken ++ b) (page.report ∙ ap (report_from p r (place_after p r 0 asked)) is.counted) in
      let kept = all_stand (files_after files c.left) calls runs c.path run.text rest (left_file files c run is) in
      let left = kept ∙ ap Some (page.text ∙ ap (λ n. session_text p r (place_after p r 0 (asked + n))) is.counted) in
      let others = subst (λ n. ArePages p r 0 (asked + n) runs) is.counted pages in
      (record { printed = report; left = left }, all_printed p r (asked + c.count) (files_after files c.left) calls runs rest others)

pub calls_in_turn : CallsInTurn
calls_in_turn files at text p r first calls there spelled accepted is are =
    let (run, begins, one) = first_run text files at r first there is in
    let (runs, nexts, others) = next_runs text (files_after files first.left) at first.path run.text calls (stands files first run at text one there) (left_file files first run one) are in
    let pages = runs_in_turn text p r run runs spelled accepted begins nexts in
    let from = pages.0.there in
    let on = runs_go_on text run.text p r (place_after p r 0 (0 + run.count)) runs spelled from nexts in
    let asked : (0 + run.count) + asked_of runs ≡ asked_in (first ∷ calls) = omega (arith, one.counted, all_asked text (files_after files first.left) calls runs others) in
    let place = place_on text p r spelled accepted 0 (0 + run.count) (asked_of runs) ∙ ap (place_after p r 0) asked in
    let end = files_left files (first ∷ calls) in
    record {
      each = all_printed text p r 0 files (first ∷ calls) (run ∷ runs) (one, others) pages;
      last = λ c is.
          let l = last_run text end at (last_path first.path calls) (text_left run.text runs) c (all_stand text files (first ∷ calls) (run ∷ runs) at text (one, others) there)
          (left_last text (files_after files first.left) calls runs first.path run.text others (left_file files first run one)) is in
          record {
            printed = l.printed ∙ ap (λ b. c.out.taken ++ b) (on.last l.run l.next ∙ ap (λ n. report_from p r n l.run.count) place ∙ ap (report_from p r (place_after p r 0 (asked_in (first ∷ calls)))) l.counted);
            left = l.left;
          };
    }
