-- Answers to lines, one after the other.
use Rattle.std.proofs.Common.{◌≡◌, ℕ, ◌+◌, Bool, true, false, cond, List, [], ◌∷◌, ◌++◌, map, append_assoc, append-nil, refl, sym, ap, subst, ◌∙◌, None, Result, Ok, Err, inl, inr}
use Rattle.sabr_model.specs.Devices.{Output, TakesNone, Written, WrittenInPart, Input, IsTextOf, TakesAll}
use Rattle.sabr_model.specs.plan.Plan.{ContactPlan, IsPlan, TabledPlan}
use Rattle.sabr_model.specs.routes.Arrival.{RouteRequest}
use Rattle.sabr_model.specs.routes.Record.{RouteRecord, record_of}
use Rattle.sabr_frontier.specs.listing.Listing.{state_at, steps, next_route}
use Rattle.sabr_frontier.specs.listing.State.{State}
use Rattle.sabr_frontier.specs.session.Session.{Seen}
use Rattle.sabr_frontier.specs.session.LastPage.{IsLastPage, LastSeen}
use Rattle.sabr_model.specs.declared.fault.NoMemory.{NoMemory}
use Rattle.sabr_model.specs.routes.Asking.{IsRequest}
use Rattle.sabr_session.specs.ReportText.{HasSpelledTimes, report_text}
use Rattle.commands.proofs.Explained.{records_spelled}
use Rattle.sabr_model.proofs.ListLemmas.WrittenTexts.{Takes-kept, Written-nil, Written-append, WrittenInPart-after, WrittenInPart-more}
use Rattle.commands.specs.declared.words.lines.LineKind.{LineKind}
use Rattle.commands.specs.declared.words.lines.LineKind.TheVariants.{BadLine}
use Rattle.commands.specs.declared.words.lines.LinesFault.{LinesFault}
use Rattle.commands.specs.declared.words.lines.LineForm.{LineForm}
use Rattle.commands.specs.declared.runs.answering.AnswerKind.{AnswerKind}
use Rattle.commands.specs.words.Lines.{Asked, HasLines, AskedLine, asked_at, asked_in, fault_of, lines_in, most_lines, put_first, asked_from, ReadsLines, asked_by}
use Rattle.commands.specs.runs.Many.{IsFirstPage, LeavesAnswer, LeavesAnswers, StopsAtLine, WritesAll, WritesAnswers, answer_text, answers_text, form_of, has_broken, ReadsLinesOver, body_text, heading}
use Rattle.commands.specs.runs.RunsInTurn.{IsFirstReport, IsExplained, IsReport, AreReports, IsMany, AnswersAsAlone, ManyAnswersAsFirst, FollowAnswersAsExplain, reports_of}
use Rattle.commands.specs.texts.Messages.{failure_of_lines, status_at}
use Rattle.commands.specs.runs.SessionRuns.{next_report, report_from, WritesFirstPage, WritesPage}
use Rattle.commands.proofs.RunLemmas.PageTexts.{flush_failed, report_of_page, first_report_is}
use Rattle.std.specs.Prelude.{All, IfOk, IsTrue, is_some, nat_lt}
use Rattle.commands.specs.declared.failure.Failure.{Failure}
use Rattle.sabr_model.proofs.ListLemmas.ReadTexts.{begins_with}
use Rattle.sabr_plan.specs.Reading.{plan_of}
use Rattle.sabr_plan.specs.PlanRead.{ReadsPlan}
use Rattle.sabr_plan.specs.declared.fault.PlanFault.{PlanFault}
use Rattle.commands.specs.declared.runs.answering.AnswerKind.TheVariants.{FirstRoutes, Explanation}
use Rattle.commands.specs.texts.PlanTexts.{WritesExplanation, explanation_text}
use Rattle.commands.proofs.RunLemmas.RunsInTurn.{never_done, plan_read, taken}
use Rattle.commands.specs.declared.failure.Failure.TheVariants as failure
use Rattle.commands.specs.declared.failure.Status.TheVariants as status

-- the answers to some lines, and then to others
answers_then : (p : ContactPlan) (kind : AnswerKind) (xs ys : List AskedLine) → answers_text p (xs ++ ys) kind ≡ answers_text p xs kind ++ answers_text p ys kind
answers_then p kind [] ys = refl
answers_then p kind (x ∷ xs) ys =
    ap (λ t. answer_text p kind x ++ t) (answers_then p kind xs ys)
    ∙ sym (append_assoc (answer_text p kind x) (answers_text p xs kind) (answers_text p ys kind))

one_more : (p : ContactPlan) (kind : AnswerKind) (xs : List AskedLine) (x : AskedLine) → answers_text p (xs ++ x ∷ []) kind ≡ answers_text p xs kind ++ answer_text p kind x
one_more p kind xs x = answers_then p kind xs (x ∷ []) ∙ ap (λ t. answers_text p xs kind ++ t) (append-nil (answer_text p kind x))

-- a line before others that aren't bad isn't bad
pub record HasFirst (line : List ℕ) (a : Result Asked LineKind) (rest : Result (List AskedLine) LinesFault) (xs : List AskedLine) : Type 0 where
  pub asked : Asked
  pub others : List AskedLine
  pub there : a ≡ Ok asked
  pub all : rest ≡ Ok others
  pub parts : xs ≡ record { line = line; asked = asked } ∷ others

has_first : (n : ℕ) (line : List ℕ) (a : Result Asked LineKind) (rest : Result (List AskedLine) LinesFault) (xs : List AskedLine) → put_first n line a rest ≡ Ok xs → HasFirst line a rest xs
has_first n line (Err k) rest xs e = absurd cc
has_first n line (Ok r) (Err f) xs e = absurd cc
has_first n line (Ok r) (Ok ys) xs e = record { asked = r; others = ys; there = refl; all = refl; parts = cc }

within : (beyond : Bool) (x : Result Asked LineKind) (a : Asked) → cond beyond (Err BadLine) x ≡ Ok a → x ≡ Ok a
within true x a e = absurd cc
within false x a e = e

all_fine : (requested : Result (List AskedLine) LinesFault) → fault_of requested ≡ None → (xs : List AskedLine) × (requested ≡ Ok xs)
all_fine (Ok xs) e = (xs, refl)
all_fine (Err f) e = absurd cc

-- lines were answered, and these are left
pub record HasAnswered (p : ContactPlan) (kind : AnswerKind) (requested : Result (List AskedLine) LinesFault) (lines : List (List ℕ)) (old new : Output) : Type 0 where
  pub done : List AskedLine
  pub left : List AskedLine
  pub number : ℕ
  pub parts : requested ≡ Ok (done ++ left)
  pub rest : asked_from (form_of kind) number lines ≡ Ok left
  pub written : Written old (answers_text p done kind) new

pub none_answered : (p : ContactPlan) (kind : AnswerKind) (lines : List (List ℕ)) (old : Output) → fault_of (asked_from (form_of kind) 1 lines) ≡ None → HasAnswered p kind (asked_from (form_of kind) 1 lines) lines old old
none_answered p kind lines old e =
    let requested = all_fine (asked_from (form_of kind) 1 lines) e in
    record { done = []; left = requested.0; number = 1; parts = requested.1; rest = requested.1; written = Written-nil old }

-- what answering a line leaves over a plan
abbrev pub Leaves : AnswerKind → List ℕ → Result (Unit {0}) Failure → Output → Output → TabledPlan → Type 0
Leaves kind line end old new p = IfOk (asked_in (form_of kind) line) (λ a. LeavesAnswer p.plan kind (record { line = line; asked = a }) end old new)

module _ (p : TabledPlan) (kind : AnswerKind) (requested : Result (List AskedLine) LinesFault) (lines lines₁ : List (List ℕ)) (line : List ℕ) (old mid : Output)
    (h : HasAnswered p.plan kind requested lines old mid) (e : lines ≡ line ∷ lines₁) where
  pub first : HasFirst line (asked_at (form_of kind) h.number line) (asked_from (form_of kind) (h.number + 1) lines₁) h.left
  first =
      has_first h.number line (asked_at (form_of kind) h.number line) (asked_from (form_of kind) (h.number + 1) lines₁) h.left
      (ap (asked_from (form_of kind) h.number) (sym e) ∙ h.rest)

  -- the line asks something
  pub has_asked : asked_in (form_of kind) line ≡ Ok first.asked
  has_asked = within (nat_lt most_lines h.number) (asked_in (form_of kind) line) first.asked first.there

  abbrev next : AskedLine
  next = record { line = line; asked = first.asked }

  parted : requested ≡ Ok (h.done ++ next ∷ first.others)
  parted = h.parts ∙ ap (λ xs. Ok (h.done ++ xs)) first.parts

  left_next : (end : Result (Unit {0}) Failure) (new : Output) → Leaves kind line end mid new p → LeavesAnswer p.plan kind next end mid new
  left_next end new left = subst (λ o. IfOk o (λ a. LeavesAnswer p.plan kind (record { line = line; asked = a }) end mid new)) has_asked left

  -- one more is answered
  pub one_answered : (new : Output) (u : Unit {0}) → Leaves kind line (Ok u) mid new p → HasAnswered p.plan kind requested lines₁ old new
  one_answered new u left = record {
    done = h.done ++ next ∷ [];
    left = first.others;
    number = h.number + 1;
    parts = parted ∙ ap Ok (sym (append_assoc h.done (next ∷ []) first.others));
    rest = first.all;
    written =
        subst (λ text. Written old text new) (sym (one_more p.plan kind h.done next))
        (Written-append old mid new (answers_text p.plan h.done kind) (answer_text p.plan kind next) h.written (left_next (Ok u) new left));
  }

  -- memory is refused at this one
  stops : (xs : List AskedLine) × (requested ≡ Ok xs) × StopsAtLine p.plan xs kind old mid
  stops = (h.done ++ next ∷ first.others, parted, record { before = h.done; request = next; after = first.others; parts = refl; written = h.written })

  -- the writer fails in this one
  breaks : (new : Output) → WrittenInPart mid (answer_text p.plan kind next) new → (xs : List AskedLine) × (requested ≡ Ok xs) × WrittenInPart old (answers_text p.plan xs kind) new
  breaks new part =
      let all = WrittenInPart-after old mid new (answers_text p.plan h.done kind) _ h.written (WrittenInPart-more mid new (answer_text p.plan kind next) (answers_text p.plan first.others kind) part) in
      (h.done ++ next ∷ first.others, parted, subst (λ text. WrittenInPart old text new) (sym (answers_then p.plan kind h.done (next ∷ first.others))) all)

  failed : (new : Output) (f : Failure) → LeavesAnswer p.plan kind next (Err f) mid new → (xs : List AskedLine) × (requested ≡ Ok xs) × LeavesAnswers p.plan xs kind (Err f) old new
  failed new failure.Write part = breaks new part
  failed new failure.NoMemory same = rw same stops
  failed new _ bad = absurd bad

  -- either of them
  pub fails : (new : Output) (f : Failure) → Leaves kind line (Err f) mid new p → (xs : List AskedLine) × (requested ≡ Ok xs) × LeavesAnswers p.plan xs kind (Err f) old new
  fails new f left = failed new f (left_next (Err f) new left)

-- none is left
pub all_answered : (p : ContactPlan) (kind : AnswerKind) (requested : Result (List AskedLine) LinesFault) (lines : List (List ℕ)) (old new : Output) → HasAnswered p kind requested lines old new → lines ≡ []
    → (xs : List AskedLine) × (requested ≡ Ok xs) × Written old (answers_text p xs kind) new
all_answered p kind requested lines old new h e =
    let none : Ok [] ≡ Ok h.left = ap (asked_from (form_of kind) h.number) (sym e) ∙ h.rest in
    let left : h.left ≡ [] = cc in
    (h.done, h.parts ∙ ap (λ xs. Ok (h.done ++ xs)) left ∙ ap Ok (append-nil h.done), h.written)

-- the report of a page of a session just started is that of the page from place 0 on
pub first_of_page : (p : TabledPlan) (r : RouteRequest) (s : Seen) (k : ℕ) (routes : List RouteRecord) (rank : ℕ) (more : Bool) → IsPlan p.plan
    → (s.plan ≡ p) × (s.request ≡ r) × (s.state ≡ state_at p.plan r 0)
    → routes ≡ map (record_of s.plan.plan s.request) (steps s.plan.plan s.request k s.state).0
    → rank ≡ s.state.emitted → more ≡ is_some (next_route s.plan.plan s.request (steps s.plan.plan s.request k s.state).1)
    → report_text routes (rank + 1) more ≡ report_from p.plan r 0 k
first_of_page p r s k routes rank more rules (plan, request, state) given count goes_on =
    report_of_page s k routes rank more given count goes_on
    ∙ (λ i. next_report (plan i).plan (request i) (state i) k)
    ∙ first_report_is p.plan r k rules

-- the last page of a session just started is the first page of its request
pub first_pages : (p : TabledPlan) (r : RouteRequest) (s : Seen) (k : ℕ) (o : Result LastSeen NoMemory) → IsPlan s.plan.plan → IsRequest s.request
    → (s.plan ≡ p) × (s.request ≡ r) × (s.state ≡ state_at p.plan r 0) → IfOk o (IsLastPage s k) → IfOk o (IsFirstPage p r k)
unfolding state_at
first_pages p r s k (Err _) rules limits started last = tt
first_pages p r s k (Ok l) rules limits (plan, request, state) last = record {
  plan = last.plan ∙ plan;
  times = subst (All HasSpelledTimes) (sym last.routes) (records_spelled s.plan.plan s.request _ rules limits);
  report =
      ap (λ rank. report_text l.routes (rank + 1) l.more) (sym (ap (λ (x : State). x.emitted) state))
      ∙ first_of_page p r s k l.routes s.state.emitted l.more (subst (λ (q : TabledPlan). IsPlan q.plan) plan rules) (plan, request, state) last.routes refl last.more;
}

-- what a run leaves, where lines were refused, or were answered and flushed
pub none_bad : (form : LineForm) (text : List ℕ) (requested : Result (List AskedLine) LinesFault) → HasLines form text requested → fault_of (asked_from form 1 (lines_in text)) ≡ None
none_bad form text requested h = ap fault_of h.0 ∙ h.1

pub not_requested : (p : TabledPlan) (kind : AnswerKind) (requested : Result (List AskedLine) LinesFault) (fault : LinesFault) (end : Result (Unit {0}) Failure) (a : Output)
    → requested ≡ Err fault → end ≡ Err (failure_of_lines (form_of kind) fault) → WritesAnswers (Ok p) requested kind end a a
not_requested p kind requested fault end a is e = rw is (e, refl)

pub answers_left : (p : TabledPlan) (kind : AnswerKind) (requested : Result (List AskedLine) LinesFault) (text : List ℕ) (end : Result (Unit {0}) Failure) (a c : Output) → HasLines (form_of kind) text requested
    → (xs : List AskedLine) × (asked_from (form_of kind) 1 (lines_in text) ≡ Ok xs) × WritesAll p.plan xs kind end a c → WritesAnswers (Ok p) requested kind end a c
answers_left p kind requested text end a c h (xs, is, left) = subst (λ t. WritesAnswers (Ok p) t kind end a c) (sym is ∙ h.0) left

-- what answering and then the flush leave: the writer had failed before it
pub broken_before : (p : ContactPlan) (xs : List AskedLine) (kind : AnswerKind) (answered : Result (Unit {0}) Failure) (a b : Output)
    → has_broken answered ≡ true → LeavesAnswers p xs kind answered a b → WritesAll p xs kind answered a b
broken_before p xs kind (Ok _) a b e left = absurd cc
broken_before p xs kind (Err failure.Write) a b e left = left
broken_before p xs kind (Err failure.NoMemory) a b e left = absurd cc
broken_before p xs kind (Err _) a b e left = absurd left

-- a beginning of the answers is one of all
answers_before : (p : ContactPlan) (xs : List AskedLine) (kind : AnswerKind) (a b c : Output) (h : StopsAtLine p xs kind a b) → WrittenInPart a (answers_text p h.before kind) c → WrittenInPart a (answers_text p xs kind) c
answers_before p xs kind a b c h part =
    let all = WrittenInPart-more a c (answers_text p h.before kind) (answers_text p (h.request ∷ h.after) kind) part in
    let those = subst (λ text. WrittenInPart a text c) (sym (answers_then p kind h.before (h.request ∷ h.after))) all in
    subst (λ ys. WrittenInPart a (answers_text p ys kind) c) (sym h.parts) those

-- the flush fails
pub broken_by_flush : (p : ContactPlan) (xs : List AskedLine) (kind : AnswerKind) (answered : Result (Unit {0}) Failure) (a b c : Output)
    → has_broken answered ≡ false → LeavesAnswers p xs kind answered a b → TakesNone b c → c.failures ≡ b.failures + 1 → WrittenInPart a (answers_text p xs kind) c
broken_by_flush p xs kind (Ok _) a b c e left kept fails = flush_failed a b c _ left kept fails
broken_by_flush p xs kind (Err failure.Write) a b c e left kept fails = absurd cc
broken_by_flush p xs kind (Err failure.NoMemory) a b c e left kept fails = answers_before p xs kind a b c left (flush_failed a b c _ left.written kept fails)
broken_by_flush p xs kind (Err _) a b c e left kept fails = absurd left

-- all that was written is flushed
pub all_flushed : (p : ContactPlan) (xs : List AskedLine) (kind : AnswerKind) (answered : Result (Unit {0}) Failure) (a b c : Output)
    → has_broken answered ≡ false → LeavesAnswers p xs kind answered a b → TakesNone b c → c.failures ≡ b.failures → IsTrue c.flushed → WritesAll p xs kind answered a c
all_flushed p xs kind (Ok _) a b c e left kept fails mark = ((Takes-kept a b c _ left.0 kept, fails ∙ left.1), mark)
all_flushed p xs kind (Err failure.Write) a b c e left kept fails mark = absurd cc
all_flushed p xs kind (Err failure.NoMemory) a b c e left kept fails mark = (
  record {
    before = left.before;
    request = left.request;
    after = left.after;
    parts = left.parts;
    written = (Takes-kept a b c _ left.written.0 kept, fails ∙ left.written.1);
  },
  mark,
)
all_flushed p xs kind (Err _) a b c e left kept fails mark = absurd left

-- ---- one run over many lines writes what runs of their own for each of them report

-- of a reader that has the text of lines, these are read
lines_are : (form : LineForm) (text : List ℕ) (xs ys : List AskedLine) (reader reader₁ : Input) → asked_by form text ≡ Ok xs → IsTextOf reader text reader₁ → ReadsLines form reader (Ok ys) reader₁ → ys ≡ xs
lines_are form text xs ys reader reader₁ spelled has h = elim h.told [
  | inl e ↦
      let all = (begins_with reader reader₁ text h.given has h.gives).all e.0 in
      let asks : asked_by form text ≡ Ok ys = subst (λ b. asked_by form b ≡ Ok ys) all e.2 in
      cc
  | inr (inl bad) ↦ absurd (let fails = bad.0 in cc)
  | inr (inr bad) ↦ absurd bad
]

module _ (plan : List ℕ) (p : ContactPlan) (spelled : plan_of plan true ≡ Ok p) where
  -- a first run that is done reports the first page
  page_taken : (q : ContactPlan) (keep : Bool) (written report : List ℕ) (place : RouteRequest × State) (end : Result (Unit {0}) Failure) (out out₁ session session₁ : Output) → status_at end ≡ status.Done
      → TakesAll out report out₁ → WritesPage keep q written place end out out₁ session session₁ → report ≡ written
  page_taken q keep written report place (Err f) out out₁ session session₁ done takes w = absurd (never_done f done)
  page_taken q keep written report place (Ok u) out out₁ session session₁ done takes w = taken out written report out₁ w.0.0 takes

  first_reported : (r : RouteRequest) (count : ℕ) (report : List ℕ) (x : IsFirstReport plan r count report) (planned : Result TabledPlan PlanFault) → ReadsPlan x.alone.reader planned x.alone.reader₁
      → WritesFirstPage planned r x.keep count x.end x.alone.out x.alone.out₁ x.session x.session₁ → report ≡ report_from p r 0 count
  first_reported r count report x (Err fault) reads w = absurd (never_done _ (sym (ap status_at w.0) ∙ x.done))
  first_reported r count report x (Ok t) reads w =
      let y = x.alone in
      subst (λ q. report ≡ report_from q r 0 count) (plan_read plan p y.reader t y.reader₁ spelled y.has reads)
      (page_taken t.plan x.keep (report_from t.plan r 0 count) report _ x.end y.out y.out₁ x.session x.session₁ x.done y.takes w)

  -- an explain run that answers writes the explanation
  explanation_reported : (r : RouteRequest) (contacts report : List ℕ) (x : IsExplained plan r contacts report) (planned : Result TabledPlan PlanFault) → ReadsPlan x.alone.reader planned x.alone.reader₁
      → WritesExplanation planned r contacts (Ok x.answer) x.alone.out x.alone.out₁ → report ≡ explanation_text p r contacts
  explanation_reported r contacts report x (Err fault) reads w = cc (w.0)
  explanation_reported r contacts report x (Ok t) reads w =
      let y = x.alone in
      subst (λ q. report ≡ explanation_text q r contacts) (plan_read plan p y.reader t y.reader₁ spelled y.has reads)
      (taken y.out (explanation_text t.plan r contacts) report y.out₁ w.1.0 y.takes)

  report_is : (kind : AnswerKind) (x : AskedLine) (report : List ℕ) → IsReport plan kind x report → report ≡ body_text p kind x
  report_is (FirstRoutes count) x report is = first_reported x.asked.request count report is is.alone.planned is.alone.reads is.writes
  report_is Explanation x report is = explanation_reported x.asked.request x.asked.contacts report is is.alone.planned is.alone.reads is.writes

  module _ (kind : AnswerKind) where
    -- the answers are these reports, each after its line
    reports_are : (xs : List AskedLine) (reports : List (List ℕ)) → AreReports plan kind xs reports → answers_text p xs kind ≡ reports_of kind xs reports
    reports_are [] [] are = refl
    reports_are [] (report ∷ reports) bad = absurd bad
    reports_are (x ∷ xs) [] bad = absurd bad
    reports_are (x ∷ xs) (report ∷ reports) (is, others) =
        ap (λ t. (heading kind x.line ++ t) ++ answers_text p xs kind) (sym (report_is kind x report is))
        ∙ ap (λ t. (heading kind x.line ++ report) ++ t) (reports_are xs reports others)

    module _ (text : List ℕ) (xs : List AskedLine) (bytes : List ℕ) (many : IsMany plan text kind bytes) (requests : asked_by (form_of kind) text ≡ Ok xs) where
      all_taken : (q : ContactPlan) (ys : List AskedLine) (end : Result (Unit {0}) Failure) → status_at end ≡ status.Done → WritesAll q ys kind end many.alone.out many.alone.out₁ → bytes ≡ answers_text q ys kind
      all_taken q ys (Err f) done w = absurd (never_done f done)
      all_taken q ys (Ok u) done w = taken many.alone.out (answers_text q ys kind) bytes many.alone.out₁ w.0 many.alone.takes

      answers_are : (planned : Result TabledPlan PlanFault) (requested : Result (List AskedLine) LinesFault) → ReadsPlan many.alone.reader planned many.alone.reader₁
          → ReadsLinesOver (form_of kind) planned many.asked requested many.asked₁ → WritesAnswers planned requested kind many.end many.alone.out many.alone.out₁ → bytes ≡ answers_text p xs kind
      answers_are (Err fault) requested reads asked w = absurd (never_done _ (sym (ap status_at w.0) ∙ many.done))
      answers_are (Ok t) (Err fault) reads asked w = absurd (never_done _ (sym (ap status_at w.0) ∙ many.done))
      answers_are (Ok t) (Ok ys) reads asked w =
          let same = lines_are (form_of kind) text xs ys many.asked many.asked₁ requests many.asks asked in
          subst (λ q. bytes ≡ answers_text q xs kind) (plan_read plan p many.alone.reader t many.alone.reader₁ spelled many.alone.has reads)
          (subst (λ zs. bytes ≡ answers_text t.plan zs kind) same (all_taken t.plan ys many.end many.done w))

answers_as_alone : (kind : AnswerKind) → AnswersAsAlone kind
answers_as_alone kind plan text p xs bytes reports spelled requests many are =
    answers_are plan p spelled kind text xs bytes many requests many.alone.planned many.requested many.alone.reads many.reads_asked many.writes
    ∙ reports_are plan p spelled kind xs reports are

pub many_answers_as_first : ManyAnswersAsFirst
many_answers_as_first count = answers_as_alone (FirstRoutes count)

pub follow_answers_as_explain : FollowAnswersAsExplain
follow_answers_as_explain = answers_as_alone Explanation
