-- Runs in turn write the listing page by page.
use Rattle.std.proofs.Common.{◌≡◌, ◌≢◌, ℕ, ◌+◌, Bool, true, false, List, [], ◌∷◌, ◌++◌, length, length-append, append-nil, append_assoc, arith, refl, sym, ap, subst, ◌∙◌, inl, inr, Result, Ok, Err}
use Rattle.sabr_model.specs.Devices.{Input, Output, IsTextOf, TakesAll, Written}
use Rattle.sabr_model.proofs.ListLemmas.ReadTexts.{all_taken, begins_with}
use Rattle.sabr_model.specs.plan.Plan.{ContactPlan, TabledPlan, IsPlan}
use Rattle.sabr_model.specs.routes.Arrival.{RouteRequest}
use Rattle.sabr_model.specs.routes.Asking.{IsRequest}
use Rattle.sabr_model.specs.routes.Listing.{page_of}
use Rattle.sabr_plan.specs.Reading.{plan_of}
use Rattle.sabr_plan.specs.PlanRead.{ReadsPlan}
use Rattle.sabr_plan.specs.declared.fault.PlanFault.{PlanFault}
use Rattle.sabr_plan.proofs.SpelledPlans.{plan_is}
use Rattle.sabr_session.specs.SessionText.{session_text}
use Rattle.commands.specs.declared.failure.Failure.{Failure}
use Rattle.commands.specs.declared.failure.Failure.TheVariants as failure
use Rattle.commands.specs.declared.failure.Status.TheVariants as status
use Rattle.commands.specs.texts.Messages.{status_of, status_at}
use Rattle.commands.specs.runs.SessionRuns.{ReadsOldSession, WritesFirstPage, WritesNextPage, place_of, place_after, report_from}
use Rattle.commands.specs.runs.EveryRun.{IsAt, from_text}
use Rattle.commands.specs.runs.RunsInTurn.{WritesPageFrom, GoesOnFrom, Run, IsDone, IsFirst, IsNext, AreNext, IsPage, ArePages, RunsInTurn, asked_of, text_left, pages_given, GoOnFrom, RunsGoOn}
use Rattle.sabr_session.proofs.SessionPlaces.{next_within, pages_joined}
use Rattle.commands.proofs.RunLemmas.PageTexts.{place_kept, next_goes_on}

-- no failure ends as done
pub never_done : (f : Failure) → status_of f ≢ status.Done
never_done (failure.BadValue name) e = cc
never_done failure.SameNode e = cc
never_done failure.BadAvoid e = cc
never_done failure.CannotOpenPlan e = cc
never_done failure.CannotOpenSession e = cc
never_done failure.CannotMakeSession e = cc
never_done (failure.PlanLine fault) e = cc
never_done failure.PlanRead e = cc
never_done (failure.Session fault) e = cc
never_done failure.SessionRead e = cc
never_done failure.CannotOpenRequests e = cc
never_done (failure.RequestsLine line kind) e = cc
never_done failure.RequestsRead e = cc
never_done failure.CannotOpenLists e = cc
never_done (failure.ListsLine line kind) e = cc
never_done failure.ListsRead e = cc
never_done failure.Write e = cc
never_done failure.NoMemory e = cc
never_done failure.NotUtf8 e = cc

-- a writer took the text that was written
pub taken : (old : Output) (text bytes : List ℕ) (new : Output) → Written old text new → TakesAll old bytes new → bytes ≡ text
taken old text bytes new written takes = all_taken old new bytes text takes written.0

-- of a reader whose text is that of a plan, that plan is read
pub plan_read : (plan : List ℕ) (p : ContactPlan) (reader : Input) (t : TabledPlan) (reader₁ : Input) → plan_of plan true ≡ Ok p → IsTextOf reader plan reader₁ → ReadsPlan reader (Ok t) reader₁ → t.plan ≡ p
plan_read plan p reader t reader₁ spelled has h = elim h.told [
  | inl (end, fine, answer) ↦
      let all = (begins_with reader reader₁ plan h.given has h.gives).all end in
      let told : plan_of plan true ≡ Ok t.plan = subst (λ b. plan_of b true ≡ Ok t.plan) all answer in
      cc
  | inr (inl broken) ↦ absurd broken
  | inr (inr refused) ↦ absurd refused
]

module _ (plan : List ℕ) (p : ContactPlan) (r : RouteRequest) (spelled : plan_of plan true ≡ Ok p) (accepted : IsRequest r) where
  good : IsPlan p
  good = plan_is plan true p spelled

  -- a run that is done wrote the page from place i on
  abbrev IsPageFrom : ContactPlan → ℕ → Run → Type 0
  IsPageFrom q i run =
      (run.report ≡ report_from q r i run.count) × (run.text ≡ session_text q r (place_after q r i run.count)) × IsAt q r (place_after q r i run.count) (from_text (session_text q r (place_after q r i run.count)))

  page_from : (q : ContactPlan) (i : ℕ) (run : Run) (x : IsDone plan run) → (end : Result (Unit {0}) Failure) → status_at end ≡ status.Done
      → WritesPageFrom true q r i run.count end x.alone.out x.alone.out₁ x.session x.session₁ → IsPageFrom q i run
  page_from q i run x (Err f) done w = absurd (never_done f done)
  page_from q i run x (Ok u) done (page, keeps) =
      (taken x.alone.out _ run.report x.alone.out₁ page.0.0 x.alone.takes, taken x.session _ run.text x.session₁ page.1.1.0 x.takes_text, keeps refl)

  -- the first run
  first_page : (run : Run) (x : IsDone plan run) (planned : Result TabledPlan PlanFault) → ReadsPlan x.alone.reader planned x.alone.reader₁
      → WritesFirstPage planned r true run.count x.end x.alone.out x.alone.out₁ x.session x.session₁ → IsPageFrom p 0 run
  first_page run x (Err fault) reads w = absurd (never_done _ (sym (ap status_at w.0) ∙ x.done))
  first_page run x (Ok t) reads w =
      let e = plan_read plan p x.alone.reader t x.alone.reader₁ spelled x.alone.has reads in
      let q = t.plan in
      let within = next_within q r (subst IsPlan (sym e) good) accepted 0 run.count (omega arith) in
      let from = page_from q 0 run x x.end x.done (w, place_kept q r (place_after q r 0 run.count) accepted within true _ x.end x.alone.out x.alone.out₁ x.session x.session₁ w) in
      subst (λ q. IsPageFrom q 0 run) e from

  -- a next run over the text of place i
  text_goes_on : (t : TabledPlan) (i : ℕ) (text : List ℕ) → IsPlan t.plan → IsAt t.plan r i (from_text text) → GoesOnFrom t r i text
  text_goes_on t i text rules (is, of_request, of_place) =
      let same : ◌≡◌ {A = RouteRequest × ℕ} (is.request, is.place) (r, i) = λ j. (of_request j, of_place j) in
      subst (λ (w : RouteRequest × ℕ). GoesOnFrom t w.0 w.1 text) same (next_goes_on t text rules is)

  next_left : (keep : Bool) (i : ℕ) (text : List ℕ) (run : Run) (x : IsNext plan text keep run) (planned : Result TabledPlan PlanFault) → x.is_done.alone.planned ≡ planned → IsAt p r i (from_text text)
      → (q : ContactPlan) × (q ≡ p) × WritesPageFrom keep q r i run.count x.is_done.end x.is_done.alone.out x.is_done.alone.out₁ x.is_done.session x.is_done.session₁
  next_left keep i text run x (Err fault) is at =
      let d = x.is_done in
      let w = subst (λ q. WritesNextPage q (place_of x.resumed) keep run.count d.end d.alone.out d.alone.out₁ d.session d.session₁) is x.writes in
      absurd (never_done _ (sym (ap status_at w.0) ∙ d.done))
  next_left keep i text run x (Ok t) is at =
      let d = x.is_done in
      let e = plan_read plan p d.alone.reader t d.alone.reader₁ spelled d.alone.has (subst (λ q. ReadsPlan d.alone.reader q d.alone.reader₁) is d.alone.reads) in
      let goes_on = text_goes_on t i text (subst IsPlan (sym e) good) (subst (λ q. IsAt q r i (from_text text)) (sym e) at) in
      let left = goes_on x.reader x.resumed x.reader₁ x.has (subst (λ q. ReadsOldSession q x.reader x.resumed x.reader₁) is x.reads)
      keep run.count d.end d.alone.out d.alone.out₁ d.session d.session₁
      (subst (λ q. WritesNextPage q (place_of x.resumed) keep run.count d.end d.alone.out d.alone.out₁ d.session d.session₁) is x.writes) in
      let from : WritesPageFrom keep t.plan r i run.count d.end d.alone.out d.alone.out₁ d.session d.session₁ = elim left [
        | inl w ↦ w
        | inr w ↦ absurd (never_done failure.SessionRead (sym (ap status_at w.1) ∙ d.done))
      ]
      in
      (t.plan, e, from)

  next_page : (i : ℕ) (text : List ℕ) (run : Run) → IsNext plan text true run → IsAt p r i (from_text text) → IsPageFrom p i run
  next_page i text run x at =
      let (q, e, w) = next_left true i text run x x.is_done.alone.planned refl at in
      subst (λ t. IsPageFrom t i run) e (page_from q i run x.is_done x.is_done.end x.is_done.done w)

  -- whether it keeps its session or not, it reported that page
  report_taken : (keep : Bool) (q : ContactPlan) (i : ℕ) (run : Run) (x : IsDone plan run) (end : Result (Unit {0}) Failure) → status_at end ≡ status.Done
      → WritesPageFrom keep q r i run.count end x.alone.out x.alone.out₁ x.session x.session₁ → run.report ≡ report_from q r i run.count
  report_taken keep q i run x (Err f) done w = absurd (never_done f done)
  report_taken keep q i run x (Ok u) done w = taken x.alone.out _ run.report x.alone.out₁ w.0.0.0 x.alone.takes

  last_report : (i : ℕ) (text : List ℕ) (run : Run) → IsNext plan text false run → IsAt p r i (from_text text) → run.report ≡ report_from p r i run.count
  last_report i text run x at =
      let (q, e, w) = next_left false i text run x x.is_done.alone.planned refl at in
      subst (λ t. run.report ≡ report_from t r i run.count) e (report_taken false q i run x.is_done x.is_done.end x.is_done.done w)

  -- the place after pages from place i on that were asked for so many routes, and then one more
  pub place_on : (i asked count : ℕ) → place_after p r (place_after p r i asked) count ≡ place_after p r i (asked + count)
  place_on i asked count =
      let a = page_of p r i asked in
      let b = page_of p r (place_after p r i asked) count in
      let joined : a ++ b ≡ page_of p r i (asked + count) = pages_joined p r good accepted i asked count in
      let many : length a + length b ≡ length (page_of p r i (asked + count)) = sym (length-append a b) ∙ ap length joined in
      omega (arith, many)

  is_page : (i asked : ℕ) (run : Run) → IsPageFrom p (place_after p r i asked) run → IsPage p r i asked run
  is_page i asked run (report, text, there) =
      let to = place_on i asked run.count in
      record {
        report = report;
        text = text ∙ ap (session_text p r) to;
        there = subst (λ n. IsAt p r n (from_text run.text)) to (subst (λ b. IsAt p r (place_after p r (place_after p r i asked) run.count) (from_text b)) (sym text) there);
      }

  pages_after : (i asked : ℕ) (text : List ℕ) (runs : List Run) → IsAt p r (place_after p r i asked) (from_text text) → AreNext plan text runs
      → ArePages p r i asked runs × (page_of p r i asked ++ pages_given p r i asked runs ≡ page_of p r i (asked + asked_of runs)) × IsAt p r (place_after p r i (asked + asked_of runs)) (from_text (text_left text runs))
  pages_after i asked text [] at are =
      let none : asked + 0 ≡ asked = omega arith in
      (tt, append-nil (page_of p r i asked) ∙ ap (page_of p r i) (sym none), subst (λ n. IsAt p r (place_after p r i n) (from_text text)) (sym none) at)
  pages_after i asked text (run ∷ runs) at (next, others) =
      let page = is_page i asked run (next_page (place_after p r i asked) text run next at) in
      let rest = pages_after i (asked + run.count) run.text runs page.there others in
      let most : (asked + run.count) + asked_of runs ≡ asked + (run.count + asked_of runs) = omega arith in
      let given = page_of p r (place_after p r i asked) run.count in
      let more = pages_given p r i (asked + run.count) runs in
      let joined : page_of p r i asked ++ given ≡ page_of p r i (asked + run.count) = pages_joined p r good accepted i asked run.count in (
        (page, rest.0),
        sym (append_assoc (page_of p r i asked) given more) ∙ ap (λ xs. xs ++ more) joined ∙ rest.1 ∙ ap (page_of p r i) most,
        subst (λ n. IsAt p r (place_after p r i n) (from_text (text_left run.text runs))) most rest.2,
      )

  all_pages : (first : Run) (runs : List Run) → IsFirst plan r first → AreNext plan first.text runs → ArePages p r 0 0 (first ∷ runs)
  all_pages first runs (x, writes) others =
      let page = is_page 0 0 first (first_page first x x.alone.planned x.alone.reads writes) in
      (page, (pages_after 0 (0 + first.count) first.text runs page.there others).0)

  all_after : (i : ℕ) (text : List ℕ) (runs : List Run) → IsAt p r i (from_text text) → AreNext plan text runs → GoOnFrom plan text p r i runs
  all_after i text runs at are =
      let begin : i ≡ place_after p r i 0 = omega (arith, length-none i) in
      let on = pages_after i 0 text runs (subst (λ n. IsAt p r n (from_text text)) begin at) are in
      let none : 0 + asked_of runs ≡ asked_of runs = omega arith in
      let left = subst (λ n. IsAt p r (place_after p r i n) (from_text (text_left text runs))) none on.2 in
      record {
        each = on.0;
        joined = on.1 ∙ ap (page_of p r i) none;
        left = left;
        last = λ run x. last_report (place_after p r i (asked_of runs)) (text_left text runs) run x left;
      }
    where
      length-none : (i : ℕ) → length (page_of p r i 0) ≡ 0
      length-none i = refl

-- over the text of a plan, runs in turn write its listing page by page
pub runs_in_turn : RunsInTurn
runs_in_turn plan p r first runs spelled accepted is others = all_pages plan p r spelled accepted first runs is others

-- so do next runs from any text that verifying accepts
pub runs_go_on : RunsGoOn
runs_go_on plan text p r i runs spelled at others =
    all_after plan p r spelled (subst IsRequest at.1 at.0.accepted) i text runs at others
