-- What a page leaves on its two writers, from what each step of writing it left; what a command leaves of files; and a next
-- run over the session text of a place.
use Rattle.std.proofs.Common.{◌≡◌, ℕ, ◌+◌, Bool, List, [], map, refl, sym, ap, ◌∙◌, append-nil, ◌≤◌, length, take, arith, ◌∷◌, IfOk, Result, Ok, Err, Option, None, Some, Box, box_value, option_map, subst, true, false, ◌++◌, ◌⊎◌, inl, inr}
use Rattle.std.specs.Prelude.{is_some}
use Rattle.sabr_model.specs.Devices.{Output, TakesNone, Written, WrittenInPart, Input, IsTextOf}
use Rattle.sabr_model.proofs.ListLemmas.WrittenTexts.{Takes-kept}
use Rattle.sabr_model.specs.routes.Record.{RouteRecord, record_of}
use Rattle.sabr_frontier.specs.listing.Listing.{steps, next_route, state_at}
use Rattle.sabr_frontier.specs.session.Session.{Seen}
use Rattle.sabr_plan.specs.Canonical.{digest_of}
use Rattle.sabr_session.specs.ReportText.{report_text}
use Rattle.sabr_session.specs.SessionText.{text_of}
use Rattle.commands.specs.runs.SessionRuns.{next_report, place_after, report_after, report_from, WritesNextPage, WritesPage, place_of}
use Rattle.std.proofs.lemmas.List.{length-take}
use Rattle.sabr_model.specs.plan.Plan.{ContactPlan, IsPlan, TabledPlan}
use Rattle.sabr_model.specs.routes.Arrival.{RouteRequest}
use Rattle.sabr_model.specs.routes.Listing.{routes, page_of}
use Rattle.sabr_frontier.specs.listing.State.{State}
use Rattle.sabr_frontier.proofs.ListingLemmas.Lawful.{steps_follow, emitted_at}
use Rattle.clap.specs.Words.{subcommand_name_of, subcommand_rows, subcommand_rows_of}
use Rattle.clap.specs.declared.parser.matches.ArgMatches.{ArgMatches}
use Rattle.clap.specs.declared.parser.matches.ArgMatches.TheViews.{out-ArgMatches, out-SubCommand}
use Rattle.clap.specs.declared.parser.matches.SubCommand.{SubCommand}
use Rattle.commands.specs.declared.failure.Status.{Status}
use Rattle.commands.specs.runs.Calls.{FileRules, KeepsIfDone, Left, LeavesFile, unwritten}
use Rattle.commands.specs.runs.Program.{Given, named_in}
use Rattle.commands.specs.words.Values.{command_named}
use Rattle.sabr_model.proofs.ListLemmas.ReadTexts.{begins_with}
use Rattle.sabr_model.specs.routes.Asking.{IsRequest}
use Rattle.sabr_session.specs.SessionRead.{Said, ComesTo, IsSessionOf}
use Rattle.sabr_session.specs.SessionGiven.{ReadsSession, said_over}
use Rattle.sabr_session.specs.Verifying.{IsSessionText}
use Rattle.sabr_session.specs.declared.session_fault.SessionFault.{SessionFault}
use Rattle.sabr_session.proofs.TextLemmas.TextsRead.{answers_once}
use Rattle.commands.specs.declared.failure.Failure.{Failure}
use Rattle.commands.specs.texts.Messages.{failure_of_session}
use Rattle.commands.specs.runs.RunsInTurn.{KeepsPlace, WritesPageFrom, NextGoesOn}
use Rattle.sabr_session.proofs.SessionPlaces.{next_within}
use Rattle.commands.proofs.RunLemmas.RunsFollow.{text_begins}
use Rattle.commands.specs.declared.failure.Status.TheVariants as status
use Rattle.sabr_session.specs.declared.session_fault.SessionFault.TheVariants as fault
use Rattle.commands.specs.declared.failure.Failure.TheVariants as failure

-- a text was written, and then its flush failed
pub flush_failed : (a b c : Output) (text : List ℕ) → Written a text b → TakesNone b c → c.failures ≡ b.failures + 1 → WrittenInPart a text c
flush_failed a b c text p q e = ((text, ([], sym (append-nil text)), Takes-kept a b c text p.0 q), e ∙ ap (λ j. j + 1) p.1)

-- the report of a page, from the session before it
pub report_of_page : (s : Seen) (k : ℕ) (routes : List RouteRecord) (rank : ℕ) (more : Bool)
    → routes ≡ map (record_of s.plan.plan s.request) (steps s.plan.plan s.request k s.state).0
    → rank ≡ s.state.emitted → more ≡ is_some (next_route s.plan.plan s.request (steps s.plan.plan s.request k s.state).1)
    → report_text routes (rank + 1) more ≡ next_report s.plan.plan s.request s.state k
report_of_page s k routes rank more given count goes_on = rw (given, count, goes_on) refl

-- whether a route is left after a page
pub left_after_page : (before after : Seen) (k : ℕ) → after.plan ≡ before.plan → after.request ≡ before.request
    → after.state ≡ (steps before.plan.plan before.request k before.state).1
    → is_some (next_route after.plan.plan after.request after.state)
    ≡ is_some (next_route before.plan.plan before.request (steps before.plan.plan before.request k before.state).1)
left_after_page before after k plan request state = rw (plan, request, state) refl

-- the text of the session after a page
pub text_of_page : (before after : Seen) (k : ℕ) → after.plan ≡ before.plan → after.request ≡ before.request
    → after.state ≡ (steps before.plan.plan before.request k before.state).1
    → text_of (digest_of after.plan.plan) after.request after.state
    ≡ text_of (digest_of before.plan.plan) before.request (steps before.plan.plan before.request k before.state).1
text_of_page before after k plan request state = rw (plan, request, state) refl

-- ---- what a page of a session just started gives of the listing

-- the first page, and the place after it
first_steps : (p : ContactPlan) (r : RouteRequest) (k : ℕ) → IsPlan p → steps p r k (state_at p r 0) ≡ (page_of p r 0 k, state_at p r (place_after p r 0 k))
first_steps p r k rules = (steps_follow p r rules).pages 0 k (omega arith)

within : {X : Type 0} (k : ℕ) (xs : List X) → 0 + length (take k xs) ≤ length xs
within k xs = omega (arith, length-take k xs)

-- the report of the steps from the first place is that of the page from there on
pub first_report_is : (p : ContactPlan) (r : RouteRequest) (k : ℕ) → IsPlan p → next_report p r (state_at p r 0) k ≡ report_from p r 0 k
unfolding state_at
first_report_is p r k rules =
    ap (report_after p r 0) (first_steps p r k rules)
    ∙ ap (report_text (map (record_of p r) (page_of p r 0 k)) 1) ((steps_follow p r rules).carries (place_after p r 0 k) (within k (routes p r)))

-- and they lead to the place that it reaches
pub first_place : (p : ContactPlan) (r : RouteRequest) (k : ℕ) → IsPlan p → (steps p r k (state_at p r 0)).1 ≡ state_at p r (place_after p r 0 k)
first_place p r k rules = ap (λ (x : List (List ℕ) × State). x.1) (first_steps p r k rules)

-- ---- what is left of files after a command, and what names it

-- what is left after a command
module _ (rules : FileRules) (path : List ℕ) (x : Output) (left left₁ : Left) where
  leaves : (ended : Status) → KeepsIfDone rules ended x ((path, unwritten) ∷ left) left₁ → LeavesFile rules (Some path) ended x left left₁
  leaves status.Done h = h
  leaves status.No h = h
  leaves status.Usage h = h
  leaves status.Plan h = h
  leaves status.Session h = h
  leaves status.Io h = h
  leaves status.Memory h = h

  pub leaves_made : (kept : Option (List ℕ)) (ended : Status) (made : Left) → kept ≡ Some path → made ≡ (path, unwritten) ∷ left → KeepsIfDone rules ended x made left₁ → LeavesFile rules kept ended x left left₁
  leaves_made kept ended made is there keeps = rw is (leaves ended (subst (λ m. KeepsIfDone rules ended x m left₁) there keeps))

-- a run that makes no file
pub with_none_left : {E : Type 0} (r : Result Status E) (left : Left) (Runs : Status → Type 0) → IfOk r Runs → IfOk r (λ ended. (left ≡ left) × Runs ended)
with_none_left (Ok s) left Runs runs = (refl, runs)
with_none_left (Err e) left Runs runs = tt

-- what clap's clauses on a subcommand say of what was given
pub named_by : (given : Given) (name : List ℕ) → option_map (λ g. g.0) given ≡ Some name → named_in given ≡ command_named name
named_by None name e = absurd cc
named_by (Some g) name e =
    let same : g.0 ≡ name = cc in
    ap command_named same

module _ {Z : Type 0} where
  names_in : (o : Option (Box SubCommand Z)) → option_map (λ g. g.0) (subcommand_rows o) ≡ option_map (λ b. (out-SubCommand (box_value b)).name.now) o
  names_in None = refl
  names_in (Some b) = refl

pub name_given : (m : ArgMatches) → option_map (λ g. g.0) (subcommand_rows_of m) ≡ subcommand_name_of m
name_given m = names_in (out-ArgMatches m).subcommand

-- ---- a next run over the session text of a place writes the page from there on

-- a session that was read over a plan is over that plan
pub is_over_plan : (plan : TabledPlan) (old : Input) (s : Seen) (new : Input) → ReadsSession plan old (Ok s) new → s.plan ≡ plan
is_over_plan plan old s new h = elim h.told [
  | inl (ended, same, from) ↦ ap (λ (x : Seen). x.plan) from.0
  | inr (inl broken) ↦ absurd broken
  | inr (inr refused) ↦ absurd refused
]

-- the session that a run kept is the text of its place
pub place_kept : (p : ContactPlan) (r : RouteRequest) (i : ℕ) → IsRequest r → i ≤ length (routes p r)
    → (keep : Bool) (report : List ℕ) (end : Result (Unit {0}) Failure) (old new old₁ new₁ : Output) → WritesPage keep p report (r, state_at p r i) end old new old₁ new₁ → KeepsPlace keep p r i end
place_kept p r i accepted within true report (Ok _) old new old₁ new₁ page =
    λ _. (record { request = r; place = i; accepted = accepted; within = within; there = page.1.0; spelled = inl refl }, refl, refl)
place_kept p r i accepted within false report (Ok _) old new old₁ new₁ page = λ no. absurd cc
place_kept p r i accepted within keep report (Err f) old new old₁ new₁ page = tt

module _ (p : TabledPlan) (bytes : List ℕ) (good : IsPlan p.plan) (text : IsSessionText p.plan bytes) where
  -- the request and the state of the place
  abbrev place : RouteRequest × State
  place = (text.request, state_at p.plan text.request text.place)

  is_place : IsSessionOf p.plan (digest_of p.plan) bytes true (Ok place)
  is_place = text_begins p.plan text.request good text.accepted text.place bytes (text, refl, refl)

  one_place : (answer : Result (RouteRequest × State) SessionFault) → IsSessionOf p.plan (digest_of p.plan) bytes true answer → answer ≡ Ok place
  one_place answer is = answers_once p.plan (digest_of p.plan) bytes true answer (Ok place) is is_place

  -- what is read: that place; or the reader failed, or memory was refused
  abbrev IsReadTo : ℕ → Result (RouteRequest × State) SessionFault → ℕ → Type 0
  IsReadTo before (Ok x) after = x ≡ place
  IsReadTo before (Err f) after = (f ≡ fault.NoMemory) ⊎ ((f ≡ fault.Read) × (after ≡ before + 1))

  all_read : (given : List ℕ) (answer : Result (RouteRequest × State) SessionFault) → given ≡ bytes → ComesTo p.plan (said_over p given true) answer → answer ≡ Ok place
  all_read given answer all is = one_place answer (subst (λ b. IsSessionOf p.plan (digest_of p.plan) b true answer) all is)

  is_read_to : (reader : Input) (resumed : Result Seen SessionFault) (reader₁ : Input) → IsTextOf reader bytes reader₁ → ReadsSession p reader resumed reader₁ → IsReadTo reader.failures (place_of resumed) reader₁.failures
  is_read_to reader (Ok s) reader₁ has h = elim h.told [
    | inl (end, fine, from) ↦ let is = all_read h.given (Ok (s.request, s.state)) ((begins_with reader reader₁ bytes h.given has h.gives).all end) from.1 in cc
    | inr (inl broken) ↦ absurd broken
    | inr (inr refused) ↦ absurd refused
  ]
  is_read_to reader (Err f) reader₁ has h = elim h.told [
    | inl (end, fine, inl memory) ↦ inl memory
    | inl (end, fine, inr is) ↦ let other = all_read h.given (Err f) ((begins_with reader reader₁ bytes h.given has h.gives).all end) is in absurd cc
    | inr (inl (failed, is, broken)) ↦ inr (is, failed)
    | inr (inr (fine, inl memory)) ↦ inl memory
    | inr (inr (fine, inr (not_read, refused))) ↦
        let more = begins_with reader reader₁ bytes h.given has h.gives in
        let is : ComesTo p.plan (said_over p (h.given ++ more.rest) true) (Err f) = subst (λ (o : Result Said SessionFault). ComesTo p.plan o (Err f)) (sym (refused more.rest true)) refl in
        let other = all_read (h.given ++ more.rest) (Err f) more.parts is in
        absurd cc
  ]

  -- the page from there on
  page_is : (count : ℕ) → steps p.plan place.0 count place.1 ≡ (page_of p.plan text.request text.place count, state_at p.plan text.request (text.place + length (page_of p.plan text.request text.place count)))
  page_is count = (steps_follow p.plan text.request good).pages text.place count text.within

  report_is : (count : ℕ) → next_report p.plan place.0 place.1 count ≡ report_from p.plan text.request text.place count
  report_is count =
      let page = page_of p.plan text.request text.place count in
      ap (λ n. report_after p.plan text.request n (steps p.plan place.0 count place.1)) (emitted_at p.plan text.request text.place text.within)
      ∙ ap (report_after p.plan text.request text.place) (page_is count)
      ∙ ap (report_text (map (record_of p.plan text.request) page) (text.place + 1))
      ((steps_follow p.plan text.request good).carries (text.place + length page) (next_within p.plan text.request good text.accepted text.place count text.within))

  state_is : (count : ℕ) → (steps p.plan place.0 count place.1).1 ≡ state_at p.plan text.request (place_after p.plan text.request text.place count)
  state_is count = ap (λ (w : List (List ℕ) × State). w.1) (page_is count)

  module _ (keep : Bool) (count : ℕ) (end : Result (Unit {0}) Failure) (old new old₁ new₁ : Output) where
    abbrev Leaves : List ℕ → State → Type 0
    Leaves report s = WritesPage keep p.plan report (text.request, s) end old new old₁ new₁

    abbrev Runs : Result (RouteRequest × State) SessionFault → Type 0
    Runs answer = WritesNextPage (Ok p) answer keep count end old new old₁ new₁

    by_answer : (faults faults_then : ℕ) (answer : Result (RouteRequest × State) SessionFault) → IsReadTo faults answer faults_then → Runs answer
        → WritesPageFrom keep p.plan text.request text.place count end old new old₁ new₁
        ⊎ ((faults_then ≡ faults + 1) × (end ≡ Err failure.SessionRead) × (new ≡ old) × (new₁ ≡ old₁))
    by_answer faults faults_then (Ok x) is run =
        let after = (steps p.plan place.0 count place.1).1 in
        let from : Leaves (next_report p.plan place.0 place.1 count) after = subst (λ (w : RouteRequest × State). Runs (Ok w)) is run in
        let reported = subst (λ (r : List ℕ). Leaves r after) (report_is count) from in
        let page = subst (Leaves (report_from p.plan text.request text.place count)) (state_is count) reported in
        inl (page, place_kept p.plan text.request (place_after p.plan text.request text.place count) text.accepted (next_within p.plan text.request good text.accepted text.place count text.within) keep _ end old new old₁ new₁ page)
    by_answer faults faults_then (Err f) (inl memory) run =
        let ended : end ≡ Err failure.NoMemory = run.0 ∙ ap (λ (g : SessionFault). Err (failure_of_session g)) memory in
        inl (subst (λ (e : Result (Unit {0}) Failure). WritesPageFrom keep p.plan text.request text.place count e old new old₁ new₁) (sym ended) ((run.1, run.2), tt))
    by_answer faults faults_then (Err f) (inr (read, failed)) run =
        let ended : end ≡ Err failure.SessionRead = run.0 ∙ ap (λ (g : SessionFault). Err (failure_of_session g)) read in
        inr (failed, ended, run.1, run.2)

-- every next run over such a text goes on from its place
pub next_goes_on : NextGoesOn
next_goes_on p bytes good text reader resumed reader₁ has reads keep count end old new old₁ new₁ =
    by_answer p bytes good text keep count end old new old₁ new₁ reader.failures reader₁.failures (place_of resumed) (is_read_to p bytes good text reader resumed reader₁ has reads)
