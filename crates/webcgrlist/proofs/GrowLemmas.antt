-- A call only adds to what its writers took, however it ends. So a buffer stays with its writer, and ends with the
-- text put over it.
use Rattle.std.proofs.Common.{◌≡◌, ℕ, Bool, true, false, List, [], Result, Ok, Err, Option, None, Some, IsSomeAnd, inl, inr, sym, ap, subst, ◌∙◌}
use Rattle.sabr_model.specs.Devices.{Output, Takes, Written, WrittenInPart}
use Rattle.sabr_model.specs.plan.Plan.{ContactPlan, TabledPlan}
use Rattle.sabr_model.specs.routes.Arrival.{RouteRequest}
use Rattle.sabr_model.proofs.ListLemmas.WrittenTexts.{Takes-nil}
use Rattle.sabr_plan.specs.declared.fault.PlanFault.{PlanFault}
use Rattle.commands.specs.declared.command.CommandName.{CommandName}
use Rattle.commands.specs.declared.command.CommandName.TheVariants as command
use Rattle.commands.specs.declared.failure.Failure.{Failure}
use Rattle.commands.specs.declared.failure.Failure.TheVariants as failure
use Rattle.commands.specs.declared.runs.answering.AnswerKind.{AnswerKind}
use Rattle.commands.specs.declared.failure.Status.{Status}
use Rattle.commands.specs.declared.words.value_fault.ValueFault.{ValueFault}
use Rattle.commands.specs.texts.PlanTexts.{WritesCheck, WritesExplanation}
use Rattle.commands.specs.texts.Messages.{ReportsEnd, WritesMessage, message_text}
use Rattle.commands.specs.runs.Many.{WritesAnswers}
use Rattle.commands.specs.runs.SessionRuns.{LeavesSession, WritesAnswer, WritesFirstPage, WritesNextPage, WritesPage}
use Rattle.commands.specs.words.Values.{ValuesRead}
use Rattle.host.specs.Buffers.{buffer_output, put_over}
use Rattle.host.specs.declared.buffer.Buffer.{Buffer}
use Rattle.host.proofs.WriterLemmas.{put_by_call}
use Rattle.webcgrlist.specs.declared.asked.Asked.{Asked}
use Rattle.webcgrlist.specs.declared.call.Run.{Run}
use Rattle.webcgrlist.specs.declared.call.Run.TheVariants.{Command, Canonical}
use Rattle.webcgrlist.specs.Calls.{EndsCall, RunsCommand, RunsRead, StopsBefore}
use Rattle.webcgrlist.specs.Canonical.{WritesCanonical}
use Rattle.webcgrlist.specs.Runs.{RunsOver, WritersSeen}

-- a writer took some bytes more, or none
abbrev pub Grows : Output → Output → Type 0
Grows old new = (bytes : List ℕ) × Takes old bytes new

-- each writer did
pub record Grow (old new : WritersSeen) : Type 0 where
  pub report : Grows old.report new.report
  pub session : Grows old.session new.session
  pub message : Grows old.message new.message

kept : (old new : Output) → new ≡ old → Grows old new
kept old new e = subst (Grows old) (sym e) ([], Takes-nil old)

all : (old new : Output) (text : List ℕ) → Written old text new → Grows old new
all old new text (takes, fine) = (text, takes)

part : (old new : Output) (text : List ℕ) → WrittenInPart old text new → Grows old new
part old new text ((front, whole, takes), fails) = (front, takes)

message_grows : (old new : Output) (text : List ℕ) → WritesMessage old text new → Grows old new
message_grows old new text (inl h) = all old new text h
message_grows old new text (inr h) = part old new text h

ended : {A : Type 0} (end : Result A Failure) (old new : Output) → ReportsEnd end old new → Grows old new
ended (Ok a) old new h = kept old new h
ended (Err f) old new h = message_grows old new (message_text f) h

module _ (old new old₁ new₁ : Output) where
  left : (keep : Bool) (p : ContactPlan) (x : _) → LeavesSession keep p x old₁ new₁ → Grows old₁ new₁
  left true p x (has, (h, flushed)) = all old₁ new₁ _ h
  left false p x h = kept old₁ new₁ h

  page : (keep : Bool) (p : ContactPlan) (report : List ℕ) (x : _) (end : Result (Unit {0}) Failure) → WritesPage keep p report x end old new old₁ new₁ → Grows old new × Grows old₁ new₁
  page keep p report x (Ok u) ((h, flushed), h₁) = (all old new report h, left keep p x h₁)
  page keep p report x (Err failure.Write) (inl (h, same)) = (part old new report h, kept old₁ new₁ same)
  page keep p report x (Err failure.Write) (inr (keeps, (h, flushed), h₁)) = (all old new report h, part old₁ new₁ _ h₁)
  page keep p report x (Err failure.NoMemory) (same, same₁) = (kept old new same, kept old₁ new₁ same₁)
  page keep p report x (Err f) h = absurd h

  first : (planned : Result TabledPlan PlanFault) (r : RouteRequest) (keep : Bool) (count : ℕ) (end : Result (Unit {0}) Failure) → WritesFirstPage planned r keep count end old new old₁ new₁ → Grows old new × Grows old₁ new₁
  first (Err fault) r keep count end (e, same, same₁) = (kept old new same, kept old₁ new₁ same₁)
  first (Ok p) r keep count end h = page keep p.plan _ _ end h

  next : (planned : Result TabledPlan PlanFault) (place : _) (keep : Bool) (count : ℕ) (end : Result (Unit {0}) Failure) → WritesNextPage planned place keep count end old new old₁ new₁ → Grows old new × Grows old₁ new₁
  next (Err fault) place keep count end (e, same, same₁) = (kept old new same, kept old₁ new₁ same₁)
  next (Ok p) (Err fault) keep count end (e, same, same₁) = (kept old new same, kept old₁ new₁ same₁)
  next (Ok p) (Ok s) keep count end h = page keep p.plan _ _ end h

module _ (old new : Output) where
  verified : (planned : Result TabledPlan PlanFault) (answer : _) (end : Result Bool Failure) → WritesAnswer planned answer end old new → Grows old new
  verified (Err fault) answer end (e, same) = kept old new same
  verified (Ok p) (Err fault) end (e, same) = kept old new same
  verified (Ok p) (Ok answer) (Ok placed) (e, (h, flushed)) = all old new _ h
  verified (Ok p) (Ok answer) (Err failure.Write) h = part old new _ h
  verified (Ok p) (Ok answer) (Err f) h = absurd h

  checked : (planned : Result TabledPlan PlanFault) (end : Result (Unit {0}) Failure) → WritesCheck planned end old new → Grows old new
  checked (Err fault) end (e, same) = kept old new same
  checked (Ok p) (Ok u) (h, flushed) = all old new _ h
  checked (Ok p) (Err failure.Write) h = part old new _ h
  checked (Ok p) (Err f) h = absurd h

  explained : (planned : Result TabledPlan PlanFault) (r : RouteRequest) (contacts : List ℕ) (end : Result Bool Failure) → WritesExplanation planned r contacts end old new → Grows old new
  explained (Err fault) r contacts end (e, same) = kept old new same
  explained (Ok p) r contacts (Ok answer) (e, (h, flushed)) = all old new _ h
  explained (Ok p) r contacts (Err failure.Write) h = part old new _ h
  explained (Ok p) r contacts (Err f) h = absurd h

  answered : (planned : Result TabledPlan PlanFault) (requested : _) (kind : AnswerKind) (end : Result (Unit {0}) Failure) → WritesAnswers planned requested kind end old new → Grows old new
  answered (Err fault) requested kind end (e, same) = kept old new same
  answered (Ok p) (Err fault) kind end (e, same) = kept old new same
  answered (Ok p) (Ok xs) kind (Ok u) (h, flushed) = all old new _ h
  answered (Ok p) (Ok xs) kind (Err failure.Write) h = part old new _ h
  answered (Ok p) (Ok xs) kind (Err failure.NoMemory) (h, flushed) = all old new _ h.written
  answered (Ok p) (Ok xs) kind (Err f) h = absurd h

  canonical : (planned : Result TabledPlan PlanFault) (end : Result (Unit {0}) Failure) → WritesCanonical planned end old new → Grows old new
  canonical (Err fault) end (e, same) = kept old new same
  canonical (Ok p) (Ok u) h = all old new _ h
  canonical (Ok p) (Err failure.Write) h = part old new _ h
  canonical (Ok p) (Err f) h = absurd h

with_value : {X : Type 0} {P : X → Type 0} {G : Type 0} (o : Option X) → IsSomeAnd o P → ((x : X) → P x → G) → G
with_value (Some x) h then = then x h
with_value None h then = absurd h

module _ (a : Asked) (old new : WritersSeen) (ends : Status) where
  both : {A : Type 0} {status : Result A Failure → Status} {Does : Result TabledPlan PlanFault → Result A Failure → Type 0}
      → RunsOver a.plan.now status Does old.message new.message ends
      → ((planned : Result TabledPlan PlanFault) (end : Result A Failure) → Does planned end → Grows old.report new.report × Grows old.session new.session) → Grow old new
  both h grows = let (report, session) = grows h.planned h.end h.does in record { report = report; session = session; message = ended h.end old.message new.message h.reports }

  one : {A : Type 0} {status : Result A Failure → Status} {Does : Result TabledPlan PlanFault → Result A Failure → Type 0}
      → RunsOver a.plan.now status Does old.message new.message ends × (new.session ≡ old.session)
      → ((planned : Result TabledPlan PlanFault) (end : Result A Failure) → Does planned end → Grows old.report new.report) → Grow old new
  one (h, same) grows = record { report = grows h.planned h.end h.does; session = kept old.session new.session same; message = ended h.end old.message new.message h.reports }

  stopped : (why : Failure) → StopsBefore why old new ends → Grow old new
  stopped why h = record { report = kept old.report new.report h.no_report; session = kept old.session new.session h.no_session; message = message_grows old.message new.message (message_text why) h.reports }

  commanded : (name : CommandName) (values : ValuesRead) → RunsCommand name a values old new ends → Grow old new
  commanded command.First values h = with_value values.request h (λ r h. with_value values.count h (λ count h. both h (λ planned end does. first old.report new.report old.session new.session planned r a.keep count end does)))
  commanded command.Next values h = with_value values.count h (λ count h. both h (λ planned end does. next old.report new.report old.session new.session planned _ a.keep count end does.writes))
  commanded command.Verify values h = one h (λ planned end does. verified old.report new.report planned does.answer end does.writes)
  commanded command.Check values h = one h (λ planned end does. checked old.report new.report planned end does)
  commanded command.Explain values h = with_value values.request h (λ r h. one h (λ planned end does. explained old.report new.report planned r values.contacts end does))
  commanded command.Many values h = with_value values.count h (λ count h. one h (λ planned end does. answered old.report new.report planned does.answer _ end does.writes))
  commanded command.Follow values h = one h (λ planned end does. answered old.report new.report planned does.answer _ end does.writes)

  read : (name : CommandName) (values : Result ValuesRead ValueFault) → RunsRead name a values old new ends → Grow old new
  read name (Ok values) h = commanded name values h
  read name (Err fault) h = stopped _ h

  pub grow : (run : Run) → EndsCall run a old new ends → Grow old new
  grow (Command name) (inl h) = stopped _ h
  grow (Command name) (inr h) = read name _ h
  grow Canonical (inl h) = stopped _ h
  grow Canonical (inr h) = one h (λ planned end does. canonical old.report new.report planned end does)

-- a buffer that was lent to a new writer ends with all bytes that it took put over it
pub put_grown : (old new : Buffer) (lent : ℕ) (room last : List ℕ)
    → Grows (buffer_output old.room.ghost_name old.before.bytes old.taken.bytes old.failures.count) (buffer_output new.room.ghost_name new.before.bytes new.taken.bytes new.failures.count)
    → old.room.ghost_name ≡ lent → old.before.bytes ≡ room → old.taken.bytes ≡ [] → (lent ≡ new.room.ghost_name → last ≡ new.room.now) → last ≡ put_over room new.taken.bytes
put_grown old new lent room last (bytes, takes) same before none ends =
    let (put, taken) = put_by_call old new bytes takes lent room last same before none ends in
    put ∙ ap (put_over room) (sym taken)
