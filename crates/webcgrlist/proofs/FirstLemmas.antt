-- What a done call `first` gives.
use Rattle.std.proofs.Common.{◌≡◌, ℕ, Bool, true, false, List, [], ◌++◌, Result, Ok, Err, Some, IsSomeAnd, inl, inr, append-nil, refl, sym, ap, subst, ◌∙◌}
use Rattle.sabr_model.specs.Devices.{Output}
use Rattle.sabr_model.specs.plan.Plan.{ContactPlan, TabledPlan}
use Rattle.sabr_model.specs.routes.Arrival.{RouteRequest}
use Rattle.sabr_plan.specs.PlanRead.{ReadsPlan}
use Rattle.sabr_plan.specs.Reading.{plan_of}
use Rattle.sabr_plan.specs.declared.fault.PlanFault.{PlanFault}
use Rattle.commands.specs.declared.command.CommandName.TheVariants as command
use Rattle.commands.specs.declared.failure.Failure.{Failure}
use Rattle.commands.specs.declared.failure.Status.{Status}
use Rattle.commands.specs.declared.failure.Status.TheVariants as status
use Rattle.commands.specs.texts.Messages.{number_of, status_at}
use Rattle.commands.specs.runs.SessionRuns.{WritesFirstPage, report_from}
use Rattle.commands.specs.words.Values.{ValuesRead, values_in}
use Rattle.commands.proofs.RunLemmas.RunsInTurn.{never_done}
use Rattle.webcgrlist.specs.declared.asked.Asked.{Asked}
use Rattle.webcgrlist.specs.declared.call.Run.TheVariants.{Command}
use Rattle.webcgrlist.specs.Answers.{IsPut, all_fit, host_status}
use Rattle.webcgrlist.specs.Asked.{values_asked}
use Rattle.webcgrlist.specs.Calls.{EndsCall, RunsRead}
use Rattle.webcgrlist.specs.FirstLists.{FirstLists}
use Rattle.webcgrlist.specs.Runs.{ReadsText, RunsFirst, WritersSeen, in_memory}

-- a text in memory of which a plan was read is that of the plan
plan_is_read : (text rest given : List ℕ) (ended : Bool) (p : TabledPlan) → ReadsPlan (in_memory text [] false) (Ok p) (in_memory rest given ended) → plan_of text true ≡ Ok p.plan
plan_is_read text rest given ended p reads = elim reads.told [
  | inl (end, fine, answer) ↦
      let all : text ≡ reads.given = reads.gives.1 ∙ ap (λ w. reads.given ++ w) end.1 ∙ append-nil reads.given in
      ap (λ w. plan_of w true) all ∙ answer
  | inr (inl broken) ↦ absurd broken
  | inr (inr refused) ↦ absurd refused
]

-- the number 0 is that of a run that is done, and whose texts fit
done_returned : (fit : Bool) (ended : Status) → 0 ≡ number_of (host_status fit ended) → (fit ≡ true) × (ended ≡ status.Done)
done_returned false ended e = absurd cc
done_returned true status.Done e = (refl, refl)
done_returned true status.No e = absurd cc
done_returned true status.Usage e = absurd cc
done_returned true status.Plan e = absurd cc
done_returned true status.Session e = absurd cc
done_returned true status.Io e = absurd cc
done_returned true status.Memory e = absurd cc

-- a run that is done wrote the report of the first page
report_written : (planned : Result TabledPlan PlanFault) (r : RouteRequest) (keep : Bool) (count : ℕ) (end : Result (Unit {0}) Failure) (old new old₁ new₁ : Output)
    → status_at end ≡ status.Done → old.taken ≡ [] → WritesFirstPage planned r keep count end old new old₁ new₁
    → (p : TabledPlan) × (planned ≡ Ok p) × (new.taken ≡ report_from p.plan r 0 count)
report_written planned r keep count (Err f) old new old₁ new₁ done none writes = absurd (never_done f done)
report_written (Err fault) r keep count (Ok u) old new old₁ new₁ done none writes = absurd (let e = writes.0 in cc)
report_written (Ok p) r keep count (Ok u) old new old₁ new₁ done none writes =
    (p, refl, writes.0.0.0.0 ∙ ap (λ w. w ++ report_from p.plan r 0 count) none)

module _ (a : Asked) (before after : WritersSeen) (ended : Status) (r : RouteRequest) (count : ℕ) (done : ended ≡ status.Done) (none : before.report.taken ≡ []) where
  listed : RunsFirst a r count before after ended → (p : ContactPlan) × (plan_of a.plan.now true ≡ Ok p) × (after.report.taken ≡ report_from p r 0 count)
  listed run =
      let (p, is, report) = report_written run.planned r a.keep count run.end before.report after.report before.session after.session (sym run.ends ∙ done) none run.does in
      let read = subst (λ w. ReadsText a.plan.now (λ old new. ReadsPlan old w new)) is run.reads in
      (p.plan, plan_is_read a.plan.now read.rest read.given read.ended p read.reads, report)

  read : (values : ValuesRead) → values.request ≡ Some r → values.count ≡ Some count → RunsRead command.First a (Ok values) before after ended
      → (p : ContactPlan) × (plan_of a.plan.now true ≡ Ok p) × (after.report.taken ≡ report_from p r 0 count)
  read values asked counted runs = listed
      (subst (λ o. IsSomeAnd o (λ n. RunsFirst a r n before after ended)) counted
      (subst (λ o. IsSomeAnd o (λ x. IsSomeAnd values.count (λ n. RunsFirst a x n before after ended))) asked runs))

  called : (values : ValuesRead) → values_in command.First (values_asked a) ≡ Ok values → values.request ≡ Some r → values.count ≡ Some count → EndsCall (Command command.First) a before after ended
      → (p : ContactPlan) × (plan_of a.plan.now true ≡ Ok p) × (after.report.taken ≡ report_from p r 0 count)
  called values given asked counted (inl stops) = absurd (let e = stops.ends in cc)
  called values given asked counted (inr runs) = read values asked counted (subst (λ w. RunsRead command.First a w before after ended) given runs)

pub first_lists : FirstLists
first_lists a old new values r count given asked counted answers =
    let (fit, done) = done_returned (all_fit new) answers.ended answers.returned in
    let w = answers.writes in
    let (p, is, report) = called a w.before w.after answers.ended r count done w.unwritten.report values given asked counted w.ends in
    (p, is, subst (λ text. IsPut text old.report.buffer.now new.report.buffer.now new.report.length) report w.report, fit)
