-- What a done call `first` gives, in the words of the definitions.
use Rattle.std.specs.Prelude.{◌≡◌, ℕ, true, IsTrue, Ok, Some}
use Rattle.sabr_model.specs.plan.Plan.{ContactPlan}
use Rattle.sabr_model.specs.routes.Arrival.{RouteRequest}
use Rattle.sabr_plan.specs.Reading.{plan_of}
use Rattle.commands.specs.declared.command.CommandName.TheVariants as command
use Rattle.commands.specs.runs.SessionRuns.{report_from}
use Rattle.commands.specs.words.Values.{ValuesRead, values_in}
use Rattle.webcgrlist.specs.declared.asked.Asked.{Asked}
use Rattle.webcgrlist.specs.declared.call.Run.TheVariants.{Command}
use Rattle.webcgrlist.specs.declared.outputs.Outputs.{Outputs}
use Rattle.webcgrlist.specs.Answers.{Answers, IsPut, all_fit}
use Rattle.webcgrlist.specs.Asked.{values_asked}

-- over accepted values: the text of the plan is that of a plan, the report is that of the first page over it, and each
-- text fits into its buffer
abbrev pub FirstLists : Type 0
FirstLists =
    (a : Asked) (old new : Outputs) (values : ValuesRead) (r : RouteRequest) (count : ℕ)
    → values_in command.First (values_asked a) ≡ Ok values → values.request ≡ Some r → values.count ≡ Some count
    → Answers (Command command.First) a old new 0
    → (p : ContactPlan) × (plan_of a.plan.now true ≡ Ok p) × IsPut (report_from p r 0 count) old.report.buffer.now new.report.buffer.now new.report.length × IsTrue (all_fit new)
