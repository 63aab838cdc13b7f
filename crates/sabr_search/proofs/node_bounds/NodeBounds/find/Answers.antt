use Rattle.std.proofs.Common.{arith}
use Rattle.std.specs.Prelude.{IfOk, IfSome}
use Rattle.std.specs.Result.{result_ok, result_unwrap_or}
use Rattle.std.specs.declared.result.Result.{Result}
use Rattle.std.specs.declared.result.Result.TheVariants.{Ok, Err}
use Rattle.sabr_search.specs.questions.FirstSteps.{tabled_of}
use Rattle.sabr_search.specs.questions.Task.{never}
use Rattle.sabr_search.specs.layers.NodeBounds.{AreCostsFor, AreDeadlinesFor, AreSoonFor}
use Rattle.sabr_search.proofs.AnswerLemmas.Answered.{none_soon}
use Rattle.sabr_search.proofs.BackwardLemmas.Relaxing.{no_costs, none_late, whole_task}
use Rattle.sabr_search.proofs.node_bounds.NodeBounds.find.Goals as goal

-- what holds of what was found, and of an empty list, holds of what is known
known_is : {V E : Type 0} (found : Result V E) (P : V → Type 0) (empty : V) → IfOk found P → P empty → P (result_unwrap_or found empty)
known_is (Ok v) P empty is none = is
known_is (Err e) P empty is none = none

-- what holds of what was found holds of the option
ok_is : {V E : Type 0} (found : Result V E) (P : V → Type 0) → IfOk found P → IfSome (result_ok found) P
ok_is (Ok v) P is = is
ok_is (Err e) P is = tt

pub latest_by-requires : goal.latest_by-requires
latest_by-requires g c = record { whole = whole_task _ c.requires.asked.task_is c.requires.asked.behind c.requires.none }

pub latest_by-requires-2 : goal.latest_by-requires-2
latest_by-requires-2 g c = record { whole = whole_task _ c.requires.asked.task_is c.requires.asked.behind c.requires.none }

pub costs_of-requires : goal.costs_of-requires
costs_of-requires g c = record { whole = whole_task _ c.requires.asked.task_is c.requires.asked.behind c.requires.none }

pub soonest_of-requires : goal.soonest_of-requires
soonest_of-requires g c = record {
  whole = whole_task _ c.requires.asked.task_is c.requires.asked.behind c.requires.none;
  source = c.requires.asked.behind;
  deadline = rw (c.deref.ensures.value, c.unwrap_or-deadline.ensures) (known_is c.latest_by-2.result (λ v. AreDeadlinesFor (tabled_of c.args.task.now) c.args.task.now.request never v.items) _ c.latest_by-2.ensures.deadline (none_late (tabled_of c.args.task.now) c.args.task.now.request never _ (omega arith) c.new.ensures.items));
}

pub returns-in-Some : goal.returns-in-Some
returns-in-Some g c =
    let was = c.requires.node_bounds in
    record { deadline = was.deadline; deadline_until = rw c.ok.ensures.value (ok_is c.latest_by.result _ c.latest_by.ensures.deadline); costs = was.costs; soon = was.soon }

pub returns : goal.returns
returns g c = record {
  deadline = rw c.unwrap_or-deadline.ensures (known_is c.latest_by-2.result (λ v. AreDeadlinesFor (tabled_of c.args.task.now) c.args.task.now.request never v.items) _ c.latest_by-2.ensures.deadline (none_late (tabled_of c.args.task.now) c.args.task.now.request never _ (omega arith) c.new.ensures.items));
  deadline_until = tt;
  costs = rw c.unwrap_or-costs.ensures (known_is c.costs_of.result (λ v. AreCostsFor (tabled_of c.args.task.now) c.args.task.now.request v.0.items) _ c.costs_of.ensures.costs (no_costs (tabled_of c.args.task.now) c.args.task.now.request _ c.new-3.ensures.items));
  soon = rw c.unwrap_or-soon.ensures (known_is c.soonest_of.result (λ v. AreSoonFor (tabled_of c.args.task.now) c.args.task.now.request v.items) _ c.soonest_of.ensures.soon (none_soon (tabled_of c.args.task.now) c.args.task.now.request _ c.new-2.ensures.items));
}
