use Rattle.indexmap.proofs.CallerLemmas.{keys-with_value_at}
use Rattle.sabr_model.proofs.ListLemmas.Answered.{on_err}
use Rattle.sabr_model.proofs.PlanLemmas.TableSteps.{value_there, unique_kept, list_pushed, list_kept}
use Rattle.sabr_model.proofs.node_table.push_number.Goals as goal

pub returns-in_err-push-clause-err : goal.returns-in_err-push-clause-err
returns-in_err-push-clause-err g c =
    on_err c.from_residual.result
    (λ node q there. list_kept c.args.table.now c.args.index node c.in-Some.numbers.now c.push.new.self c.requires there c.in-Some.ensures.value c.in_err-push.ensures.items q)

pub returns-in_err-push-clause-nodes : goal.returns-in_err-push-clause-nodes
returns-in_err-push-clause-nodes g c = keys-with_value_at c.args.table.now c.args.index c.push.new.self

pub returns-in_err-push-clause-unique : goal.returns-in_err-push-clause-unique
returns-in_err-push-clause-unique g c = unique_kept c.args.table.now c.args.index c.push.new.self c.requires

pub returns-in_ok-push-clause-ok : goal.returns-in_ok-push-clause-ok
returns-in_ok-push-clause-ok g c = λ node q there.
    list_pushed c.args.table.now c.args.index node c.in-Some.numbers.now c.push.new.self c.requires there c.in-Some.ensures.value c.args.number c.in_ok-push.ensures.items q

pub returns-in_ok-push-clause-nodes : goal.returns-in_ok-push-clause-nodes
returns-in_ok-push-clause-nodes g c = keys-with_value_at c.args.table.now c.args.index c.push.new.self

pub returns-in_ok-push-clause-unique : goal.returns-in_ok-push-clause-unique
returns-in_ok-push-clause-unique g c = unique_kept c.args.table.now c.args.index c.push.new.self c.requires

pub returns-in_default-clause-ok : goal.returns-in_default-clause-ok
returns-in_default-clause-ok g c = λ node q there. absurd (value_there c.args.table.now.entries c.args.index node there c.in_default.ensures.value)
