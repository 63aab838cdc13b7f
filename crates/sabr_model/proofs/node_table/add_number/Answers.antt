use Rattle.std.proofs.Common.{ap, ◌∙◌}
use Rattle.std.specs.Prelude.{slice_get}
use Rattle.sabr_model.proofs.ListLemmas.Answered.{on_err}
use Rattle.std.specs.declared.option.Option.TheVariants.{Some}
use Rattle.indexmap.specs.IndexMap.{keys}
use Rattle.sabr_model.proofs.PlanLemmas.TableSteps.{found_at, new_at, new_places}
use Rattle.sabr_model.proofs.node_table.add_number.Goals as goal

pub returns-in_err-push_number-in-Some-clause-err : goal.returns-in_err-push_number-in-Some-clause-err
returns-in_err-push_number-in-Some-clause-err g c =
    on_err c.from_residual.result (λ q. c.in_err-push_number-in-Some.ensures.err c.args.node q (found_at (keys c.args.table.now) c.args.node (Some c.in-Some.index) c.in-Some.ensures.index))

pub returns-in_ok-push_number-in-Some-clause-ok : goal.returns-in_ok-push_number-in-Some-clause-ok
returns-in_ok-push_number-in-Some-clause-ok g c = λ q.
    c.in_ok-push_number-in-Some.ensures.ok c.args.node q (found_at (keys c.args.table.now) c.args.node (Some c.in-Some.index) c.in-Some.ensures.index)

pub returns-in_ok-push_number-in-Some-clause-index : goal.returns-in_ok-push_number-in-Some-clause-index
returns-in_ok-push_number-in-Some-clause-index g c =
    ap (λ ks. slice_get ks c.in-Some.index) c.push_number.ensures.nodes ∙ (found_at (keys c.args.table.now) c.args.node (Some c.in-Some.index) c.in-Some.ensures.index)

pub returns-in_ok-insert-in-None-clause-index : goal.returns-in_ok-insert-in-None-clause-index
returns-in_ok-insert-in-None-clause-index g c = new_at c.args.table.now c.insert.new.self c.args.node _ c.in-None.ensures.found c.in_ok-insert-in-None.ensures.entries c.len-index.result c.len-index.ensures.len

pub returns-in_ok-insert-in-None-clause-places : goal.returns-in_ok-insert-in-None-clause-places
returns-in_ok-insert-in-None-clause-places g c = new_places c.args.table.now c.insert.new.self c.args.node _ c.in-None.ensures.found c.in_ok-insert-in-None.ensures.entries
