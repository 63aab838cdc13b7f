use Rattle.std.specs.declared.option.Option.TheVariants.{Some}
use Rattle.indexmap.specs.IndexMap.{keys}
use Rattle.sabr_model.proofs.PlanLemmas.TableSteps.{found_at, new_at, new_places}
use Rattle.sabr_model.proofs.node_table.add_node.Goals as goal

pub returns-in-Some-clause-index : goal.returns-in-Some-clause-index
returns-in-Some-clause-index g c = found_at (keys c.args.table.now) c.args.node (Some c.in-Some.index) c.in-Some.ensures.index

pub returns-in_ok-insert-in-None-clause-index : goal.returns-in_ok-insert-in-None-clause-index
returns-in_ok-insert-in-None-clause-index g c = new_at c.args.table.now c.insert.new.self c.args.node _ c.in-None.ensures.found c.in_ok-insert-in-None.ensures.entries c.len-index.result c.len-index.ensures.len

pub returns-in_ok-insert-in-None-clause-places : goal.returns-in_ok-insert-in-None-clause-places
returns-in_ok-insert-in-None-clause-places g c = new_places c.args.table.now c.insert.new.self c.args.node _ c.in-None.ensures.found c.in_ok-insert-in-None.ensures.entries
