use Rattle.std.proofs.Common.{◌≡◌, length, replicate, ap, sym, ◌∙◌, arith}
use Rattle.sabr_search.proofs.WayLemmas.EarliestSeconds.{arrivals_since, filled}
use Rattle.std.specs.Option.{option_map}
use Rattle.sabr_model.specs.routes.Record.{record_of}
use Rattle.sabr_model.specs.plan.Table.{node_count}
use Rattle.sabr_search.specs.questions.Task.{SearchTask, IsTask, IsBehind, task_of}
use Rattle.sabr_index.specs.Looks.{looks_taken}
use Rattle.sabr_search.proofs.WayLemmas.Prefixes.{prefix_facts}
use Rattle.sabr_search.proofs.WayLemmas.Least.{none_is}
use Rattle.sabr_search.proofs.AnswerLemmas.Law.{contacts_few, prefix_few}
use Rattle.sabr_search.proofs.WayLemmas.Shortness.{entered_looks}
use Rattle.sabr_search.proofs.layered.Layered.find.Goals as goal

pub returns-in_err-stop-clause-bound : goal.returns-in_err-stop-clause-bound
returns-in_err-stop-clause-bound g c =
    let prefix_path = rw c.in-Some.is at c.in_ok-prefix_path.ensures.some in
    entered_looks c.args.index.now c.args.request.now c.args.prefix.now prefix_path.tabled (prefix_facts c.args.index.now.plan c.args.request.now c.args.prefix.now c.requires.fits) (node_count c.args.index.now.plan.contacts) (looks_taken c.go.new.looks) prefix_path.nodes (omega (arith, c.go.ensures.looks, c.requires.few))

pub returns-in_err-resize-clause-bound : goal.returns-in_err-resize-clause-bound
returns-in_err-resize-clause-bound g c =
    let prefix_path = rw c.in-Some.is at c.in_ok-prefix_path.ensures.some in
    entered_looks c.args.index.now c.args.request.now c.args.prefix.now prefix_path.tabled (prefix_facts c.args.index.now.plan c.args.request.now c.args.prefix.now c.requires.fits) (node_count c.args.index.now.plan.contacts) (looks_taken c.go.new.looks) prefix_path.nodes (omega (arith, c.go.ensures.looks, c.requires.few))

pub returns-in_default-clause-least : goal.returns-in_default-clause-least
returns-in_default-clause-least g c =
    let p = c.args.index.now.plan in
    let r = c.args.request.now in
    let none = rw c.in_default.is at c.in_ok-prefix_path.ensures.none in
    sym (ap (option_map (record_of p r)) (none_is p r c.args.prefix.now c.args.excluded.numbers.now (c.at_source.ensures.plan) (λ m route on. none m route)))

pub best_after-requires-clause-asked : goal.best_after-requires-clause-asked
best_after-requires-clause-asked g c =
    let found = c.in_ok-stop.ensures.entered in
    let both = found c.args.excluded.numbers.now in
    rw c.new-task.ensures (record {
      task_is = both.0;
      behind = both.1;
      fits = c.requires.fits;
    })

pub best_after-requires-clause-few : goal.best_after-requires-clause-few
best_after-requires-clause-few g c =
    let facts = prefix_facts c.args.index.now.plan c.args.request.now c.args.prefix.now c.requires.fits in
    rw (c.new-task.ensures) (omega (arith, c.go.ensures.looks, c.requires.few, prefix_few c.args.index.now.plan c.args.request.now c.args.prefix.now facts))

pub best_after-requires-clause-arrivals : goal.best_after-requires-clause-arrivals
best_after-requires-clause-arrivals g c =
    let p = c.args.index.now in
    let r = c.args.request.now in
    let task : SearchTask = task_of p r c.go.new.self.forbidden c.args.excluded.numbers.now c.in_ok-stop.stop.node c.in_ok-stop.stop.at c.go.new.self.goal in
    let found = c.in_ok-stop.ensures.entered in
    let both : IsTask task × IsBehind task c.args.prefix.now = found c.args.excluded.numbers.now in
    let cleared = c.clear.ensures.items in
    let at : c.at.result ≡ task.at = c.at.ensures ∙ ap (λ (t : SearchTask). t.at) c.new-task.ensures in
    let n_is : c.nodes.result ≡ length task.forbidden = omega (arith, both.0.as_many, (c.nodes.ensures.table)) in
    let filled : c.resize.new.self.items ≡ replicate c.nodes.result task.at = filled _ _ c.at.result _ _ cleared (omega (arith, ap length cleared)) c.in_ok-resize.ensures.items ∙ ap (replicate c.nodes.result) at in
    rw (c.new-task.ensures, filled) (arrivals_since task both.0 c.nodes.result n_is)

pub go-requires-clause-few : goal.go-requires-clause-few
go-requires-clause-few g c =
    let p = c.args.index.now.plan in
    let facts = prefix_facts p c.args.request.now c.args.prefix.now c.requires.fits in
    omega (arith, c.requires.few, contacts_few p (c.at_source.ensures.plan), prefix_few p c.args.request.now c.args.prefix.now facts)
