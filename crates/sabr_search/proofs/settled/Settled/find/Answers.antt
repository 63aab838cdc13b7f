use Rattle.std.proofs.Common.{◌+◌, ◌*◌, ◌≤◌, length, sym, subst, ap, arith}
use Rattle.std.specs.Option.{option_map}
use Rattle.sabr_model.specs.routes.Record.{record_of}
use Rattle.sabr_model.specs.plan.Table.{node_count}
use Rattle.sabr_search.specs.questions.PrefixPath.{IsPrefixPath}
use Rattle.sabr_index.specs.Looks.{looks_taken}
use Rattle.sabr_search.proofs.WayLemmas.Prefixes.{prefix_facts}
use Rattle.sabr_search.proofs.WayLemmas.Least.{none_is}
use Rattle.sabr_search.proofs.AnswerLemmas.Law.{contacts_few, prefix_few}
use Rattle.sabr_search.proofs.AnswerLemmas.Answered.{floor_of_ways}
use Rattle.sabr_search.proofs.WayLemmas.Shortness.{entered_looks}
use Rattle.sabr_search.proofs.settled.Settled.find.Goals as goal

pub returns-in_default-clause-sought : goal.returns-in_default-clause-sought
returns-in_default-clause-sought g c =
    let p = c.args.index.now.plan in
    let r = c.args.request.now in
    let none = rw (sym c.as_mut.ensures.value, c.in_default.is) at c.in_ok-prepare_path.ensures.none in
    sym (ap (option_map (record_of p r)) (none_is p r c.args.part.prefix.now c.args.part.excluded.numbers.now c.prepare_path.ensures.plan (λ m route on. none m route)))

pub go-requires-clause-few : goal.go-requires-clause-few
go-requires-clause-few g c =
    let p = c.args.index.now.plan in
    let facts = prefix_facts p c.args.request.now c.args.part.prefix.now c.requires.fits in
    omega (arith, c.requires.few, contacts_few p c.prepare_path.ensures.plan, prefix_few p c.args.request.now c.args.part.prefix.now facts)

pub returns-in_default-go-clause-bound : goal.returns-in_default-go-clause-bound
returns-in_default-go-clause-bound g c =
    let prefix_path = rw (sym c.as_mut.ensures.value, c.in-Some.is) at c.prepare_path.ensures.cache.0 in
    entered_looks c.args.index.now c.args.request.now c.args.part.prefix.now prefix_path.tabled (prefix_facts c.args.index.now.plan c.args.request.now c.args.part.prefix.now c.requires.fits) (node_count c.args.index.now.plan.contacts) (looks_taken c.go.new.looks) prefix_path.nodes (omega (arith, c.go.ensures.looks, c.requires.few))

pub find_route-requires-clause-asked : goal.find_route-requires-clause-asked
find_route-requires-clause-asked g c =
    let both = c.in-Ok.ensures.entered c.args.part.excluded.numbers.now in
    rw (c.of-asked.ensures.task, c.of-asked.ensures.prefix, c.new-task.ensures) (record {
      task_is = both.0;
      behind = both.1;
      fits = c.requires.fits;
    })

pub find_route-requires-clause-summary : goal.find_route-requires-clause-summary
find_route-requires-clause-summary g c = rw (c.of-asked.ensures.summary, c.of-asked.ensures.task, c.of-asked.ensures.prefix, c.new-task.ensures) (c.in-Ok.ensures.summary)

pub find_route-requires-clause-floor : goal.find_route-requires-clause-floor
find_route-requires-clause-floor g c =
    let both = c.in-Ok.ensures.entered c.args.part.excluded.numbers.now in
    rw (c.of-asked.ensures.task, c.of-asked.ensures.prefix, c.of-asked.ensures.floor, c.new-task.ensures) (floor_of_ways _ c.args.part.prefix.now (record {
      task_is = both.0;
      behind = both.1;
      fits = c.requires.fits;
    }) c.args.part.floor c.requires.floor)

pub find_route-requires-clause-few : goal.find_route-requires-clause-few
find_route-requires-clause-few g c =
    let facts = prefix_facts c.args.index.now.plan c.args.request.now c.args.part.prefix.now c.requires.fits in
    rw (c.of-asked.ensures.task, c.new-task.ensures) (omega (arith, c.go.ensures.looks, c.requires.few, prefix_few c.args.index.now.plan c.args.request.now c.args.part.prefix.now facts))

pub find_route-requires-clause-memory : goal.find_route-requires-clause-memory
find_route-requires-clause-memory g c = rw (c.of-asked.ensures.task, c.new-task.ensures) c.prepare_path.ensures.cache.1

pub returns-clause-cache : goal.returns-clause-cache
returns-clause-cache g c = (c.in-Ok.ensures.prefix_path, rw (c.of-asked.ensures.task, c.new-task.ensures) at c.find_route.ensures.memory)

pub returns-clause-sought : goal.returns-clause-sought
returns-clause-sought g c = rw (c.of-asked.ensures.task, c.of-asked.ensures.prefix, c.of-asked.ensures.bound, c.new-task.ensures) at c.find_route.ensures.sought

pub returns-clause-cut : goal.returns-clause-cut
returns-clause-cut g c = rw (c.of-asked.ensures.task, c.of-asked.ensures.prefix, c.of-asked.ensures.bound, c.new-task.ensures) at c.find_route.ensures.cut

pub returns-clause-bound : goal.returns-clause-bound
returns-clause-bound g c =
    let prefix_path : IsPrefixPath c.args.index.now c.args.request.now c.go.new.self = (c.in-Ok.ensures.prefix_path) in
    subst (λ n. looks_taken c.find_route.new.looks ≤ (3 * n + 1) * length c.args.index.now.plan.contacts) prefix_path.nodes (rw (c.of-asked.ensures.task, c.new-task.ensures) at c.find_route.ensures.bound)
