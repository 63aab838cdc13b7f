use Rattle.std.proofs.Common.{arith}
use Rattle.sabr_search.proofs.AnswerLemmas.Law.{contacts_few, prefix_few}
use Rattle.sabr_search.proofs.WayLemmas.Detours.{front_of_route}
use Rattle.sabr_search.proofs.WayLemmas.Prefixes.{prefix_facts}
use Rattle.sabr_search.proofs.search_cache.SearchCache.goes_otherwise.Goals as goal

pub take_many-requires : goal.take_many-requires
take_many-requires g c =
    let front = front_of_route c.args.index.now.plan c.args.request.now c.args.route.now c.in-Some.front.now c.in-Some.last.now (c.in-Some.ensures {u = tt}).cases.0 c.requires.route in
    omega (arith, c.requires.few, front.2)

pub go-requires-clause-fits : goal.go-requires-clause-fits
go-requires-clause-fits g c =
    let front = front_of_route c.args.index.now.plan c.args.request.now c.args.route.now c.in-Some.front.now c.in-Some.last.now (c.in-Some.ensures {u = tt}).cases.0 c.requires.route in
    rw c.counted-plan.ensures front.0

pub go-requires-clause-few : goal.go-requires-clause-few
go-requires-clause-few g c =
    let p = c.args.index.now.plan in
    let r = c.args.request.now in
    let s = c.in-Some.front.now in
    let front = front_of_route p r c.args.route.now s c.in-Some.last.now (c.in-Some.ensures {u = tt}).cases.0 c.requires.route in
    omega (arith, c.many.ensures, contacts_few p (rw c.counted-plan.ensures at c.prepare_path.ensures.plan), prefix_few p r s (prefix_facts p r s front.0))

pub ends_otherwise-requires-clause-end : goal.ends_otherwise-requires-clause-end
ends_otherwise-requires-clause-end g c =
    let p = c.args.index.now in
    let s = c.in-Some.front.now in
    let front = front_of_route p.plan c.args.request.now c.args.route.now s c.in-Some.last.now (c.in-Some.ensures {u = tt}).cases.0 c.requires.route in
    let both = c.in-Ok.ensures.entered c.of.result.numbers.now in
    rw (c.of-end.ensures.task, c.of-end.ensures.front, c.new-task.ensures) (record {
      asked = record { task_is = both.0; behind = both.1; fits = rw c.counted-plan.ensures front.0 };
      room = front.1;
    })

pub returns-clause-yes : goal.returns-clause-yes
returns-clause-yes g c so = record {
  front = c.in-Some.front.now;
  last = c.in-Some.last.now;
  numbers_are = (c.in-Some.ensures {u = tt}).cases.0;
  way = rw (c.of-end.ensures.task, c.of-end.ensures.front, c.of-end.ensures.last, c.new-task.ensures, c.of.ensures, c.counted-plan.ensures) at (c.ends_otherwise.ensures.yes so);
}
