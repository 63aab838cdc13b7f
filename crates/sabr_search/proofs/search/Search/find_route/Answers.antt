use Rattle.std.proofs.Common.{arith}
use Rattle.sabr_search.proofs.WayLemmas.Prefixes.{prefix_facts}
use Rattle.sabr_search.proofs.AnswerLemmas.Answered.{of_request, stop_of, soon_after, left_free, layers_within, passes_within, search_fits}
use Rattle.sabr_search.proofs.AnswerLemmas.CachedAnswers.{found_at, holds_at}
use Rattle.sabr_search.proofs.search.Search.find_route.Goals as goal

pub above-requires-clause-beyond : goal.above-requires-clause-beyond
above-requires-clause-beyond g c =
    rw c.in-Beyond.is at (found_at c.args.asked.now c.requires.asked c.find_early-found.new.memory.answers.slots.items c.find_early-found.ensures.memory.2.0 c.in-Ok-Some-Cached.place (rw c.in-Ok-Some-Cached.field-0-0-is at (rw c.in-Ok-Some-Cached.field-0-is at (rw c.in-Ok-Some-Cached.is at c.find_early-found.ensures.early))) c.index-answer.result.now c.index-answer.ensures)

pub above-requires-clause-enough : goal.above-requires-clause-enough
above-requires-clause-enough g c =
    rw c.in-Beyond.is at (holds_at c.args.asked.now c.requires.asked c.find_early-found.new.memory.answers.slots.items c.find_early-found.ensures.memory.2.0 c.in-Ok-Some-Cached.place (rw c.in-Ok-Some-Cached.field-0-0-is at (rw c.in-Ok-Some-Cached.field-0-is at (rw c.in-Ok-Some-Cached.is at c.find_early-found.ensures.early))) c.index-answer.result.now c.index-answer.ensures)

pub returns-in-Beyond-clause-bound : goal.returns-in-Beyond-clause-bound
returns-in-Beyond-clause-bound g c = omega (arith, c.put_back.ensures, c.set_aside-aside.ensures.aside, c.one_scan.ensures.value, passes_within c.args.asked.now.task.now c.args.asked.now.prefix.now c.requires.asked)

pub returns-in-Err-NoMemory-clause-bound : goal.returns-in-Err-NoMemory-clause-bound
returns-in-Err-NoMemory-clause-bound g c = omega (arith, c.put_back.ensures, c.set_aside-aside.ensures.aside, c.one_scan.ensures.value, passes_within c.args.asked.now.task.now c.args.asked.now.prefix.now c.requires.asked)

pub route-requires-clause-few : goal.route-requires-clause-few
route-requires-clause-few g c = omega (arith, c.put_back.ensures, c.set_aside-aside.ensures.aside, c.one_scan.ensures.value, passes_within c.args.asked.now.task.now c.args.asked.now.prefix.now c.requires.asked)

pub route-requires-clause-least : goal.route-requires-clause-least
route-requires-clause-least g c =
    rw c.way.ensures (rw c.in-Way.is at (found_at c.args.asked.now c.requires.asked c.find_early-found.new.memory.answers.slots.items c.find_early-found.ensures.memory.2.0 c.in-Ok-Some-Cached.place (rw c.in-Ok-Some-Cached.field-0-0-is at (rw c.in-Ok-Some-Cached.field-0-is at (rw c.in-Ok-Some-Cached.is at c.find_early-found.ensures.early))) c.index-answer.result.now c.index-answer.ensures))

pub answer-requires-clause-few : goal.answer-requires-clause-few
answer-requires-clause-few g c = omega (arith, c.put_back.ensures, c.set_aside-aside.ensures.aside, c.one_scan.ensures.value, passes_within c.args.asked.now.task.now c.args.asked.now.prefix.now c.requires.asked)

pub run-requires-clause-request : goal.run-requires-clause-request
run-requires-clause-request g c = of_request c.args.asked.now.task.now c.args.asked.now.prefix.now c.requires.asked.behind

pub run-requires-clause-soon : goal.run-requires-clause-soon
run-requires-clause-soon g c =
    let task = c.args.asked.now.task.now in
    let prefix = c.args.asked.now.prefix.now in
    let behind = c.requires.asked.behind in
    soon_after task prefix (of_request task prefix behind) (prefix_facts task.plan task.request prefix c.requires.asked.fits) (stop_of task prefix behind) _ c.find_early-found.ensures.memory.0.soon

-- it would stop only for want of looks
pub unreachable-requires : goal.unreachable-requires
unreachable-requires g c =
    let few = rw c.in-Err-NoLooks.field-0-is at (rw c.in-Err-NoLooks.is at c.run.ensures.stops) in
    omega (arith, few, c.put_back.ensures, c.set_aside-aside.ensures.aside, c.one_scan.ensures.value, search_fits c.args.asked.now.task.now c.args.asked.now.prefix.now c.requires.asked)

pub returns-clause-cut : goal.returns-clause-cut
returns-clause-cut g c =
    let task = c.args.asked.now.task.now in
    let cut = rw c.in-Ok.is at c.run.ensures.cut in
    c.in_ok-answer.ensures.cut (λ most. omega (arith, cut (left_free task c.args.asked.now.prefix.now c.requires.asked most), c.put_back.ensures, c.set_aside-aside.ensures.aside, c.one_scan.ensures.value))

pub returns-in_err-answer-clause-memory : goal.returns-in_err-answer-clause-memory
returns-in_err-answer-clause-memory g c = c.count.ensures _ _ c.find_early-found.ensures.memory

pub learn-requires-clause-cached : goal.learn-requires-clause-cached
learn-requires-clause-cached g c = (c.count.ensures _ _ c.find_early-found.ensures.memory).2

pub returns-clause-memory : goal.returns-clause-memory
returns-clause-memory g c =
    let memory = c.count.ensures _ _ c.find_early-found.ensures.memory in
    (memory.0, memory.1, c.learn.ensures.cached)

pub returns-in-Err-NoMemory-run-clause-bound : goal.returns-in-Err-NoMemory-run-clause-bound
returns-in-Err-NoMemory-run-clause-bound g c = omega (arith, c.run.ensures.counted, c.put_back.ensures, c.set_aside-aside.ensures.aside, c.one_scan.ensures.value, layers_within c.args.asked.now.task.now c.args.asked.now.prefix.now c.requires.asked)

pub answer-requires-2-clause-few : goal.answer-requires-2-clause-few
answer-requires-2-clause-few g c = omega (arith, c.run.ensures.counted, c.put_back.ensures, c.set_aside-aside.ensures.aside, c.one_scan.ensures.value, layers_within c.args.asked.now.task.now c.args.asked.now.prefix.now c.requires.asked)
