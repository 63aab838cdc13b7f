use Rattle.std.proofs.Common.{◌≡◌, ◌-◌, ◌*◌, ◌≤◌, ◌++◌, Some, length, refl, ap, ◌∙◌, arith, length-append}
use Rattle.std.proofs.Math.Nat.{mul-le-mul_right}
use Rattle.sabr_model.specs.routes.Route.{until_of, entry_of}
use Rattle.sabr_search.proofs.AnswerLemmas.Answered.{answered_is_least, route_fits, route_few}
use Rattle.sabr_search.proofs.question.Question.route.Goals as goal

pub summary_from-summary-requires-clause-few : goal.summary_from-summary-requires-clause-few
summary_from-summary-requires-clause-few g c =
    let asked = c.args.self.now in
    let fits = route_fits asked.task.now asked.prefix.now c.requires.asked c.args.way.now c.args.looks.now c.requires.least.within c.requires.few in
    omega (arith, ap length c.deref.ensures.value, ap length c.in_ok-contacts.ensures, length-append asked.prefix.now c.args.way.now, fits)

pub returns-clause-sought : goal.returns-clause-sought
returns-clause-sought g c =
    let asked = c.args.self.now in
    let plan = asked.task.now.plan in
    let numbers = asked.prefix.now ++ c.args.way.now in
    rw (c.route.ensures, c.summary_from-summary.ensures.value, c.plan.ensures, c.deref.ensures.value, c.in_ok-contacts.ensures)
    (answered_is_least asked.task.now asked.prefix.now c.requires.asked (Some (record { contacts = numbers; delivery = c.args.delivery; until = until_of plan numbers; entry = entry_of plan numbers })) (c.args.way.now, refl, c.requires.least, record { until_is = refl; entry_is = refl }))

pub returns-clause-bound : goal.returns-clause-bound
returns-clause-bound g c =
    let asked = c.args.self.now in
    omega (arith, c.summary_from-summary.ensures.counted, ap length c.deref.ensures.value, ap length c.in_ok-contacts.ensures, length-append asked.prefix.now c.args.way.now, route_few asked.task.now asked.prefix.now c.requires.asked c.args.way.now c.args.delivery c.requires.least, c.requires.few)

pub returns-clause-cut : goal.returns-clause-cut
returns-clause-cut g c = λ few.
    let asked = c.args.self.now in
    let plan = asked.task.now.plan in
    let way = c.args.way.now in
    let contacts = ap length c.in_ok-contacts.ensures ∙ length-append asked.prefix.now way in
    let passes : 1 * length plan.contacts ≤ length way * length plan.contacts = mul-le-mul_right (length plan.contacts) c.requires.least.some in
    let hops : length c.in_ok-contacts.contacts.items - length asked.prefix.now ≡ length way = omega (arith, contacts) in
    rw c.route.ensures (λ most. rw hops (omega (arith, c.summary_from-summary.ensures.counted, ap length c.deref.ensures.value, contacts, few most, passes, route_few asked.task.now asked.prefix.now c.requires.asked way c.args.delivery c.requires.least)))
