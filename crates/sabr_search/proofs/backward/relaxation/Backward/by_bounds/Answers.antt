use Rattle.std.proofs.Common.{◌≡◌, ◌≤◌, min, ap, sym, ◌∙◌, arith}
use Rattle.sabr_model.specs.routes.Arrival.{RouteRequest, cost}
use Rattle.sabr_search.proofs.WayLemmas.RoutesAndWays.{same_some}
use Rattle.sabr_search.proofs.BackwardLemmas.Relaxing.{over_bounds, left_before}
use Rattle.sabr_search.proofs.backward.relaxation.Backward.by_bounds.Goals as goal

pub returns-then-not-is_between : goal.returns-then-not-is_between
returns-then-not-is_between g c = λ s at n t b has step open' other since.
    let is : s ≡ record { sender = c.head-head.result.node; passes = c.head-head.ensures.0 } = same_some (sym at ∙ c.head-head.ensures.1) in
    absurd (other (rw is (c.is_between.ensures.closed c.if-not-is_between.true (rw is at open'))))

pub returns-then-head-at : goal.returns-then-head-at
returns-then-head-at g c = λ s at n t b has step open' other since.
    let task = c.args.self.now.task.now in
    let here = c.head-head.ensures in
    let head = c.head-head.result in
    let is : s ≡ record { sender = head.node; passes = here.0 } = same_some (sym at ∙ here.1) in
    let link = c.requires.senders.each c.args.place _ here.1 in
    let ended : head.bounds.latest_end ≤ task.request.at = omega (arith, c.at.ensures.value, ap (λ (r : RouteRequest). r.at) c.request.ensures, c.if-head-at.true) in
    absurd (omega (arith, since, left_before task c.requires.task head.node c.args.to.node here.0 head.bounds (link, here.2) task.request.at ended n t c.args.to.node b (rw is at has) (rw is at step)))

pub returns : goal.returns
returns g c = λ s at n t b has step open' other since.
    let task = c.args.self.now.task.now in
    let here = c.head-head.ensures in
    let head = c.head-head.result in
    let is : s ≡ record { sender = head.node; passes = here.0 } = same_some (sym at ∙ here.1) in
    let costs : c.cost-cost.result ≡ cost task.request.margin (min head.bounds.least_light 1000000) = c.cost-cost.ensures ∙ ap (cost task.request.margin) c.min.ensures in
    let link = c.requires.senders.each c.args.place _ here.1 in
    omega (arith, costs, over_bounds task c.requires.task head.node c.args.to.node here.0 head.bounds (link, here.2) n t b (rw is at has) (rw is at step))
