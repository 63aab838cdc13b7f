use Rattle.std.proofs.Common.{arith}
use Rattle.sabr_model.proofs.RouteLemmas.Paths.{path_facts, route_is_path}
use Rattle.sabr_frontier.proofs.giving.searcher.Searcher.goes_otherwise.Goals as goal

pub invariant_of-self : goal.invariant_of-self
invariant_of-self g c = (c.goes_otherwise.ensures.cache, c.self.invariant.1)

-- a route takes no more looks than one of as many hops as the request allows
pub goes_otherwise-requires-clause-few : goal.goes_otherwise-requires-clause-few
goes_otherwise-requires-clause-few g c =
    let a = c.args.self.now.asked in
    let within = (path_facts a.plan.plan a.request c.args.route.now (route_is_path a.plan.plan a.request c.args.route.now c.requires.route)).within in
    omega (arith, within, c.requires.few)

pub returns-clause-most : goal.returns-clause-most
returns-clause-most g c =
    let a = c.args.self.now.asked in
    let within = (path_facts a.plan.plan a.request c.args.route.now (route_is_path a.plan.plan a.request c.args.route.now c.requires.route)).within in
    omega (arith, within, c.goes_otherwise.ensures.most)
