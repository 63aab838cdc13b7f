use Rattle.sabr_frontier.proofs.Names.{◌≡◌, ap, subst, ◌∙◌, Calls, GoOn, Searching, looks_since}
use Rattle.sabr_frontier.proofs.GivingLemmas.Sums.{none_summed, sum_goes_on, sum_since, without_none}
use Rattle.sabr_frontier.proofs.giving.searcher.Searcher.take_looks.Goals as goal

pub invariant_of-self : goal.invariant_of-self
invariant_of-self g c =
    let s = c.self.inside in
    (c.self.invariant.0, none_summed s.index.plan (g.B.BestOf.calls_of s.rest.finder) c.new-self-inside.result.calls c.new-self-inside.ensures)

pub returns-clause-sum : goal.returns-clause-sum
returns-clause-sum g c = subst (λ (a : Searching). c.self.inside.looks ≡ looks_since a.asked.before a.calls) c.self.view_is (sum_since c.self.invariant.1)

pub returns-clause-go_on : goal.returns-clause-go_on
returns-clause-go_on g c = subst (λ (a : Searching). GoOn a.asked.plan.plan a.asked.before a.calls) c.self.view_is (sum_goes_on c.self.invariant.1)

pub returns-clause-begun : goal.returns-clause-begun
returns-clause-begun g c =
    let s = c.self.inside in
    let calls = g.B.BestOf.calls_of s.rest.finder in
    ap (λ (before : Calls). record { plan = s.index; request = s.rest.request; before = before }) (without_none calls c.new-self-inside.result.calls c.new-self-inside.ensures)
    ∙ ap (λ (a : Searching). record a.asked { before = a.calls }) c.self.view_is

pub returns-clause-rest : goal.returns-clause-rest
returns-clause-rest g c = without_none (g.B.BestOf.calls_of c.self.inside.rest.finder) c.new-self-inside.result.calls c.new-self-inside.ensures
