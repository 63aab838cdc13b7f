use Rattle.sabr_frontier.proofs.Names.{◌≤◌, ap, sym, subst, ◌∙◌, unwrap_or, IsPlan, TabledPlan, IsSought, IsDecided, Searching, best_for, call_looks, Calls, with_call}
use Rattle.sabr_frontier.proofs.GivingLemmas.Sums.{same_before, sum_on}
use Rattle.sabr_frontier.proofs.TreeLemmas.Floors.{found_by_best}
use Rattle.sabr_frontier.proofs.giving.searcher.Searcher.find_best.Goals as goal

pub returns-clause-best : goal.returns-clause-best
returns-clause-best g c =
    let p = c.self.inside.index.plan in
    let r = c.self.inside.rest.request in
    let q = c.args.prefix.now in
    let X = c.args.excluded.now in
    let sought = c.in_ok-sought.sought in
    let bound = c.unwrap_or.ensures ∙ ap (unwrap_or c.args.bound) c.none.ensures in
    let good : IsPlan p = subst (λ (t : TabledPlan). IsPlan t.plan) c.plan.ensures c.rules_hold.ensures in
    c.up_to.ensures
    ∙ found_by_best p r good c.args.bound q X sought (subst (λ b. IsSought p r q X b sought) bound c.in_ok-sought.ensures.sought) (subst (λ b. IsDecided b sought) bound c.in_ok-sought.ensures.decided)
    ∙ ap (λ (a : Searching). best_for a.asked c.args.bound q X) c.self.view_is

pub invariant_of-self : goal.invariant_of-self
invariant_of-self g c =
    let s = c.self.inside in
    let called = c.best_up_to-found.ensures.called ∙ ap (with_call (g.B.BestOf.calls_of s.rest.finder)) (sym c.looks-looks.ensures) in
    let few = subst (λ n. n ≤ call_looks s.index.plan) (sym c.looks-looks.ensures) c.best_up_to-found.ensures.bound in
    (c.best_up_to-found.ensures.cache, sum_on _ _ _ _ _ called c.add.ensures s.index.plan s.looks c.saturating_add-self-inside.result c.self.invariant.1 few c.saturating_add-self-inside.ensures)

pub returns-in_err-sought-clause-same : goal.returns-in_err-sought-clause-same
returns-in_err-sought-clause-same g c =
    let s = c.self.inside in
    let called = c.best_up_to-found.ensures.called ∙ ap (with_call (g.B.BestOf.calls_of s.rest.finder)) (sym c.looks-looks.ensures) in
    ap (λ (before : Calls). record { plan = s.index; request = s.rest.request; before = before }) (same_before _ _ _ _ _ called c.add.ensures) ∙ ap (λ (a : Searching). a.asked) c.self.view_is

pub returns-clause-same : goal.returns-clause-same
returns-clause-same g c =
    let s = c.self.inside in
    let called = c.best_up_to-found.ensures.called ∙ ap (with_call (g.B.BestOf.calls_of s.rest.finder)) (sym c.looks-looks.ensures) in
    ap (λ (before : Calls). record { plan = s.index; request = s.rest.request; before = before }) (same_before _ _ _ _ _ called c.add.ensures) ∙ ap (λ (a : Searching). a.asked) c.self.view_is
