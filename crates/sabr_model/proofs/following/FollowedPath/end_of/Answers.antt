use Rattle.sabr_model.proofs.ListLemmas.Names.{◌≡◌, ◌+◌, ◌++◌, ◌∷◌, [], ℕ, List, Some, take, get_or, sym, subst, ◌∙◌, arith, rules, take_all, take_more, fault_of, IsFollowedPath}
use Rattle.sabr_model.proofs.RouteLemmas.Follows.{ends_elsewhere, ends_there, fault_on}
use Rattle.sabr_model.proofs.following.FollowedPath.end_of.Goals as goal

pub loop-i-preserved : goal.loop-i-preserved
loop-i-preserved g c =
    let s = c.args.contacts.now in
    let i = c.loop-i.i in
    let more : take (i + 1) s ≡ take i s ++ get_or s i 0 ∷ [] = take_more s i 0 c.loop-i-test.true in
    rw more c.in_ok-go_on.ensures.path

pub returns-in_err-go_on-clause-fault : goal.returns-in_err-go_on-clause-fault
returns-in_err-go_on-clause-fault g c =
    let p = c.args.plan.now.plan in
    let r = c.args.request.now in
    let s = c.args.contacts.now in
    let f = c.in_err-go_on.field-0.0 in
    let is : fault_of p r s ≡ Some f = fault_on p r s c.loop-i.i f c.loop-i-test.true c.loop-i.invariant.path c.in_err-go_on.ensures.err in
    search rules

pub returns-then-self-to-clause-fault : goal.returns-then-self-to-clause-fault
returns-then-self-to-clause-fault g c =
    let s = c.args.contacts.now in
    let path = subst (λ (t : List ℕ). IsFollowedPath c.args.plan.now c.args.request.now t c.loop-i.self) (take_all c.loop-i.i s c.loop-i-test.false) c.loop-i.invariant in
    ends_elsewhere c.args.plan.now.plan c.args.request.now s c.loop-i.self.here (omega (arith, c.requires.longer)) path.path path.reached (λ e. c.if-self-to.true (e ∙ sym c.to.ensures.value))

pub returns-clause-route : goal.returns-clause-route
returns-clause-route g c =
    let s = c.args.contacts.now in
    let path = subst (λ (t : List ℕ). IsFollowedPath c.args.plan.now c.args.request.now t c.loop-i.self) (take_all c.loop-i.i s c.loop-i-test.false) c.loop-i.invariant in
    ends_there c.args.plan.now.plan c.args.request.now s c.loop-i.self.here (omega (arith, c.requires.longer)) path.path path.reached (c.if-self-to.false ∙ c.to.ensures.value)
