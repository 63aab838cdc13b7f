use Rattle.std.proofs.Common.{◌≡◌, Some, length, sym, subst, ◌∙◌}
use Rattle.std.specs.Prelude.{IsTrue}
use Rattle.sabr_model.specs.declared.fault.HopFault.TheVariants.{WrongEnd}
use Rattle.sabr_model.specs.routes.Fault.{fault_of}
use Rattle.sabr_model.specs.routes.Route.{is_route}
use Rattle.sabr_session.specs.Hops.{Followed}
use Rattle.sabr_session.proofs.Following.{has_wrong_end, is_a_route, none_left, some_left}
use Rattle.sabr_session.proofs.hops.Hops.ending.Goals as goal

pub returns-then-self-to-clause-fault : goal.returns-then-self-to-clause-fault
returns-then-self-to-clause-fault g c =
    let t = c.self.inside in
    subst (λ (f : Followed). fault_of f.question.plan.plan f.question.request f.question.contacts ≡ Some WrongEnd) c.self.view_is
    (has_wrong_end t.plan.now t.request.now t.contacts.now t.count t.path t.summary t.fault c.self.invariant (none_left t.fault c.in_default.not-Some) (subst (λ (f : Followed). IsTrue f.over) (sym c.self.view_is) c.requires)
    (some_left (length t.contacts.now) (sym c.is_empty.ensures ∙ c.if-is_empty.false)) (λ same. c.if-self-to.true (same ∙ sym c.to.ensures.value)))

pub returns-clause-route : goal.returns-clause-route
returns-clause-route g c =
    let t = c.self.inside in
    subst (λ (f : Followed). IsTrue (is_route f.question.plan.plan f.question.request f.question.contacts)) c.self.view_is
    (is_a_route t.plan.now t.request.now t.contacts.now t.count t.path t.summary t.fault c.self.invariant (none_left t.fault c.in_default.not-Some) (subst (λ (f : Followed). IsTrue f.over) (sym c.self.view_is) c.requires)
    (some_left (length t.contacts.now) (sym c.is_empty.ensures ∙ c.if-is_empty.false)) (c.if-self-to.false ∙ c.to.ensures.value))
