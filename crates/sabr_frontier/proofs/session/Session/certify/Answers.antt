use Rattle.sabr_frontier.proofs.Names.{◌+◌, ◌≤◌, ap, length, sym, subst, arith, ◌∙◌, IfOk, IsTrue, ◌↔◌, state_at, Calls, Asked, GoOn, IsSession, Seen, shape_of}
use Rattle.std.specs.Prelude.{◌≡◌}
use Rattle.sabr_frontier.proofs.GivingLemmas.Sums.{calls_go_on}
use Rattle.sabr_frontier.proofs.SessionLemmas.Pages.{sound_tree}
use Rattle.sabr_frontier.proofs.SessionLemmas.Verdicts.{nodes_are_parts}
use Rattle.sabr_frontier.proofs.session.Session.certify.Goals as goal

pub is_placed-placed-requires-clause-tree : goal.is_placed-placed-requires-clause-tree
is_placed-placed-requires-clause-tree g c =
    let s = c.self.inside in
    let t = shape_of s.tree in
    sound_tree s.searcher.asked.plan.plan s.searcher.asked.request (length t.journal) t c.self.invariant.0.sound

pub invariant_of-self : goal.invariant_of-self
invariant_of-self g c =
    let s = c.self.inside in
    let last = c.is_placed-placed.new.searcher in
    let asked = c.take_looks.ensures.begun ∙ ap (λ (a : Asked). record a { before = last.calls }) c.is_placed-placed.ensures.same in (
      subst (λ (a : Asked). IsSession a.plan a.request s.tree s.pages.items) (sym asked) c.self.invariant.0,
      c.take_looks.ensures.rest,
    )

pub returns-clause-ok : goal.returns-clause-ok
returns-clause-ok g c = subst (λ (v : Seen). IfOk c.is_placed-placed.result (λ yes. IsTrue yes ↔ (v.state ≡ state_at v.plan.plan v.request v.state.emitted))) c.self.view_is c.is_placed-placed.ensures.placed

pub returns-clause-calls : goal.returns-clause-calls
returns-clause-calls g c =
    let s = c.self.inside in
    let t = shape_of s.tree in
    let few = nodes_are_parts s.searcher.asked.plan.plan s.searcher.asked.request t (sound_tree s.searcher.asked.plan.plan s.searcher.asked.request (length t.journal) t c.self.invariant.0.sound) in
    subst (λ (v : Seen). c.take_looks.new.self.calls.count ≤ v.calls.count + length v.state.parts) c.self.view_is (omega (arith, few, c.is_placed-placed.ensures.called, ap (λ (z : Calls). z.count) c.take_looks.ensures.calls))

pub returns-clause-go_on : goal.returns-clause-go_on
returns-clause-go_on g c =
    subst (λ (v : Seen). GoOn v.plan.plan v.calls c.take_looks.new.self.calls) c.self.view_is (calls_go_on c.self.inside.searcher c.is_placed-placed.new.searcher c.self.invariant.1 c.is_placed-placed.ensures.same _ c.take_looks.ensures.calls c.take_looks.ensures.go_on)
