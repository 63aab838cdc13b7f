use Rattle.sabr_frontier.proofs.Names.{ap, refl, sym, subst, IsSession, seen, Searching, IsAtRest}
use Rattle.sabr_frontier.proofs.session.paused.PausedSession.resume.Goals as goal

pub invariant_of-result : goal.invariant_of-result
invariant_of-result g c =
    let s = c.args.self in
    subst (λ (a : Searching). IsSession a.asked.plan a.asked.request s.tree s.pages.items × IsAtRest a) (sym c.resume.ensures) (c.requires.session, refl)

pub returns : goal.returns
returns g c =
    let s = c.args.self in
    ap (λ (a : Searching). seen a s.tree s.pages.items s.searches s.looks) c.resume.ensures
