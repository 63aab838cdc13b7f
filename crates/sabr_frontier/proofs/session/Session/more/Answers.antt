use Rattle.sabr_frontier.proofs.Names.{ap, ◌∙◌, is_some, next_route, shape_of, Seen}
use Rattle.sabr_frontier.proofs.SessionLemmas.Pages.{more_is}
use Rattle.sabr_frontier.proofs.session.Session.more.Goals as goal

pub returns : goal.returns
returns g c =
    let s = c.self.inside in
    more_is s.searcher.asked.plan.plan s.searcher.asked.request c.self.invariant.0.rules (shape_of s.tree) c.self.invariant.0.sound c.is_empty.result c.is_empty.ensures.none c.is_empty.ensures.some
    ∙ ap (λ (v : Seen). is_some (next_route v.plan.plan v.request v.state)) c.self.view_is
