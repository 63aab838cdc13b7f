use Rattle.sabr_frontier.specs.tree.Shape.{shape_of}
use Rattle.sabr_frontier.proofs.SessionLemmas.Pages.{more_is}
use Rattle.sabr_frontier.proofs.session.paused.PausedSession.more.Goals as goal

pub returns : goal.returns
returns g c =
    let s = c.args.self.now in
    λ p over. more_is p.plan s.searcher.request over.session.rules (shape_of s.tree) over.session.sound c.is_empty.result c.is_empty.ensures.none c.is_empty.ensures.some

pub is_empty-requires : goal.is_empty-requires
is_empty-requires g c = c.requires.1.session.room
