use Rattle.sabr_frontier.proofs.Names.{◌≡◌, length, reverse, arith, ◌∙◌, length-reverse, nat_tests, former_states, shape_of}
use Rattle.sabr_frontier.proofs.SessionLemmas.Pages.{length-former}
use Rattle.sabr_frontier.proofs.session.paused.PausedSession.can_back.Goals as goal

pub returns : goal.returns
returns g c =
    let s = c.args.self.now in
    let count : length (former_states s) ≡ length s.pages.items = length-former (reverse s.pages.items) (shape_of s.tree) ∙ length-reverse s.pages.items in
    grind (arith, nat_tests, count, c.is_empty.ensures)
