use Rattle.sabr_frontier.proofs.Names.{◌≡◌, length, reverse, arith, ap, sym, ◌∙◌, length-reverse, nat_tests, shape_of, Seen}
use Rattle.sabr_frontier.proofs.SessionLemmas.Pages.{length-former}
use Rattle.sabr_frontier.proofs.session.Session.can_back.Goals as goal

pub returns : goal.returns
returns g c =
    let pages = c.self.inside.pages.items in
    let count : length c.args.self.now.former ≡ length pages = ap (λ (v : Seen). length v.former) (sym c.self.view_is) ∙ length-former (reverse pages) (shape_of c.self.inside.tree) ∙ length-reverse pages in
    grind (arith, nat_tests, count, c.is_empty.ensures)
