use Rattle.sabr_frontier.proofs.Names.{take, sym, ◌∙◌, other_text}
use Rattle.sabr_frontier.proofs.ListingLemmas.ClosedTrees.{last_same}
use Rattle.sabr_frontier.proofs.loader.path_end.ExpectedPrefix.is.Goals as goal

pub returns-then-number-self-clause-other : goal.returns-then-number-self-clause-other
returns-then-number-self-clause-other c differs same =
    let front = take c.args.self.now.length c.args.last.now in
    other_text c.in-Some.front.now front (sym differs ∙ c.eq.ensures) (last_same c.in-Some.front.now front c.in-Some.number.now c.args.self.now.number (sym c.in-Some.ensures.cases.0 ∙ same)).0
