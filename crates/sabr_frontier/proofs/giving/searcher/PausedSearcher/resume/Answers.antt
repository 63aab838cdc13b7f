use Rattle.sabr_frontier.proofs.GivingLemmas.Sums.{none_summed, without_none}
use Rattle.sabr_frontier.proofs.giving.searcher.PausedSearcher.resume.Goals as goal

pub invariant_of-result : goal.invariant_of-result
invariant_of-result g c = (c.requires, none_summed c.args.index.plan (g.B.BestOf.calls_of c.args.self.finder) c.new.result.calls c.new.ensures)

pub returns : goal.returns
returns g c =
    let calls = g.B.BestOf.calls_of c.args.self.finder in
    let before = without_none calls c.new.result.calls c.new.ensures in
    λ i. record { asked = record { plan = c.args.index; request = c.args.self.request; before = before i }; calls = calls }
