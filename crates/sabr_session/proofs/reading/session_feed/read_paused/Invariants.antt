use Rattle.std.proofs.Common.{◌≡◌, ◌-◌}
use Rattle.sabr_session.specs.SessionFed.{weight_of, weight_bound}
use Rattle.sabr_session.proofs.ReadingLemmas.SessionGivenSoFar.{HasFed}
use Rattle.sabr_session.proofs.reading.session_feed.read_paused.Given as goal

abbrev pub invariant-loop-feed : goal.invariant-loop-feed
invariant-loop-feed g l = record {
  given : HasFed l.plan (g.B.BestOf.calls_of l.fn.finder) (g.R.Read.input l.initial.reader) (g.R.Read.input l.reader) l.feed;
  fine : (g.R.Read.input l.reader).failures ≡ (g.R.Read.input l.initial.reader).failures;
}

abbrev pub decreases-loop-feed : goal.decreases-loop-feed
decreases-loop-feed g l = weight_bound - weight_of l.feed
