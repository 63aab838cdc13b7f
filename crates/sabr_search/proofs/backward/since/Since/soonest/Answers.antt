use Rattle.std.proofs.Common.{[], arith}
use Rattle.sabr_search.proofs.WayLemmas.EarliestSeconds.{since_many, since_most}
use Rattle.sabr_search.proofs.backward.since.Since.soonest.Goals as goal

pub returns-clause-many : goal.returns-clause-many
returns-clause-many g = since_many g.args.nodes [] [] g.args.soon.now 0

pub returns-clause-each : goal.returns-clause-each
returns-clause-each g = λ k. omega (arith, since_most g.args.nodes [] [] g.args.soon.now 0 k)
