use Rattle.libcgrlist.proofs.AnswerLemmas.{short_of}
use Rattle.libcgrlist.proofs.first.find_first.Goals as goal

pub write_routes-requires-clause-short : goal.write_routes-requires-clause-short
write_routes-requires-clause-short c = short_of c.in_ok-index.index c.args.wanted.request c.args.wanted.count c.in_ok-last.last c.routes.result.now c.routes.ensures c.in_ok-last.ensures
