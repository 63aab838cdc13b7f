use Rattle.libcgrlist.specs.Buffers.{buffers}
use Rattle.libcgrlist.proofs.PageLemmas.{IsSoFar}
use Rattle.libcgrlist.proofs.buffers.write_fitting.Given as goal

abbrev pub invariant-loop-at : goal.invariant-loop-at
invariant-loop-at l = IsSoFar l.routes (buffers l.fn.rows l.fn.contacts) (buffers l.rows l.contacts) l.at l.first
