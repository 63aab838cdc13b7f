use Rattle.std.proofs.Common.{rules}
use Rattle.host.proofs.BufferLemmas.{put_over-nothing}
use Rattle.host.proofs.buffer.Buffer.new.Goals as goal

pub invariant_of-result-clause-stored : goal.invariant_of-result-clause-stored
invariant_of-result-clause-stored c = rw c.new.ensures (rw c.append.ensures (rw c.new-before.ensures (search (rules, put_over-nothing))))
