use Rattle.std.proofs.Common.{sym}
use Rattle.host.proofs.BufferLemmas.{put_over-at}
use Rattle.host.proofs.put.put_text.Goals as goal

pub returns-clause-buffer : goal.returns-clause-buffer
returns-clause-buffer c =
    rw c.copy_from_slice.ensures.after (sym (put_over-at c.args.buffer.now c.args.text.now c.min-count.result c.min-count.ensures))
