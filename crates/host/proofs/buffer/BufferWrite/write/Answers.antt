use Rattle.std.proofs.Common.{ap, sym, ◌∙◌, ◌≡◌, min, length}
use Rattle.host.specs.Buffers.{put_over}
use Rattle.host.proofs.BufferLemmas.{put_over-write}
use Rattle.host.proofs.buffer.BufferWrite.write.Goals as goal

pub invariant_of-self-2-clause-stored : goal.invariant_of-self-2-clause-stored
invariant_of-self-2-clause-stored c =
    let at : c.min-at.result ≡ min (length c.args.self.now.taken.bytes) (length c.args.self.now.room.now) =
    c.min-at.ensures ∙ ap (λ n. min n (length c.args.self.now.room.now)) c.args.self.now.counted in
    rw c.put_text.ensures.buffer (put_over-write c.args.self.now.before.bytes c.args.self.now.taken.bytes c.args.buf.now c.args.self.now.room.now c.min-at.result c.args.self.now.stored at)
    ∙ ap (put_over c.args.self.now.before.bytes) (sym c.append.ensures)
