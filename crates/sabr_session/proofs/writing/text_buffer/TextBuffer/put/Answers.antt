use Rattle.std.proofs.Common.{refl}
use Rattle.sabr_session.proofs.TextLemmas.Gathering.{Puts-unheld, Puts-through}
use Rattle.sabr_session.proofs.writing.text_buffer.TextBuffer.put.Goals as goal

pub returns-in_err-send : goal.returns-in_err-send
returns-in_err-send g c = Puts-unheld _ c.args.text.now c.from_residual.result c.from_residual.ensures.1 c.in_err-send.ensures

pub returns-then-text-gt-CAPACITY : goal.returns-then-text-gt-CAPACITY
returns-then-text-gt-CAPACITY g c = Puts-through _ c.args.text.now c.write_text.result c.in_ok-send.ensures.0 c.in_ok-send.ensures.1 refl c.in_ok-send.ensures.1 c.write_text.ensures
