use Rattle.std.proofs.Common.{map, rules}
use Rattle.std.specs.List.{concat}
use Rattle.sabr_session.proofs.TextLemmas.Gathering.{WritesText-stopped, WritesText-sent}
use Rattle.commands.proofs.texts.messages.write_pieces.Goals as goal

pub returns-in_err-put_pieces : goal.returns-in_err-put_pieces
returns-in_err-put_pieces g c =
    WritesText-stopped _ _ (concat (map (λ p. p.now) c.args.pieces.now)) c.from_residual.result c.new-text.ensures (search rules) c.from_residual.ensures.1 c.in_err-put_pieces.ensures

pub returns : goal.returns
returns g c = WritesText-sent _ _ (concat (map (λ p. p.now) c.args.pieces.now)) c.send.result c.new-text.ensures (search rules) c.in_ok-put_pieces.ensures c.send.ensures
