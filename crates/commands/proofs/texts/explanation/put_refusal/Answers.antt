use Rattle.commands.proofs.texts.explanation.put_refusal.Goals as goal

pub returns : goal.returns
returns g c = rw (← c.format.ensures.text, ← c.as_bytes.ensures.value) c.put_pieces.ensures
