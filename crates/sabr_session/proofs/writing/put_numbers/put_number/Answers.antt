use Rattle.sabr_session.proofs.TextLemmas.Gathering.{Puts-stopped, Puts-after}
use Rattle.sabr_session.proofs.writing.put_numbers.put_number.Goals as goal

pub returns-in_err-put : goal.returns-in_err-put
returns-in_err-put g c = Puts-stopped _ c.args.label.now (g.N.Integer.text c.args.number) c.from_residual.result c.from_residual.ensures.1 c.in_err-put.ensures

pub returns : goal.returns
returns g c = Puts-after _ c.args.label.now (g.N.Integer.text c.args.number) _ c.in_ok-put.ensures c.put_digits.ensures
