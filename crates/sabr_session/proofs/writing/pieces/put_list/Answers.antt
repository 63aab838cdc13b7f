use Rattle.std.proofs.Common.{ap}
use Rattle.sabr_session.specs.SessionText.{listed_by, spaced_by}
use Rattle.sabr_session.proofs.TextLemmas.Gathering.{Puts-stopped, Puts-after}
use Rattle.sabr_session.proofs.writing.pieces.put_list.Goals as goal

pub returns-in_err-put_digits-in-Some : goal.returns-in_err-put_digits-in-Some
returns-in_err-put_digits-in-Some g c =
    rw (ap (listed_by g.N.Integer.text) (c.in-Some.ensures {u = tt}).cases.0)
    (Puts-stopped _ (g.N.Integer.text c.in-Some.first.now) (spaced_by g.N.Integer.text c.in-Some.others.now) c.from_residual.result c.from_residual.ensures.1 (c.in_err-put_digits-in-Some.ensures {u = tt}))

pub returns-in_ok-put_digits-in-Some : goal.returns-in_ok-put_digits-in-Some
returns-in_ok-put_digits-in-Some g c =
    rw (ap (listed_by g.N.Integer.text) (c.in-Some.ensures {u = tt}).cases.0)
    (Puts-after _ (g.N.Integer.text c.in-Some.first.now) (spaced_by g.N.Integer.text c.in-Some.others.now) _ (c.in_ok-put_digits-in-Some.ensures {u = tt}) c.put_numbers.ensures)
