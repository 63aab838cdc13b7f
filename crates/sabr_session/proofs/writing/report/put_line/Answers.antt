use Rattle.std.proofs.Common.{[], ◌∷◌, decimal}
use Rattle.sabr_session.specs.ReportText.{route_line}
use Rattle.sabr_session.proofs.TextLemmas.Gathering.{Puts-stopped, Puts-after}
use Rattle.sabr_session.proofs.writing.report.put_line.Goals as goal

pub returns-in_err-put_digits : goal.returns-in_err-put_digits
returns-in_err-put_digits g c =
    Puts-stopped _ (decimal c.args.rank) (32 ∷ route_line c.args.route.now) c.from_residual.result c.from_residual.ensures.1 c.in_err-put_digits.ensures

pub returns-in_err-put : goal.returns-in_err-put
returns-in_err-put g c =
    Puts-after _ (decimal c.args.rank) (32 ∷ route_line c.args.route.now) _ c.in_ok-put_digits.ensures
    (Puts-stopped _ (32 ∷ []) (route_line c.args.route.now) c.from_residual-in_err-put.result c.from_residual-in_err-put.ensures.1 c.in_err-put.ensures)

pub returns : goal.returns
returns g c =
    Puts-after _ (decimal c.args.rank) (32 ∷ route_line c.args.route.now) _ c.in_ok-put_digits.ensures
    (Puts-after _ (32 ∷ []) (route_line c.args.route.now) _ c.in_ok-put.ensures c.put_route.ensures)
