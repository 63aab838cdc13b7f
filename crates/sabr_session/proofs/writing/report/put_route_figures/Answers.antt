-- The pieces before the numbers, the numbers, and the end of the line.
use Rattle.std.proofs.Common.{◌≡◌, [], ◌∷◌, ◌++◌, codes, decimal}
use Rattle.std.specs.List.{concat}
use Rattle.std.proofs.lemmas.List.Folds.{concat-append}
use Rattle.sabr_model.specs.routes.Record.{RouteRecord}
use Rattle.sabr_session.specs.ReportText.{route_line, figure_pieces}
use Rattle.sabr_session.specs.SessionText.{spaced_by}
use Rattle.sabr_session.proofs.TextLemmas.Gathering.{Puts-stopped, Puts-after}
use Rattle.sabr_session.proofs.writing.report.put_route_figures.Goals as goal

in_pieces : (r : RouteRecord) → route_line r ≡ concat (figure_pieces r) ++ (spaced_by decimal r.contacts ++ codes "\n")
in_pieces r = concat-append (figure_pieces r) (spaced_by decimal r.contacts ∷ codes "\n" ∷ [])

pub returns-in_err-put_figures : goal.returns-in_err-put_figures
returns-in_err-put_figures g c =
    let a = c.args.figures in
    let r : RouteRecord = record { contacts = a.contacts.now; delivery = a.delivery; until = a.until; entry = a.entry } in
    rw (in_pieces r)
    (Puts-stopped _ (concat (figure_pieces r)) (spaced_by decimal r.contacts ++ codes "\n") c.from_residual.result c.from_residual.ensures.1 c.in_err-put_figures.ensures)

pub returns-in_err-put_numbers : goal.returns-in_err-put_numbers
returns-in_err-put_numbers g c =
    let a = c.args.figures in
    let r : RouteRecord = record { contacts = a.contacts.now; delivery = a.delivery; until = a.until; entry = a.entry } in
    rw (in_pieces r)
    (Puts-after _ (concat (figure_pieces r)) (spaced_by decimal r.contacts ++ codes "\n") _ c.in_ok-put_figures.ensures
    (Puts-stopped _ (spaced_by decimal r.contacts) (codes "\n") c.from_residual-in_err-put_numbers.result c.from_residual-in_err-put_numbers.ensures.1 c.in_err-put_numbers.ensures))

pub returns : goal.returns
returns g c =
    let a = c.args.figures in
    let r : RouteRecord = record { contacts = a.contacts.now; delivery = a.delivery; until = a.until; entry = a.entry } in
    rw (in_pieces r)
    (Puts-after _ (concat (figure_pieces r)) (spaced_by decimal r.contacts ++ codes "\n") _ c.in_ok-put_figures.ensures
    (Puts-after _ (spaced_by decimal r.contacts) (codes "\n") _ c.in_ok-put_numbers.ensures c.put.ensures))
