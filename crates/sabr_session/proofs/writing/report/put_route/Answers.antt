use Rattle.sabr_session.proofs.writing.report.put_route.Goals as goal

pub returns : goal.returns
returns g c = rw (← c.route.view_is) (rw c.as_slice-contacts.ensures at c.put_route_figures.ensures)
