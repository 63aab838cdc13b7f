use Rattle.sabr_index.proofs.index.Index.links.Goals as goal

pub returns : goal.returns
returns g c = rw (← c.self.view_is) c.links.ensures
