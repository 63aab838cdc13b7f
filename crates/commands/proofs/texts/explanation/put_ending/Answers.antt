use Rattle.commands.proofs.texts.explanation.put_ending.Goals as goal

pub put_route_line-requires : goal.put_route_line-requires
put_route_line-requires g c = rw c.in-Ok.is at c.requires

pub returns-in-Ok : goal.returns-in-Ok
returns-in-Ok g c = rw c.in-Ok.is c.put_route_line.ensures
