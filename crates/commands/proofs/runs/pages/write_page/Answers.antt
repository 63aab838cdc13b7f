use Rattle.commands.proofs.runs.pages.write_page.Goals as goal

pub returns-in-None : goal.returns-in-None
returns-in-None g c = rw c.in-None.is (c.write_last_page.ensures (g.S.Write.output c.args.session.now))

pub returns-in-Some : goal.returns-in-Some
returns-in-Some g c = rw c.in-Some.is c.write_kept_page.ensures
