use Rattle.sabr_search.proofs.LinkLemmas.OverLinks.{pass_small}
use Rattle.sabr_search.proofs.task.Task.hop_over.Goals as goal

pub returns-clause-small : goal.returns-clause-small
returns-clause-small g c = rw (c.start.ensures, c.end.ensures, c.light.ensures) (pass_small c.args.self.now c.requires.task c.requires.pass.0 c.args.to c.args.pass.now c.requires.pass.1)
