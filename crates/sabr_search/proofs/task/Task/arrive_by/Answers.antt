use Rattle.sabr_search.proofs.LinkLemmas.PlanFacts.{hop_small}
use Rattle.sabr_search.proofs.task.Task.arrive_by.Goals as goal

pub arrive-requires : goal.arrive-requires
arrive-requires g c =
    let task = rw (← c.self.view_is) at c.requires.task in
    hop_small c.self.inside.index.now task.plan c.args.number c.in_ok-hop.hop c.in_ok-hop.ensures.value
