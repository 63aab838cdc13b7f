use Rattle.sabr_model.proofs.PlanLemmas.KnownLemmas.{noted_next}
use Rattle.sabr_model.proofs.plan.openings.Openings.note_next.Goals as goal

pub returns-clause-noted : goal.returns-clause-noted
returns-clause-noted g c =
    let s = c.args.self.now in
    noted_next s.numbers s.noted c.args.contacts.now c.requires.noted c.insert.new.self c.requires.more c.requires.apart (c.in-Ok.ensures {u = tt}).updates
