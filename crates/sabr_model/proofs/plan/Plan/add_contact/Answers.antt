use Rattle.sabr_model.proofs.plan.Plan.add_contact.Goals as goal

pub has-clashes-requires : goal.has-clashes-requires
has-clashes-requires g c = rw c.deref.ensures.value (record { noted = c.self.invariant.3; numbered = c.self.invariant.0.numbers_rise })
