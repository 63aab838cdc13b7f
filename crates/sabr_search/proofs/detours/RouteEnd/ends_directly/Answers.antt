use Rattle.std.proofs.Common.{[], refl}
use Rattle.std.proofs.lemmas.Bool.{eqb-false, not-true}
use Rattle.sabr_search.proofs.WayLemmas.Detours.{one_contact}
use Rattle.sabr_search.proofs.detours.RouteEnd.ends_directly.Goals as goal

pub returns-clause-yes : goal.returns-clause-yes
returns-clause-yes g c so =
    let end = c.args.self.now in
    let found = c.in-Some-take_pass.step in
    let step = rw (c.beginning-here.ensures, c.goal-goal.ensures) at (c.in-Some-take_pass.ensures {u = tt}).takes in
    record {
      n = found.number;
      rest = [];
      route = one_contact end.task.now end.front.now c.requires.end.asked found.number found.at c.requires.end.room step;
      other = eqb-false found.number end.last (not-true _ so);
      free = step.allowed refl;
    }
