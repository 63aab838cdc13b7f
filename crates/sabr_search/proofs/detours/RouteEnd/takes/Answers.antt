use Rattle.std.proofs.Common.{◌∷◌, [], ◌∙◌, refl, sym, subst, arith}
use Rattle.std.proofs.lemmas.Option.{slice_get-get_or}
use Rattle.sabr_search.specs.questions.Task.{Takes}
use Rattle.sabr_search.proofs.LinkLemmas.OverLinks.{no_pass}
use Rattle.sabr_search.proofs.WayLemmas.Detours.{two_contacts, value_if}
use Rattle.sabr_search.proofs.detours.RouteEnd.takes.Goals as goal

pub take_pass-requires-clause-pass : goal.take_pass-requires-clause-pass
take_pass-requires-clause-pass g c =
    rw c.beginning-here.ensures (c.requires.link.0.each c.partition_point-unended.result _ (slice_get-get_or c.args.link.passes.now c.partition_point-unended.result no_pass (omega arith)))

pub returns-clause-yes : goal.returns-clause-yes
returns-clause-yes g c so =
    let end = c.args.self.now in
    let first = c.in-Some-take_pass.first in
    let one = rw c.beginning-here.ensures at (c.in-Some-take_pass.ensures {u = tt}).takes in
    let last = value_if c.take_pass-2.result c.take_pass-2.ensures.takes (sym c.is_some.ensures ∙ so) in
    record {
      n = first.number;
      rest = last.0.number ∷ [];
      route = two_contacts end.task.now end.front.now c.requires.end.asked first.number last.0.number c.args.link.to first.at last.0.at c.requires.room one
          (subst (λ w. Takes end.task.now last.0.number c.args.link.to first.at w last.0.at) c.goal-goal.ensures last.1) (c.is_between.ensures.other c.if-not-is_between.false);
      other = c.if-first-self.false;
      free = one.allowed refl;
    }
