use Rattle.std.proofs.Common.{nat_lt, rules, ◌∙◌, ap}
use Rattle.std.proofs.lemmas.Fn.{filter_same}
use Rattle.sabr_model.specs.declared.contact.Range.{Range}
use Rattle.libcgrlist.specs.Plans.{ranges_after}
use Rattle.libcgrlist.proofs.renumber.ranges_after.Goals as goal

pub returns : goal.returns
returns c =
    filter_same _ (λ (r : Range). nat_lt c.args.second r.end) _ (λ r b f' k. search rules) _ _ c.retain.ensures.filtered
    ∙ ap (ranges_after c.args.second) c.in_ok-kept.ensures.items
