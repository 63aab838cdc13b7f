use Rattle.std.proofs.Common.{nat_lt, rules, ◌∙◌, ap}
use Rattle.std.proofs.lemmas.Fn.{filter_same}
use Rattle.sabr_model.specs.declared.contact.Contact.{Contact}
use Rattle.libcgrlist.specs.Plans.{contacts_after}
use Rattle.libcgrlist.proofs.renumber.contacts_after.Goals as goal

pub returns : goal.returns
returns c =
    filter_same _ (λ (d : Contact). nat_lt c.args.second d.end) _ (λ d b f' k. search rules) _ _ c.retain.ensures.filtered
    ∙ ap (contacts_after c.args.second) c.in_ok-kept.ensures.items
