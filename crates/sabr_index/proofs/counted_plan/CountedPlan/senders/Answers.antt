use Rattle.std.proofs.Common.{◌≡◌, List, sym, ap, subst, ◌∙◌, arith, length, ◌<◌}
use Rattle.sabr_index.specs.declared.senders.Incoming.{Incoming}
use Rattle.sabr_index.specs.Links.{SentLink, AreLinksTo}
use Rattle.sabr_index.specs.Incoming.{links_named}
use Rattle.sabr_model.specs.Grouping.{part_of_group}
use Rattle.sabr_index.proofs.SenderLemmas.{lie_there, links_to}
use Rattle.sabr_index.proofs.counted_plan.CountedPlan.senders.Goals as goal

pub over-requires : goal.over-requires
over-requires g c =
    let linked = c.plan_links-links.result.now.linked in
    let are = c.plan_links-links.ensures in
    let lt : c.args.index < length linked = omega (arith, c.requires, are.as_many) in
    rw c.of.ensures (lie_there c.args.self.now linked are.links are.as_many c.args.index _ (are.grouped.each c.args.index lt))

pub returns : goal.returns
returns g c = λ node e.
    let p = c.args.self.now in
    let l = c.plan_links-links.result.now in
    let are = c.plan_links-links.ensures in
    let names = part_of_group l.incoming.starts.items l.incoming.items.items c.args.index in
    let lt : c.args.index < length l.linked = omega (arith, c.requires, are.as_many) in
    let there = links_to p l.linked are.links are.as_many are.tabled c.args.index node e names (are.grouped.each c.args.index lt) in
    let is : c.over.result ≡ links_named l.linked names = c.over.ensures ∙ ap (λ (ns : List Incoming). links_named l.linked ns) c.of.ensures in
    subst (λ (ss : List SentLink). AreLinksTo p node ss) (sym is) there
