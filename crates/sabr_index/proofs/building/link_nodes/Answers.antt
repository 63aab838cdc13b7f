use Rattle.std.proofs.Common.{◌≡◌, ◌<◌, ◌-◌, [], ◌∷◌, ℕ, List, length, get_or, drop, ap, sym, subst, ◌∙◌, arith, length-append, length-take, length-drop, ◌++◌, ◌≤◌, ◌+◌}
use Rattle.std.specs.Prelude.{slice_get}
use Rattle.std.proofs.lemmas.List.{length-map}
use Rattle.std.proofs.lemmas.List.Elements.{All-take, All-drop}
use Rattle.std.proofs.lemmas.List.Sums.{sum_by_push}
use Rattle.sabr_index.specs.Links.{NodeLinks, links_in}
use Rattle.sabr_index.specs.Linking.{AreSent, AreLinked, number_at, numbers_at, part_of, parts_of}
use Rattle.sabr_index.proofs.LinkLemmas.{linked_more}
use Rattle.sabr_index.proofs.TableLemmas.{part_more}
use Rattle.sabr_index.proofs.building.link_nodes.Goals as goal

pub add_node-requires : goal.add_node-requires
add_node-requires g c =
    let places = c.args.order.items.items in
    let start = get_or c.args.order.starts.items c.loop-index.index 0 in
    let count = get_or c.args.order.starts.items (c.loop-index.index + 1) 0 - start in
    let contacts = c.args.plan.now.plan.contacts in
    record {
      there = rw c.of.ensures (All-take (λ q. q < length contacts) count (drop start places) (All-drop (λ q. q < length contacts) start places c.requires.within));
      nodes = omega (arith, c.nodes-count.ensures.table, c.nodes-count.ensures.few);
      few = omega (arith, ap (λ (ns : List ℕ). length ns) c.of.ensures, length-take count (drop start places), length-drop start places, c.requires.few);
    }

pub loop-index-preserved : goal.loop-index-preserved
loop-index-preserved g c =
    let p = c.args.plan.now in
    let i = c.loop-index.index in
    let is = c.loop-index.invariant in
    let places = c.args.order.items.items in
    let start = get_or c.args.order.starts.items i 0 in
    let end = get_or c.args.order.starts.items (i + 1) 0 in
    let span = c.requires.spans i (omega (arith, c.loop-index-test.true, c.nodes-count.ensures.table, c.requires.begins)) in
    let added = c.in_ok-node.ensures {u = tt} in
    let parts = parts_of c.loop-index.nodes.items c.loop-index.links.items c.loop-index.passes.items in
    let more = part_more p (numbers_at p.plan.contacts c.of.result.now) c.loop-index.nodes.items c.loop-index.links.items c.add_node.new.links.items c.loop-index.passes.items c.add_node.new.passes.items c.in_ok-node.node is.parts added in
    let many : length parts ≡ i = length-map c.loop-index.nodes.items (part_of c.loop-index.links.items c.loop-index.passes.items) ∙ is.as_many in
    let few : links_in (parts_of (c.loop-index.nodes.items ++ c.in_ok-node.node ∷ []) c.add_node.new.links.items c.add_node.new.passes.items) ≤ end =
    (let rise = span.0 in
    omega (
      arith,
      ap links_in more.0,
      sum_by_push (λ (s : NodeLinks). length s.links) parts added.own,
      is.few,
      added.few,
      length-map c.of.result.now (λ q. number_at p.plan.contacts q),
      ap (λ (ns : List ℕ). length ns) c.of.ensures,
      length-take (end - start) (drop start places),
      length-drop start places,
      rise,
    )) in
    rw (c.in_ok-push.ensures {u = tt}).items
    (record {
      as_many = omega (arith, is.as_many, length-append c.loop-index.nodes.items (c.in_ok-node.node ∷ []));
      parts = more.1;
      linked =
          subst (AreLinked p) (sym more.0)
          (linked_more p parts added.own is.linked (λ n e.
          added.over n (subst (λ (ns : List ℕ). AreSent p.plan n (numbers_at p.plan.contacts ns)) (sym c.of.ensures) (c.requires.sent i n (ap (slice_get p.table) (sym many) ∙ e)))));
      few = few;
      low = (let within = span.1 in omega (arith, few, within));
    })

pub returns-clause-linked : goal.returns-clause-linked
returns-clause-linked g c = subst (AreLinked c.args.plan.now) (sym c.of_parts.ensures) c.loop-index.invariant.linked
