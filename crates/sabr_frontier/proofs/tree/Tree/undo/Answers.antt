use Rattle.sabr_frontier.proofs.Names.{arith, length, ◌≤◌, ◌≡◌, ap, ◌∙◌, sym, subst, Some, take, length-take-le, Node, RouteRecord, order_of, shape_of, IsIndexed, undone, undone_by, modify, given_back, IsLonger}
use Rattle.sabr_frontier.specs.declared.tree.Entry.{Entry}
use Rattle.sabr_frontier.proofs.TreeLemmas.ModifiedPlaces.{last_item_push, front_push, length-modify}
use Rattle.sabr_frontier.proofs.tree.Tree.undo.Goals as goal

pub give_back-requires-clause-longer : goal.give_back-requires-clause-longer
give_back-requires-clause-longer g c =
    let possible = c.requires.possible in
    let nodes = c.args.self.now.nodes.items in
    let entry : possible.entry ≡ c.in-Some.entry = let a = possible.entry_is in let b = last_item_push _ _ _ c.in-Some.ensures.items in cc in
    let route : possible.route ≡ c.in-Some-pop.route = let a = possible.route_is in let b = last_item_push _ _ _ c.in-Some-pop.ensures.items in cc in
    let there = subst (λ (r : RouteRecord). IsLonger (take possible.entry.nodes nodes) possible.entry.node.0 r) route possible.longer in
    let here = subst (λ (e : Entry). IsLonger (take e.nodes nodes) e.node.0 c.in-Some-pop.route) entry there in
    subst (λ z. IsLonger z c.in-Some.entry.node.0 c.in-Some-pop.route) (sym c.truncate.ensures.items) here

pub returns-clause-former : goal.returns-clause-former
returns-clause-former g c =
    let e = c.in-Some.entry in
    let r = c.in-Some-pop.route in
    let s = c.args.self.now in
    let t = shape_of s in
    let j = c.in-Some.ensures.items in
    let l = c.in-Some-pop.ensures.items in
    let base : undone t ≡ undone_by t (Some e) (Some r) = λ i. undone_by t (last_item_push _ _ _ j i) (last_item_push _ _ _ l i) in
    let nodes = c.give_back.ensures ∙ ap (λ z. modify (given_back r) z e.node.0) c.truncate.ensures.items in
    let possible = c.requires.possible in
    let after = undone_by t (Some e) (Some r) in
    let indexed : after.index ≡ order_of after.leaves after.nodes = subst IsIndexed base possible.indexed in
    (λ i. record { nodes = nodes i; index = order_of (sym (front_push _ _ _ l) i) (nodes i); leaves = sym (front_push _ _ _ l) i; last = e.last; journal = sym (front_push _ _ _ j) i; is_searched = t.is_searched })
    ∙ (λ i. record after { index = sym indexed i }) ∙ sym base

pub returns-clause-room : goal.returns-clause-room
returns-clause-room g c =
    let e = c.in-Some.entry in
    let r = c.in-Some-pop.route in
    let t = shape_of c.args.self.now in
    let j = c.in-Some.ensures.items in
    let nodes = c.give_back.ensures ∙ ap (λ z. modify (given_back r) z e.node.0) c.truncate.ensures.items in
    let possible = c.requires.possible in
    let entry : possible.entry ≡ e = let a = possible.entry_is in let b = last_item_push _ _ _ j in cc in
    let counted : e.nodes ≤ length t.nodes = subst (λ (z : Entry). z.nodes ≤ length t.nodes) entry possible.counted in
    let fewer : length c.give_back.new.nodes.items ≤ length t.nodes = omega (arith, ap (length {A = Node _}) nodes, length-modify (given_back r) (take e.nodes t.nodes) e.node.0, length-take-le e.nodes t.nodes counted, counted) in
    record {
      index = omega (arith, c.requires.room.index, fewer);
      added = omega (arith, c.requires.room.added, fewer);
      places = omega (arith, c.requires.room.places, fewer);
    }
