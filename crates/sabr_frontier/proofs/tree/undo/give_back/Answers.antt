use Rattle.sabr_frontier.proofs.Names.{arith, ℕ, List, ◌≡◌, ap, ◌∙◌, set, Some, slice_index, numbers_of, given_back}
use Rattle.sabr_frontier.proofs.TreeLemmas.ModifiedPlaces.{set-modify}
use Rattle.std.specs.Prelude.{not, nat_eq, filter}
use Rattle.sabr_frontier.proofs.tree.undo.give_back.Goals as goal

pub returns : goal.returns
returns g c =
    let n = c.index_mut-part.result.now in
    let r = c.args.route in
    let items = c.args.nodes.now.items in
    let forgotten : c.forget.new.self ≡ filter (λ y. not (nat_eq y (slice_index r.contacts n.length))) n.excluded =
    c.forget.ensures ∙ ap (λ (s : List ℕ). filter (λ y. not (nat_eq y (slice_index s n.length))) n.excluded) (c.as_slice.ensures ∙ ap numbers_of c.route.view_is) in
    ap (λ (z : List ℕ). set items c.args.node.0 (record { leaf = n.leaf; length = n.length; excluded = z; route = Some r })) forgotten
    ∙ set-modify (given_back r) items c.args.node.0 n (omega arith) c.index_mut-part.ensures.value
