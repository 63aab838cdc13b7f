use Rattle.sabr_frontier.proofs.Names.{◌≡◌, true, false, true≢false, ◌||◌, None, arith, ap, sym, ◌∙◌, Node, best_for, others_carry, part_goes_on}
use Rattle.sabr_frontier.proofs.GivingLemmas.{then_ok}
use Rattle.sabr_frontier.proofs.TreeLemmas.ModifiedPlaces.{get_there}
use Rattle.sabr_frontier.proofs.tree.Tree.goes_on_after.Goals as goal

pub returns-then-others_carry-clause-at_most : goal.returns-then-others_carry-clause-at_most
returns-then-others_carry-clause-at_most g c n stands = omega (arith, (c.requires.next n stands).longer)

pub part_goes_on-requires-clause-next : goal.part_goes_on-requires-clause-next
part_goes_on-requires-clause-next g c =
    let m = c.index.result.now in
    c.requires.next m (get_there c.args.self.now.nodes.items c.args.node.0 m (omega arith) c.index.ensures)

pub part_goes_on-requires-clause-floor : goal.part_goes_on-requires-clause-floor
part_goes_on-requires-clause-floor g c =
    let m = c.index.result.now in
    c.requires.floor m (get_there c.args.self.now.nodes.items c.args.node.0 m (omega arith) c.index.ensures)

pub returns-clause-ok : goal.returns-clause-ok
returns-clause-ok g c =
    let nodes = c.args.self.now.nodes.items in
    let m = c.index.result.now in
    let s = c.args.route.now in
    let best = best_for c.args.searcher.now.asked None in
    let here = get_there nodes c.args.node.0 m (omega arith) c.index.ensures in
    let others : others_carry nodes c.args.node ≡ false = ap (λ z. others_carry z c.args.node) (sym c.as_slice.ensures.value) ∙ sym c.others_carry.ensures ∙ c.if-others_carry.false in
    then_ok c.part_goes_on.result c.part_goes_on.ensures.ok (λ b e n stands. (let same : m ≡ n = cc in e ∙ ap (λ (k : Node g.row.A.Denot). part_goes_on best k s) same ∙ ap (λ b. b || part_goes_on best n s) (sym others)))

pub returns-clause-at_most : goal.returns-clause-at_most
returns-clause-at_most g c n stands =
    let m = c.index.result.now in
    let here = get_there c.args.self.now.nodes.items c.args.node.0 m (omega arith) c.index.ensures in
    let same : m ≡ n = cc in
    omega (arith, c.part_goes_on.ensures.at_most, ap (λ (k : Node g.row.A.Denot). k.length) same)

pub returns-then-others_carry-clause-least : goal.returns-then-others_carry-clause-least
returns-then-others_carry-clause-least g c _ _ none =
    let others : others_carry c.args.self.now.nodes.items c.args.node ≡ true = ap (λ z. others_carry z c.args.node) (sym c.as_slice.ensures.value) ∙ sym c.others_carry.ensures ∙ c.if-others_carry.true in
    absurd (true≢false (sym others ∙ none))

pub returns-clause-least : goal.returns-clause-least
returns-clause-least g c = then_ok c.part_goes_on.result c.part_goes_on.ensures.least (λ _ h so same _. h so same)
