use Rattle.sabr_frontier.proofs.Names.{◌≡◌, ◌<◌, List, length, Some, ap, arith, sym, subst, ◌∙◌, get_or_from_slice_get, slice_get_within, IfNone, slice_get, NodeId, route_at, CarriesNone, IsFirst, winner_at}
use Rattle.sabr_frontier.proofs.TreeLemmas.SlotWinners.{first_carries, none_carries}
use Rattle.sabr_frontier.proofs.tree.Tree.best_node.Goals as goal

first_is : (ids : List NodeId) {xs : List NodeId} {id : NodeId} → xs ≡ ids → Some id ≡ slice_get xs 0 → (0 < length ids) × (winner_at ids 0 ≡ id)
first_is ids {xs} {id} same first =
    let there : slice_get ids 0 ≡ Some id = ap (λ z. slice_get z 0) (sym same) ∙ sym first in
    (slice_get_within ids 0 id there, get_or_from_slice_get ids 0 id (record { 0 = 0 }) there)

pub returns-clause-some : goal.returns-clause-some
returns-clause-some g c =
    let t = c.args.self.now in
    let x = c.in_ok-carried.field-0.now in
    let first = first_is t.winners.items c.deref.ensures.value c.in_ok-id.ensures.value in
    let there = (λ i. route_at (sym c.as_slice.ensures.value i) (first.1 i)) ∙ sym c.in_ok-carried.ensures in
    (x, subst (λ z. IsFirst t.nodes.items z x) first.1 (first_carries t.nodes.items t.winners.items c.requires.won (omega (arith, c.requires.count, first.0)) x there))

pub returns-in_err-carried-clause-none : goal.returns-in_err-carried-clause-none
returns-in_err-carried-clause-none g c =
    let t = c.args.self.now in
    let first = first_is t.winners.items c.deref.ensures.value c.in_ok-id.ensures.value in
    let there = (λ i. route_at (sym c.as_slice.ensures.value i) (first.1 i)) ∙ sym c.in_err-carried.ensures in
    subst (λ o. IfNone o (CarriesNone t.nodes.items)) (sym c.from_residual-in_err-carried.ensures) (none_carries t.nodes.items t.winners.items c.requires.won (omega (arith, c.requires.count, first.0)) there)
