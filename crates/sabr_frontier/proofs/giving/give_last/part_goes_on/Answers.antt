use Rattle.sabr_frontier.proofs.Names.{◌≡◌, ℕ, List, ◌+◌, ◌||◌, None, false, arith, slice_index, take, drop, subst, sym, ap, ◌∙◌, IfOk, is_some, IsStrictlyIncreasing, IsPlan, TabledPlan, IsFloor, GoesOtherwise, Searching, best_for, longer_go_on, part_goes_on, wide_of}
use Rattle.std.specs.Cmp.{nat_cmp_total}
use Rattle.sabr_frontier.proofs.ListingLemmas.ListMembers.{Rises-put_in}
use Rattle.sabr_frontier.proofs.TreeLemmas.Floors.{floor_on, floor_wide, late, of_after}
use Rattle.sabr_frontier.proofs.TreeLemmas.ListFronts.{increasing}
use Rattle.sabr_frontier.proofs.SessionLemmas.LeftSteps.{goes_on_otherwise}
use Rattle.sabr_frontier.proofs.GivingLemmas.{then_ok}
use Rattle.sabr_frontier.proofs.giving.give_last.part_goes_on.Goals as goal

pub returns-then-branch-clause-ok : goal.returns-then-branch-clause-ok
returns-then-branch-clause-ok g c =
    let p = c.args.searcher.now.asked.plan in
    let r = c.args.searcher.now.asked.request in
    let s = c.args.route.now in
    let good : IsPlan p.plan = subst (λ (t : TabledPlan). IsPlan t.plan) c.plan.ensures c.rules_hold.ensures in
    let otherwise : GoesOtherwise p.plan r s c.args.part.now.excluded = subst (GoesOtherwise p.plan r s) c.as_slice.ensures (c.in_ok-goes_otherwise.ensures.yes c.if-branch.true) in
    sym (goes_on_otherwise p.plan r good c.args.part.now s c.requires.next otherwise)

-- a searcher that shows the same asks for the same parts
floor_in : {v w : Searching} → v ≡ w → (q X : List ℕ) (floor : ℕ) → IsFloor w.asked.plan.plan w.asked.request q X floor → IsFloor v.asked.plan.plan v.asked.request q X floor
floor_in same q X floor = subst (λ (z : Searching). IsFloor z.asked.plan.plan z.asked.request q X floor) (sym same)

pub find_best-requires-clause-floor : goal.find_best-requires-clause-floor
find_best-requires-clause-floor g c =
    let a = c.goes_otherwise.new.self.asked in
    let n = c.args.part.now in
    let s = c.args.route.now in
    let floor = floor_in c.goes_otherwise.ensures.same (take n.length s) n.excluded c.args.floor c.requires.floor in
    subst (λ X. IsFloor a.plan.plan a.request (take n.length s) X c.args.floor) (sym (c.as_slice-2.ensures ∙ c.in_ok-excluded.ensures)) (floor_wide a.plan.plan a.request c.args.floor (take n.length s) n.excluded (slice_index s n.length) floor)

pub longer_go_on-requires-clause-floor : goal.longer_go_on-requires-clause-floor
longer_go_on-requires-clause-floor g c =
    let a = c.goes_otherwise.new.self.asked in
    let n = c.args.part.now in
    let s = c.args.route.now in
    let floor = floor_in c.goes_otherwise.ensures.same (take n.length s) n.excluded c.args.floor c.requires.floor in
    floor_on c.find_best.ensures.same s (n.length + 1) (n.length + 1) c.args.floor (omega arith) (omega (arith, c.requires.next.longer)) (of_after a.plan.plan a.request (late a.plan.plan a.request c.args.floor) s n.length n.excluded c.requires.next.longer c.requires.next.absent floor)

pub find_best-requires-clause-increasing : goal.find_best-requires-clause-increasing
find_best-requires-clause-increasing g c =
    let n = c.args.part.now in
    let s = c.args.route.now in
    subst IsStrictlyIncreasing (sym (c.as_slice-2.ensures ∙ c.in_ok-excluded.ensures)) (increasing (wide_of n s) (Rises-put_in nat_cmp_total (slice_index s n.length) n.excluded c.requires.next.rises))

pub returns-clause-ok : goal.returns-clause-ok
returns-clause-ok g c =
    let a = c.goes_otherwise.new.self.asked in
    let n = c.args.part.now in
    let s = c.args.route.now in
    let none : is_some (best_for a None (take n.length s) (wide_of n s)) ≡ false =
    ap (λ X. is_some (best_for a None (take n.length s) X)) (sym (c.as_slice-2.ensures ∙ c.in_ok-excluded.ensures)) ∙ ap is_some (sym c.in_ok-found.ensures.best) ∙ sym c.is_some.ensures ∙ c.if-is_some.false in
    let rest : longer_go_on (best_for c.find_best.new.self.asked None) (take (n.length + 1) s) (drop (n.length + 1) s) ≡ part_goes_on (best_for c.args.searcher.now.asked None) n s =
    ap (λ b. longer_go_on (best_for b None) (take (n.length + 1) s) (drop (n.length + 1) s)) c.find_best.ensures.same
    ∙ ap (λ b. b || longer_go_on (best_for a None) (take (n.length + 1) s) (drop (n.length + 1) s)) (sym none)
    ∙ ap (λ (v : Searching). part_goes_on (best_for v.asked None) n s) c.goes_otherwise.ensures.same in
    subst (λ b. IfOk c.longer_go_on.result (λ more. more ≡ b)) rest c.longer_go_on.ensures.ok

pub returns-clause-least : goal.returns-clause-least
returns-clause-least g c =
    let stays = ap (λ (v : Searching). v.calls.count) c.goes_otherwise.ensures.same in
    then_ok c.longer_go_on.result c.longer_go_on.ensures.ok (λ _ _ _ same. absurd (omega (arith, same, c.longer_go_on.ensures.no_fewer, c.find_best.ensures.called, stays)))

pub returns-then-branch-clause-least : goal.returns-then-branch-clause-least
returns-then-branch-clause-least g c _ _ = omega (arith, c.in_ok-goes_otherwise.ensures.least c.if-branch.true)
