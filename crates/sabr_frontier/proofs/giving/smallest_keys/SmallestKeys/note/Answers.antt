use Rattle.sabr_frontier.proofs.Names.{◌≤◌, ◌<◌, ◌∷◌, [], ℕ, length, arith, refl, subst, heap_items, List, None, Some, Option, All, IfSome, nat_cmp, le_from_greatest, AreNoted, SeenKeys}
use Rattle.std.specs.BinaryHeap.{IsUpperBound}
use Rattle.sabr_frontier.proofs.GivingLemmas.KeptKeys.{kept_least, kept_more}
use Rattle.sabr_frontier.proofs.giving.smallest_keys.SmallestKeys.note.Goals as goal

-- what leaves a heap is no less than the others
largest_of : {P : Type 0} (o : Option ℕ) (new : List ℕ) → IfSome o (λ x. P → IsUpperBound nat_cmp x new) → P → IfSome o (λ x. All (λ k. k ≤ x) new)
largest_of None new h p = h
largest_of (Some x) new h p = le_from_greatest x new (h p)

pub returns-then-len-self : goal.returns-then-len-self
returns-then-len-self g c =
    let most = c.self.inside.most in
    let old = heap_items c.self.inside.keys in
    let keys = heap_items c.push.new.self in
    let new = heap_items c.pop.new.self in
    let many : most < length keys = omega (arith, c.len.ensures, c.if-len-self.true) in
    let some = c.pop.ensures.variant.1 (omega (arith, many)) in
    let largest = largest_of c.pop.result new c.pop.ensures.below_top (c.in_ok-push.ensures.heap_order c.self.invariant.0) in
    subst (λ (v : SeenKeys). AreNoted v (c.args.key ∷ []) (record { most = most; keys = new })) c.self.view_is (record {
      most = refl;
      least = kept_least most c.args.key old keys c.in_ok-push.ensures.permutation new c.pop.result c.self.invariant.1 many some c.pop.ensures.permutation largest;
    })

pub returns-else-len-self : goal.returns-else-len-self
returns-else-len-self g c =
    let most = c.self.inside.most in
    let old = heap_items c.self.inside.keys in
    let keys = heap_items c.push.new.self in
    subst (λ (v : SeenKeys). AreNoted v (c.args.key ∷ []) (record { most = most; keys = keys })) c.self.view_is (record {
      most = refl;
      least = kept_more most c.args.key old keys c.in_ok-push.ensures.permutation (omega (arith, c.len.ensures, c.if-len-self.false));
    })
