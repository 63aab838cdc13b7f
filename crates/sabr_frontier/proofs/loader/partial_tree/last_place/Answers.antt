use Rattle.sabr_frontier.proofs.Names.{◌≡◌, ◌+◌, ◌++◌, ℕ, true≢false, ◌∷◌, [], inl, inr, length, take, sym, ap, subst, ◌∙◌, arith, ◌==◌, same_text, other_text, take_more, take_all, nat_tests, RouteRecord, contacts_in, numbers_of, Member}
use Rattle.sabr_frontier.proofs.ListingLemmas.ListMembers.{Member-append_cases}
use Rattle.sabr_frontier.proofs.TreeLemmas.ModifiedPlaces.{get_there, get_Member}
use Rattle.sabr_frontier.proofs.loader.partial_tree.last_place.Goals as goal
use Rattle.sabr_frontier.proofs.loader.partial_tree.last_place.Goals.{else-is_empty-via-then-is_empty+else-is_empty-2, else-is_empty-via-else-is_empty}

pub loop-i-init : goal.loop-i-init
loop-i-init g c x m e = m

pub returns-then-eq-clause-some : goal.returns-then-eq-clause-some
returns-then-eq-clause-some g c =
    let xs = c.args.leaves.now in
    let i = c.loop-i.i in
    let x = c.index-leaves-i.result in
    let there = get_there xs i x c.loop-i-test.true c.index-leaves-i.is in
    let numbers = c.as_slice.ensures ∙ ap numbers_of c.leaf.view_is in
    let same : x.contacts ≡ c.args.last.now = sym numbers ∙ same_text c.as_slice.result.now c.args.last.now c.if-eq.ensures in
    record {
      count = grind (arith, nat_tests);
      is = ap contacts_in there ∙ same;
      right = inr (x, get_Member xs i x there, same);
    }

pub loop-i-preserved : goal.loop-i-preserved
loop-i-preserved g c y m e =
    let xs = c.args.leaves.now in
    let i = c.loop-i.i in
    let x = c.index-leaves-i.result in
    let numbers = c.as_slice.ensures ∙ ap numbers_of c.leaf.view_is in
    let more : take (i + 1) xs ≡ take i xs ++ x ∷ [] = take_more xs i x c.loop-i-test.true ∙ ap (λ z. take i xs ++ z ∷ []) (sym c.index-leaves-i.is) in
    elim (Member-append_cases y (take i xs) (x ∷ []) (subst (Member y) more m)) [
      | inl k ↦ c.loop-i.invariant y k e
      | inr k ↦ elim k [
        | inl same ↦ other_text c.as_slice.result.now c.args.last.now c.if-eq.ensures (numbers ∙ ap numbers_of (sym same) ∙ e)
        | inr z ↦ z
      ]
    ]

pub returns-clause-none : goal.returns-clause-none
returns-clause-none g c count given =
    let whole = take_all c.loop-i.i c.args.leaves.now c.loop-i-test.false in
    elim given [
      | inr w ↦ c.loop-i.invariant w.0 (subst (Member w.0) (sym whole) w.1) w.2
      | inl w ↦
          let none = ap (length {A = RouteRecord}) w.1 in
          let empty = ap (length {A = ℕ}) w.0 in
          elim c.else-is_empty.branch [
            | else-is_empty-via-then-is_empty+else-is_empty-2 v ↦ true≢false (sym (v.if-is_empty-2.ensures ∙ ap (λ n. n == 0) empty))
            | else-is_empty-via-else-is_empty v ↦ true≢false (sym (v.if-is_empty.ensures ∙ ap (λ n. n == 0) none))
          ]
    ]
