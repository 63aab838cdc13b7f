use Rattle.sabr_frontier.proofs.Names.{◌≡◌, ◌⊎◌, ◌∙◌, ℕ, true, [], ap, inl, inr, sym, true≢false, is_some, nat_cmp, has, partial_shape_of}
use Rattle.sabr_frontier.proofs.LoadingLemmas.LoadedParts.{empty_list, some_number, verdict_from}
use Rattle.sabr_frontier.proofs.loader.partial_tree.PartialTree.check.Goals as goal
use Rattle.sabr_frontier.proofs.loader.partial_tree.PartialTree.check.Goals.{else-not-is_empty-via-then-not-is_empty+else-is_empty, else-not-is_empty-via-else-not-is_empty}

pub returns-clause-verdict : goal.returns-clause-verdict
returns-clause-verdict g c =
    let q = c.args.prefix.now in
    let X = c.args.excluded.now in
    let busy : (q ≡ []) ⊎ ((x : ℕ) × (has nat_cmp x X ≡ true)) = elim c.else-not-is_empty.branch [
      | else-not-is_empty-via-then-not-is_empty+else-is_empty w ↦ inr (some_number X (sym w.is_empty-then-not-is_empty.ensures ∙ w.if-is_empty.false))
      | else-not-is_empty-via-else-not-is_empty w ↦ inl (empty_list q (sym c.is_empty.ensures ∙ w.if-not-is_empty.false))
    ] in
    verdict_from c.args.question.now.plan.now.plan c.args.question.now.request (partial_shape_of c.args.self.now) (q, X) (sym c.requires.expected ∙ ap is_some c.in-Some.is) busy c.check.result c.check.ensures.some c.check.ensures.none

pub returns-in_default-clause-verdict : goal.returns-in_default-clause-verdict
returns-in_default-clause-verdict g c least good = true≢false (sym least ∙ sym c.requires.expected ∙ ap is_some c.in_default.is)
