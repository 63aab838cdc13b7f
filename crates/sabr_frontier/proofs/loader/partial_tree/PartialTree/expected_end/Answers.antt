use Rattle.sabr_frontier.proofs.Names.{◌≡◌, ◌≤◌, ◌∙◌, Some, ap, sym, subst, length, partial_shape_of, IsPathEnd, expected_prefix, last_item}
use Rattle.sabr_frontier.proofs.LoadingLemmas.LoadedParts.{other_is_not_expected, same_is_expected}
use Rattle.sabr_frontier.proofs.TreeLemmas.ModifiedPlaces.{get_Member}
use Rattle.sabr_frontier.proofs.loader.partial_tree.PartialTree.expected_end.Goals as goal

pub is-requires : goal.is-requires
is-requires g c =
    let h = partial_shape_of c.args.self.now in
    let o = c.in-Some.expected.now in
    let last : last_item h.expected ≡ Some o = sym (c.in-Some.ensures.value ∙ ap last_item c.deref.ensures.value) in
    subst (λ q. o.length ≤ length q) (sym c.as_slice.ensures.value) ((c.requires c.if-not-self.false).within o (get_Member h.expected _ o last))

pub returns-then-is : goal.returns-then-is
returns-then-is g c =
    let h = partial_shape_of c.args.self.now in
    let o = c.in-Some.expected.now in
    let last : last_item h.expected ≡ Some o = sym (c.in-Some.ensures.value ∙ ap last_item c.deref.ensures.value) in
    let same = c.is.ensures.same c.if-is.true ∙ ap (λ q. expected_prefix q o) c.as_slice.ensures.value in
    record {
      expected = sym (same_is_expected h c.args.prefix.now o last c.if-not-self.false same);
      end = subst (λ q. IsPathEnd c.args.question.now.plan.now.plan c.args.question.now.request q o.end) (sym same) ((c.requires c.if-not-self.false).ends o (get_Member h.expected _ o last));
    }

pub returns-clause-expected : goal.returns-clause-expected
returns-clause-expected g c =
    let h = partial_shape_of c.args.self.now in
    let o = c.in-Some.expected.now in
    let last : last_item h.expected ≡ Some o = sym (c.in-Some.ensures.value ∙ ap last_item c.deref.ensures.value) in
    sym (other_is_not_expected h c.args.prefix.now o last c.if-not-self.false (λ same. c.is.ensures.other c.if-is.false (same ∙ sym (ap (λ q. expected_prefix q o) c.as_slice.ensures.value))))
