use Rattle.std.proofs.Common.{◌≡◌, ◌≢◌, ◌⊎◌, inl, inr, ℕ, ◌+◌, ◌-◌, ◌<◌, Bool, false, List, Some, length, vec_len, slice_get, slice_index_or, slice_set, ap, sym, ◌∙◌, arith}
use Rattle.std.proofs.lemmas.List.{get_or-set_other}
use Rattle.sabr_search.proofs.ForwardLemmas.Queues.{off_here}
use Rattle.std.proofs.lemmas.Bool.{cases_eq, both_ways}
use Rattle.std.proofs.lemmas.Grind.{common_steps}
use Rattle.std.proofs.lemmas.Option.{slice_get-get_or, slice_get_within, get_or_from_slice_get}
use Rattle.sabr_search.specs.answers.CachedAnswers.{IsListing}
use Rattle.sabr_search.proofs.prefix_path.forbidden_nodes.ForbiddenNodes.allow.Goals as goal

-- the last node takes the place of one that is opened
module _ (flags : List Bool) (nodes nodes' : List ℕ) (node place : ℕ) (was : IsListing flags nodes) (at : slice_get nodes place ≡ Some node) (last : ℕ) (end : last + 1 ≡ length nodes) (less : length nodes' + 1 ≡ length nodes)
    (here : place + 1 < length nodes → slice_index_or nodes' place 0 ≡ slice_index_or nodes last 0) (others : (k : ℕ) → k ≢ place → k + 1 < length nodes → slice_index_or nodes' k 0 ≡ slice_index_or nodes k 0) where
  -- where a node that is listed still was before
  before : (i k : ℕ) → slice_get nodes' i ≡ Some k → ((i ≢ place) × (slice_get nodes i ≡ Some k)) ⊎ ((i ≡ place) × (slice_get nodes last ≡ Some k))
  before i k listed =
      let within = slice_get_within nodes' i k listed in
      let value : slice_index_or nodes' i 0 ≡ k = get_or_from_slice_get nodes' i k 0 listed in
      elim (cases_eq i place) [
        | inl same ↦
            let value' : slice_index_or nodes' place 0 ≡ k = ap (λ j. slice_index_or nodes' j 0) (sym same) ∙ value in
            inr (same, slice_get-get_or nodes last 0 (omega (arith, end)) ∙ ap Some (sym (here (omega (arith, within, less, same))) ∙ value'))
        | inr other ↦ inl (other, slice_get-get_or nodes i 0 (omega (arith, within, less)) ∙ ap Some (sym (others i other (omega (arith, within, less))) ∙ value))
      ]

  kept : (i k : ℕ) → i ≢ place → i + 1 < length nodes → slice_get nodes i ≡ Some k → slice_get nodes' i ≡ Some k
  kept i k other lt listed = slice_get-get_or nodes' i 0 (omega (arith, lt, less)) ∙ ap Some (others i other lt ∙ get_or_from_slice_get nodes i k 0 listed)

  moved : (i k : ℕ) → i + 1 ≡ length nodes → place ≢ i → slice_get nodes i ≡ Some k → slice_get nodes' place ≡ Some k
  moved i k i_last other listed =
      let lt : place + 1 < length nodes = (let p_in = slice_get_within nodes place node at in omega (arith, p_in, i_last, other)) in
      let i_is : last ≡ i = omega (arith, i_last, end) in
      slice_get-get_or nodes' place 0 (omega (arith, lt, less)) ∙ ap Some (here lt ∙ ap (λ j. slice_index_or nodes j 0) i_is ∙ get_or_from_slice_get nodes i k 0 listed)

  listing_less : IsListing (slice_set flags node false) nodes'
  listing_less = record {
    listed = λ k on. elim (cases_eq k node) [
      | inl same ↦ absurd (both_ways (slice_index_or (slice_set flags node false) node false) (off_here flags node) (ap (λ j. slice_index_or (slice_set flags node false) j false) (sym same) ∙ on))
      | inr other ↦
          let old = was.listed k (sym (get_or-set_other flags node k false false other) ∙ on) in
          let apart : place ≢ old.0 = λ same. other (let q : Some k ≡ Some node = sym old.1 ∙ ap (slice_get nodes) (sym same) ∙ at in cc (q)) in
          elim (cases_eq (old.0 + 1) (length nodes)) [
            | inl i_last ↦ (place, moved old.0 k i_last apart old.1)
            | inr sooner ↦ (old.0, kept old.0 k (λ same. apart (sym same)) (let within = slice_get_within nodes old.0 k old.1 in omega (arith, within, sooner)) old.1)
          ]
    ];
    all = λ i k listed. elim (before i k listed) [
      | inl old ↦ get_or-set_other flags node k false false (λ same. old.0 (was.once i place node (old.1 ∙ ap Some same) at)) ∙ was.all i k old.1
      | inr old ↦
          get_or-set_other flags node k false false (λ same. let q = was.once last place node (old.1 ∙ ap Some same) at in let within = slice_get_within nodes' i k listed in absurd (omega (arith, q, old.0, within, less, end))) ∙ was.all last k old.1
    ];
    once = λ i j k one other.
        let i_in = slice_get_within nodes' i k one in
        let j_in = slice_get_within nodes' j k other in
        elim (before i k one) [
          | inl a ↦ elim (before j k other) [
            | inl b ↦ was.once i j k a.1 b.1
            | inr b ↦ (let q = was.once i last k a.1 b.1 in absurd (omega (arith, q, i_in, less, end)))
          ]
          | inr a ↦ elim (before j k other) [
            | inl b ↦ (let q = was.once j last k b.1 a.1 in absurd (omega (arith, q, j_in, less, end)))
            | inr b ↦ a.0 ∙ sym b.0
          ]
        ];
  }

pub invariant_of-self : goal.invariant_of-self
invariant_of-self g c =
    let nodes = c.self.inside.nodes.items in
    let at : slice_get nodes c.in-Some.place ≡ Some c.args.node = ap (λ xs. slice_get xs c.in-Some.place) (sym c.deref.ensures.value) ∙ c.in-Some.ensures.some in
    let within = slice_get_within nodes c.in-Some.place c.args.node at in
    (listing_less c.self.inside.flags.items nodes c.swap_remove.new.self.items c.args.node c.in-Some.place c.self.invariant.0 at (vec_len c.self.inside.nodes - 1) (omega (arith, within)) (omega (arith, c.swap_remove.ensures.len)) (λ lt. c.swap_remove.ensures.by_index.0 0 (omega (arith, lt))) (λ k other lt. c.swap_remove.ensures.by_index.1 k 0 other (omega (arith, lt))), grind (arith, common_steps, c.self.invariant.1))
