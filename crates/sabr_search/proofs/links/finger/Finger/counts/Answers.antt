use Rattle.std.proofs.Common.{◌≡◌, ◌+◌, ◌-◌, inl, inr, sym, ap, ◌∙◌, arith}
use Rattle.std.proofs.lemmas.Bool.{cases_eq}
use Rattle.sabr_model.specs.plan.Plan.{has}
use Rattle.sabr_search.proofs.LinkLemmas.PlanFacts.{has_from_iff}
use Rattle.sabr_search.proofs.LinkLemmas.Rising.{never_falls}
use Rattle.sabr_search.proofs.links.finger.Finger.counts.Goals as goal

pub finds-requires : goal.finds-requires
finds-requires c = λ increases. never_falls c.args.excluded.numbers.now (c.args.excluded.known increases)

pub returns-then-not-finds-clause-none : goal.returns-then-not-finds-clause-none
returns-then-not-finds-clause-none c = λ zero. sym (has_from_iff c.finds.result c.args.excluded.numbers.now c.args.number c.finds.ensures) ∙ c.if-not-finds.true

pub returns-then-not-in_order-clause-some : goal.returns-then-not-in_order-clause-some
returns-then-not-in_order-clause-some c = λ j less.
    let here : c.args.number + j ≡ c.args.number = omega (arith, less) in
    ap (λ n. has n c.args.excluded.numbers.now) here ∙ sym (has_from_iff c.finds.result c.args.excluded.numbers.now c.args.number c.finds.ensures) ∙ c.if-not-finds.false

pub returns-clause-some : goal.returns-clause-some
returns-clause-some c = λ j less.
    let numbers = c.args.excluded.numbers.now in
    let n = c.args.number in
    elim (cases_eq j 0) [
      | inl first ↦
          let here : n + j ≡ n = omega (arith, first) in
          ap (λ m. has m numbers) here ∙ sym (has_from_iff c.finds.result numbers n c.finds.ensures) ∙ c.if-not-finds.false
      | inr further ↦
          let there : n + j ≡ n + 1 + (j - 1) = omega (arith, further) in
          ap (λ m. has m numbers) there ∙ c.row_after-more.ensures.some (j - 1) (omega (arith, less, further))
    ]
