-- A text is a time if its fields are those of a second.
use Rattle.sabr_plan.proofs.Names.{◌≡◌, ◌≢◌, ℕ, ◌≤◌, List, Option, Some, None, IfSome, IsNone, true, false, sym, ap, ◌∙◌, refl, arith, false≢true, last_time}
use Rattle.sabr_plan.specs.Times.{fields_of, spelled, time_text_of, has_shape, fields_at}
use Rattle.sabr_plan.proofs.Spelling.{fields_at_spelled, text_has_shape, fields_at-text, fields_of_injective, time_of_is}
use Rattle.sabr_plan.proofs.time.parse_time.Goals as goal

-- a text without the shape is no time
no_time : (word : List ℕ) → has_shape word ≡ false → (t : ℕ) → t ≤ last_time → word ≡ time_text_of t → ⊥
no_time word h t k e = false≢true (sym h ∙ ap has_shape e ∙ text_has_shape t (omega arith))

module _ (word : List ℕ) (r : Option ℕ) (some : IfSome r (λ t. (fields_of t ≡ fields_at word) × (t ≤ last_time))) where
  tells : has_shape word ≡ true → IfSome r (λ t. (word ≡ time_text_of t) × (t ≤ last_time))
  unfolding time_text_of
  tells h =
      elim r as (λ o. IfSome o (λ t. (fields_of t ≡ fields_at word) × (t ≤ last_time)) → IfSome o (λ t. (word ≡ time_text_of t) × (t ≤ last_time))) [
        | None ↦ λ s. tt
        | Some t ↦ λ s. (fields_at_spelled word h ∙ ap spelled (sym s.0), s.1)
      ] some

  finds : (IsNone r → (t : ℕ) → t ≤ last_time → fields_of t ≢ fields_at word) → (t : ℕ) → t ≤ last_time → word ≡ time_text_of t → r ≡ Some t
  finds none t k e =
      let fields : fields_at word ≡ fields_of t = ap fields_at e ∙ fields_at-text t in
      elim r as (λ o. IfSome o (λ u. (fields_of u ≡ fields_at word) × (u ≤ last_time)) → (IsNone o → (u : ℕ) → u ≤ last_time → fields_of u ≢ fields_at word) → o ≡ Some t) [
        | None ↦ λ s n. absurd (n refl t k (sym fields))
        | Some u ↦ λ s n. ap Some (fields_of_injective u t (omega (arith, s.1)) (omega arith) (s.0 ∙ fields))
      ] some none

pub returns-then-not-has_shape : goal.returns-then-not-has_shape
returns-then-not-has_shape c =
    let none = no_time c.args.text.now (sym c.has_shape.ensures ∙ c.if-not-has_shape.true) in
    record { some = tt; all = λ t k e. absurd (none t k e); value = time_of_is c.args.text.now None tt (λ t k e. absurd (none t k e)) }

pub returns : goal.returns
returns c =
    let h = rw c.fields_at.ensures.value at c.second_of.ensures in
    let some = tells c.args.text.now c.second_of.result h.some (sym c.has_shape.ensures ∙ c.if-not-has_shape.false) in
    let all = finds c.args.text.now c.second_of.result h.some h.none in
    record { some = some; all = all; value = time_of_is c.args.text.now c.second_of.result some all }
