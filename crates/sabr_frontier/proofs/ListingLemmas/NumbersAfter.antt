-- What holds of the number that follows a beginning.
use Rattle.sabr_frontier.proofs.Names.{◌≡◌, ℕ, true, false, cond, List, [], ◌∷◌, ◌++◌, sym, ap, subst, refl, ◌∙◌, ◌⊎◌, inl, inr, Some, None, append_assoc, not, length, take, drop, eq-eqb, eqb-true, false_from_ne_true, nat_cmp, by_numbers, number_after, goes_on, number_after_some, number_after-append, goes_on_parts, slice_get, option_map_or, take-append-drop, append_cancel_left, take-append_seam}
use Rattle.std.proofs.Common.{◌==◌}
use Rattle.std.specs.FinMap.{slice_cmp-IsAntisymmetric, nat_cmp-IsAntisymmetric}
use Rattle.sabr_frontier.proofs.ListingLemmas.ListMembers.{IsExact}
use Rattle.sabr_model.specs.plan.Plan.{has}

pub lists_exact : IsExact by_numbers
lists_exact = slice_cmp-IsAntisymmetric nat_cmp-IsAntisymmetric

pub numbers_exact : IsExact nat_cmp
numbers_exact = nat_cmp-IsAntisymmetric

pub number_after-snoc : (p r : List ℕ) (x : ℕ) → number_after p (p ++ x ∷ r) ≡ Some x
number_after-snoc p r x = number_after-append p x r

pub number_after-nil : (p : List ℕ) (x : ℕ) → number_after p [] ≡ Some x → ⊥
number_after-nil [] x e = cc
number_after-nil (y ∷ p) x e = cc

-- the head test taken apart
pub number_after-step : (x y n : ℕ) (p s : List ℕ) → number_after (x ∷ p) (y ∷ s) ≡ Some n → (x ≡ y) × (number_after p s ≡ Some n)
number_after-step x y n p s e = elim (x == y) as (λ b. (x == y) ≡ b → cond b (number_after p s) None ≡ Some n → (x ≡ y) × (number_after p s ≡ Some n)) [
  | true ↦ λ t e. (eqb-true x y t, e)
  | false ↦ λ t e. cc
] refl e

pub number_after-same : (x n : ℕ) (p s : List ℕ) → number_after p s ≡ Some n → number_after (x ∷ p) (x ∷ s) ≡ Some n
number_after-same x n p s e = ap (λ b. cond b (number_after p s) None) (eq-eqb x x refl) ∙ e

pub number_after-trans : (p q s : List ℕ) (x y : ℕ) → number_after p q ≡ Some x → number_after q s ≡ Some y → number_after p s ≡ Some x
number_after-trans p q s x y e f =
    let v = number_after_some p q x e in
    let w = number_after_some q s y f in
    ap (number_after p) (w.1 ∙ ap (λ z. z ++ y ∷ w.0) v.1 ∙ append_assoc p (x ∷ v.0) (y ∷ w.0)) ∙ number_after-append p x (v.0 ++ y ∷ w.0)

-- two proper beginnings of one list
pub number_after-compare : (p q s : List ℕ) (x y : ℕ) → number_after p s ≡ Some x → number_after q s ≡ Some y → (p ≡ q) ⊎ ((number_after p q ≡ Some x) ⊎ (number_after q p ≡ Some y))
number_after-compare p q [] x y e f = absurd (number_after-nil p x e)
number_after-compare [] [] (c ∷ s) x y e f = inl refl
number_after-compare [] (b ∷ q) (c ∷ s) x y e f = inr (inl (ap Some (number_after-step b c y q s f).0 ∙ e))
number_after-compare (a ∷ p) [] (c ∷ s) x y e f = inr (inr (ap Some (number_after-step a c x p s e).0 ∙ f))
number_after-compare (a ∷ p) (b ∷ q) (c ∷ s) x y e f =
    let h = number_after-step a c x p s e in
    let g = number_after-step b c y q s f in
    let same : a ≡ b = h.0 ∙ sym g.0 in
    elim (number_after-compare p q s x y h.1 g.1) [
      | inl t ↦ inl (λ i. same i ∷ t i)
      | inr t ↦ elim t [
        | inl u ↦ inr (inl (subst (λ z. number_after (a ∷ p) (z ∷ q) ≡ Some x) same (number_after-same a x p q u)))
        | inr u ↦ inr (inr (subst (λ z. number_after (z ∷ q) (a ∷ p) ≡ Some y) same (number_after-same a y q p u)))
      ]
    ]

-- one number longer: it is the whole list, or more follows
pub number_after-longer : (p s : List ℕ) (x : ℕ) → number_after p s ≡ Some x → (s ≡ p ++ x ∷ []) ⊎ ((y : ℕ) × (number_after (p ++ x ∷ []) s ≡ Some y))
number_after-longer p s x e =
    let w = number_after_some p s x e in
    elim w.0 as (λ z. s ≡ p ++ x ∷ z → (s ≡ p ++ x ∷ []) ⊎ ((y : ℕ) × (number_after (p ++ x ∷ []) s ≡ Some y))) [
      | [] ↦ λ e. inl e
      | y ∷ z ↦ λ e. inr (y, ap (number_after (p ++ x ∷ [])) (e ∙ sym (append_assoc p (x ∷ []) (y ∷ z))) ∙ number_after-append (p ++ x ∷ []) y z)
    ] w.1

-- what begins one list only by being it begins no longer one
pub number_after-of_longer : (p s : List ℕ) (x y : ℕ) → number_after (p ++ x ∷ []) s ≡ Some y → number_after p s ≡ Some x
number_after-of_longer p s x y e = number_after-trans p (p ++ x ∷ []) s x y (number_after-snoc p [] x) e

-- a beginning of a list with one number more is the list or a beginning of it
pub number_after-of_snoc : (p q : List ℕ) (x y : ℕ) → number_after p (q ++ y ∷ []) ≡ Some x → ((p ≡ q) × (x ≡ y)) ⊎ (number_after p q ≡ Some x)
number_after-of_snoc [] [] x y e = inl (refl, cc)
number_after-of_snoc [] (b ∷ q) x y e = inr e
number_after-of_snoc (a ∷ p) [] x y e = absurd (number_after-nil p x (number_after-step a y x p [] e).1)
number_after-of_snoc (a ∷ p) (b ∷ q) x y e =
    let h = number_after-step a b x p (q ++ y ∷ []) e in
    elim (number_after-of_snoc p q x y h.1) [
      | inl t ↦ inl (λ i. h.0 i ∷ t.0 i, t.1)
      | inr t ↦ inr (subst (λ z. number_after (a ∷ p) (z ∷ q) ≡ Some x) h.0 (number_after-same a x p q t))
    ]

-- ---- how a list goes on after a prefix, read from its front and the rest

whole : (p s rest : List ℕ) → take (length p) s ≡ p → rest ≡ drop (length p) s → s ≡ p ++ rest
whole p s rest e d = sym (take-append-drop (length p) s) ∙ (λ i. e i ++ sym d i)

-- nothing after the prefix
pub ends_there : (p X s rest : List ℕ) → take (length p) s ≡ p → rest ≡ drop (length p) s → slice_get rest 0 ≡ None → goes_on p X s ≡ false
ends_there p X s [] e d n = false_from_ne_true (goes_on p X s) (λ h.
    let w = goes_on_parts p X s h in
    let more : [] ≡ w.0 ∷ w.1 = append_cancel_left p [] (w.0 ∷ w.1) (sym (whole p s [] e d) ∙ w.2) in
    cc)
ends_there p X s (y ∷ rest) e d n = absurd cc

-- a number after it
pub goes_there : (p X s rest : List ℕ) (x : ℕ) → take (length p) s ≡ p → rest ≡ drop (length p) s → Some x ≡ slice_get rest 0 → not (has x X) ≡ goes_on p X s
goes_there p X s [] x e d n = absurd cc
goes_there p X s (y ∷ rest) x e d n =
    let same : x ≡ y = cc in
    sym (ap (λ o. option_map_or (λ n. not (has n X)) o false) (ap (number_after p) (whole p s (y ∷ rest) e d) ∙ number_after-snoc p rest y ∙ ap Some (sym same)))

-- another front
pub begins_otherwise : (p X s : List ℕ) → (take (length p) s ≡ p → ⊥) → goes_on p X s ≡ false
begins_otherwise p X s ne = false_from_ne_true (goes_on p X s) (λ h. let w = goes_on_parts p X s h in ne (ap (take (length p)) w.2 ∙ take-append_seam p (w.0 ∷ w.1)))
