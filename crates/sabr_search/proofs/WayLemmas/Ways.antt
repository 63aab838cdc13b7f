-- Ways, joined and taken apart, and what a pick of the smallest numbers says.
use Rattle.std.proofs.Common.{◌≡◌, ℕ, ◌≤◌, List, [], ◌∷◌, ◌++◌, refl, arith, ◌+◌, ◌<◌, length, length-append}
use Rattle.sabr_search.specs.questions.FirstSteps.{StepRelation, Leads}

-- no step goes back in time, a bundle that comes earlier arrives, too, and no later, and a number names one step
pub record IsTimely (T : StepRelation) : Type 0 where
  pub later : (n u t w b : ℕ) → T n u t w b → t ≤ b
  pub earlier : (n u t w b s : ℕ) → T n u t w b → s ≤ t → (a : ℕ) × (a ≤ b) × T n u s w a
  pub one : (n u t w b x c : ℕ) → T n u t w b → T n u t x c → (w ≡ x) × (b ≡ c)

module _ (T : StepRelation) (timely : IsTimely T) where
  pub Leads-append : (xs ys : List ℕ) (u t v e w f : ℕ) → Leads T u t xs v e → Leads T v e ys w f → Leads T u t (xs ++ ys) w f
  Leads-append [] ys u t v e w f h k = rw (h.0, h.1) k
  Leads-append (x ∷ xs) ys u t v e w f h k = (h.0, h.1, h.2, Leads-append xs ys h.0 h.1 v e w f h.3 k)

  pub Leads-split : (xs ys : List ℕ) (u t w f : ℕ) → Leads T u t (xs ++ ys) w f → (v : ℕ) × (e : ℕ) × Leads T u t xs v e × Leads T v e ys w f
  Leads-split [] ys u t w f h = (u, t, (refl, refl), h)
  Leads-split (x ∷ xs) ys u t w f h =
      let r = Leads-split xs ys h.0 h.1 w f h.3 in (r.0, r.1, (h.0, h.1, h.2, r.2), r.3)

  pub Leads-later : (ns : List ℕ) (u t v e : ℕ) → Leads T u t ns v e → t ≤ e
  Leads-later [] u t v e h = omega (arith, h.1)
  Leads-later (n ∷ ns) u t v e h = omega (arith, timely.later n u t h.0 h.1 h.2, Leads-later ns h.0 h.1 v e h.3)

  pub Leads-earlier : (ns : List ℕ) (u t v e s : ℕ) → Leads T u t ns v e → s ≤ t → (d : ℕ) × (d ≤ e) × Leads T u s ns v d
  Leads-earlier [] u t v e s h le = (s, omega (arith, h.1), (h.0, refl))
  Leads-earlier (n ∷ ns) u t v e s h le =
      let first = timely.earlier n u t h.0 h.1 s h.2 le in
      let rest = Leads-earlier ns h.0 h.1 v e first.0 h.3 first.1 in
      (rest.0, rest.1, (h.0, first.0, first.2, rest.2))

-- if fewer hops come later, a way with which the goal is reached by d comes to no node twice
pub no_return : (T : StepRelation) → IsTimely T → (start at goal r d : ℕ) → ((ns : List ℕ) (e : ℕ) → length ns < r → Leads T start at ns goal e → d < e) →
    (xs ys zs : List ℕ) (v t s e : ℕ) → Leads T start at xs v t → Leads T v t ys v s → Leads T v s zs goal e → e ≤ d → length xs + length ys + length zs ≡ r → 0 < length ys → ⊥
no_return T timely start at goal r d fewest xs ys zs v t s e to round on deadline sum pos =
    let sooner = Leads-earlier T timely zs v s goal e t on (Leads-later T timely ys v t v s round) in
    let short : length (xs ++ zs) < r = omega (arith, length-append xs zs) in
    omega (arith, sooner.1, fewest (xs ++ zs) sooner.0 short (Leads-append T timely xs zs start at v t goal sooner.0 to sooner.2))
