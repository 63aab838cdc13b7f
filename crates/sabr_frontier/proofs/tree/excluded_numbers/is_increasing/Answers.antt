use Rattle.sabr_frontier.proofs.Names.{◌≡◌, ℕ, zero, suc, ◌+◌, ◌<◌, ◌&&◌, Bool, true, false, List, [], ◌∷◌, get_or, length, ltb, refl, sym, ap, subst, ◌∙◌, arith, rules, of_calls, always_returns_same, IsAllAdjacentAnswer, rises_above, rise_strictly}
use Rattle.sabr_frontier.proofs.tree.excluded_numbers.is_increasing.Goals as goal

all_rise : (x : ℕ) (xs : List ℕ) → ((k j d : ℕ) → j ≡ k + 1 → j < length (x ∷ xs) → true ≡ ltb (get_or (x ∷ xs) k d) (get_or (x ∷ xs) j d)) → true ≡ rises_above x xs
all_rise x [] f = refl
all_rise x (y ∷ ys) f = all_rise y ys (λ k j d e l. f (suc k) (suc j) d (omega (arith, e)) (omega (arith, l))) ∙ ap (λ b. b && rises_above y ys) (f 0 1 0 (omega arith) (omega arith))

one_falls : (x : ℕ) (xs : List ℕ) (k j : ℕ) → j ≡ k + 1 → j < length (x ∷ xs) → ((d : ℕ) → false ≡ ltb (get_or (x ∷ xs) k d) (get_or (x ∷ xs) j d)) → false ≡ rises_above x xs
one_falls x [] k j e l f = absurd (omega (arith, e, l))
one_falls x (y ∷ ys) k zero e l f = absurd (omega (arith, e))
one_falls x (y ∷ ys) zero (suc j) e l f = let one : j ≡ 0 = omega (arith, e) in ap (λ b. b && rises_above y ys) (f 0 ∙ ap (λ n. ltb x (get_or (y ∷ ys) n 0)) one)
one_falls x (y ∷ ys) (suc k) (suc j) e l f = elim (ltb x y) as (λ b. false ≡ (b && rises_above y ys)) [ true ↦ one_falls y ys k j (omega (arith, e)) (omega (arith, l)) f | false ↦ refl ]

rises_by : (xs : List ℕ) (b : Bool) → IsAllAdjacentAnswer (λ x y c. c ≡ ltb x y) xs b → b ≡ rise_strictly xs
rises_by [] true h = refl
rises_by [] false h = absurd (let l = h.1 in omega (arith, l))
rises_by (x ∷ xs) true h = all_rise x xs (λ k j d e. subst (λ n. n < length (x ∷ xs) → true ≡ ltb (get_or (x ∷ xs) k d) (get_or (x ∷ xs) n d)) (sym e) (h k d))
rises_by (x ∷ xs) false h = one_falls x xs h.0 (h.0 + 1) refl h.1 h.2

pub returns : goal.returns
returns c = rises_by c.args.numbers.now c.is_sorted_by.result (c.is_sorted_by.ensures.cases ltb (always_returns_same _ (λ a r. r ≡ ltb a.0.now a.1.0.now) _ (λ a r q k. search (rules, of_calls))))
