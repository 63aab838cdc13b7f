-- Contacts whose numbers rise: how far a number can be from its place, and the only contact with a number.
use Rattle.std.proofs.Common.{◌≡◌, ℕ, zero, suc, ◌+◌, ◌<◌, ◌≤◌, true, cond, eqb, ltb, List, [], ◌∷◌, length, get_or, map, ap, ◌∙◌, arith}
use Rattle.std.specs.Prelude.{slice_get}
use Rattle.std.specs.List.{find}
use Rattle.std.proofs.lemmas.Bool.{and_parts, ltb-true, ne_eqb, eq-eqb}
use Rattle.std.specs.declared.option.Option.TheVariants.{Some}
use Rattle.sabr_model.specs.declared.contact.Contact.{Contact}
use Rattle.sabr_model.specs.plan.Plan.{rises_above}

-- a number is above its place
pub number_above : (low : ℕ) (cs : List Contact) (k : ℕ) (d : Contact) → rises_above low (map (λ c. c.number) cs) ≡ true → k < length cs → low + k + 1 ≤ (get_or cs k d).number
number_above low [] k d rises lt = absurd (omega arith)
number_above low (c ∷ cs) zero d rises lt = let above = ltb-true low c.number (and_parts (ltb low c.number) (rises_above c.number (map (λ e. e.number) cs)) rises).0 in omega (arith, above)
number_above low (c ∷ cs) (suc k) d rises lt =
    let parts = and_parts (ltb low c.number) (rises_above c.number (map (λ e. e.number) cs)) rises in
    omega (arith, ltb-true low c.number parts.0, number_above c.number cs k d parts.1 (omega arith))

-- numbers rise at least as fast as their places
pub numbers_apart : (low : ℕ) (cs : List Contact) (i j : ℕ) (d e : Contact) → rises_above low (map (λ c. c.number) cs) ≡ true → i < j → j < length cs → (get_or cs i d).number + j ≤ (get_or cs j e).number + i
numbers_apart low [] i j d e rises lt within = absurd (omega arith)
numbers_apart low (c ∷ cs) i zero d e rises lt within = absurd (omega arith)
numbers_apart low (c ∷ cs) zero (suc j) d e rises lt within =
    let parts = and_parts (ltb low c.number) (rises_above c.number (map (λ e. e.number) cs)) rises in
    omega (arith, number_above c.number cs j e parts.1 (omega arith))
numbers_apart low (c ∷ cs) (suc i) (suc j) d e rises lt within =
    let parts = and_parts (ltb low c.number) (rises_above c.number (map (λ e. e.number) cs)) rises in
    omega (arith, numbers_apart c.number cs i j d e parts.1 (omega arith) (omega arith))

-- a search for a number finds the contact at the place with this number
pub found_here : (low : ℕ) (cs : List Contact) (n k : ℕ) (d : Contact) → rises_above low (map (λ c. c.number) cs) ≡ true → k < length cs → (get_or cs k d).number ≡ n → find (λ c. eqb c.number n) cs ≡ slice_get cs k
found_here low [] n k d rises lt is = absurd (omega arith)
found_here low (c ∷ cs) n zero d rises lt is = ap (λ b. cond b (Some c) (find (λ c. eqb c.number n) cs)) (eq-eqb c.number n is)
found_here low (c ∷ cs) n (suc k) d rises lt is =
    let parts = and_parts (ltb low c.number) (rises_above c.number (map (λ e. e.number) cs)) rises in
    let above = number_above c.number cs k d parts.1 (omega arith) in
    ap (λ b. cond b (Some c) (find (λ c. eqb c.number n) cs)) (ne_eqb c.number n (λ e. omega (arith, e, above, is))) ∙ found_here c.number cs n k d parts.1 (omega arith) is
