-- A contact that is taken out of its place, and what stands beside the others.
use Rattle.std.proofs.Common.{◌≡◌, ℕ, zero, suc, ◌+◌, ◌<◌, Bool, true, cond, not, ltb, List, [], ◌∷◌, length, get_or, map, remove, refl, sym, ap, subst, ◌∙◌, inl, inr, arith}
use Rattle.std.specs.Prelude.{slice_get, MatchOption}
use Rattle.std.specs.List.{find, position, position_or_len, AllByRecursion}
use Rattle.std.proofs.lemmas.Bool.{and_parts, eq-eqb, ne_eqb, ltb-true, ltb-false, cases_lt, cond_both}
use Rattle.std.proofs.lemmas.List.Edits.{length-remove, get_or-remove_below, get_or-remove_above}
use Rattle.std.proofs.lemmas.List.Folds.{find_at}
use Rattle.std.proofs.lemmas.Option.{slice_get-get_or, slice_get_past}
use Rattle.std.specs.declared.option.Option.{Option}
use Rattle.std.specs.declared.option.Option.TheVariants.{Some, None}
use Rattle.sabr_model.specs.declared.contact.Contact.{Contact}
use Rattle.sabr_model.specs.declared.contact.Range.{Range}
use Rattle.sabr_model.specs.declared.plan.known.Known.{Known}
use Rattle.sabr_model.specs.plan.Plan.{rises_above}
use Rattle.sabr_model.specs.plan.Table.{without_number}
use Rattle.sabr_model.specs.plan.Known.{AreKnown}
use Rattle.sabr_model.proofs.PlanLemmas.Numbered.{number_above}
use Rattle.sabr_model.proofs.PlanLemmas.Without.{all_above}

-- the place is that of the first element that passes a test
abbrev Finds : {X : Type 0} → (X → Bool) → List X → Option ℕ → Type 0
Finds p xs o = MatchOption o (find p xs ≡ None) (λ k. (k < length xs) × (find p xs ≡ slice_get xs k))

pub found_place : {X : Type 0} (p : X → Bool) (xs : List X) (r : Option ℕ) → r ≡ position p xs → MatchOption r (find p xs ≡ None) (λ k. (k < length xs) × (find p xs ≡ slice_get xs k))
found_place p xs r e =
    let n = position_or_len p xs in
    subst (Finds p xs) (sym e)
    (cond_both (ltb n (length xs)) (Some n) None (Finds p xs) (λ h. (ltb-true n (length xs) h, find_at p xs)) (λ h. find_at p xs ∙ slice_get_past xs n (ltb-false n (length xs) h)))

-- what is found in a list that is lent
pub found_there : (p : Contact → Bool) (cs lent : List Contact) (i : ℕ) (x : Contact) → lent ≡ cs → (i < length lent) × (find p lent ≡ slice_get lent i) → x ≡ get_or cs i x → (i < length cs) × (find p cs ≡ Some x)
found_there p cs lent i x same there read =
    let at : (i < length cs) × (find p cs ≡ slice_get cs i) = subst (λ ds. (i < length ds) × (find p ds ≡ slice_get ds i)) same there in
    (at.0, at.1 ∙ slice_get-get_or cs i x at.0 ∙ ap Some (sym read))

-- ---- to take a contact out of its place is to filter out its number

keeps_above : (n : ℕ) (cs : List Contact) → AllByRecursion (λ d. n < d.number) cs → without_number n cs ≡ cs
keeps_above n [] all = refl
keeps_above n (c ∷ cs) all =
    ap (λ b. cond (not b) (c ∷ without_number n cs) (without_number n cs)) (ne_eqb c.number n (λ e. let lt : n < c.number = all.0 in omega (arith, lt, e)))
    ∙ ap (λ ds. c ∷ ds) (keeps_above n cs all.1)

removed : (low : ℕ) (cs : List Contact) (k : ℕ) (d : Contact) → rises_above low (map (λ c. c.number) cs) ≡ true → k < length cs → remove cs k ≡ without_number (get_or cs k d).number cs
removed low [] k d rises lt = absurd (omega arith)
removed low (c ∷ cs) zero d rises lt =
    let parts = and_parts (ltb low c.number) (rises_above c.number (map (λ e. e.number) cs)) rises in
    sym (ap (λ b. cond (not b) (c ∷ without_number c.number cs) (without_number c.number cs)) (eq-eqb c.number c.number refl) ∙ keeps_above c.number cs (all_above c.number cs parts.1))
removed low (c ∷ cs) (suc k) d rises lt =
    let parts = and_parts (ltb low c.number) (rises_above c.number (map (λ e. e.number) cs)) rises in
    let above = number_above c.number cs k d parts.1 (omega arith) in
    let n = (get_or cs k d).number in
    ap (λ ds. c ∷ ds) (removed c.number cs k d parts.1 (omega arith))
    ∙ sym (ap (λ b. cond (not b) (c ∷ without_number n cs) (without_number n cs)) (ne_eqb c.number n (λ e. omega (arith, e, above))))

-- the others are left
pub others : (cs : List Contact) (i : ℕ) (x : Contact) → rises_above 0 (map (λ c. c.number) cs) ≡ true → i < length cs → x ≡ get_or cs i x → remove cs i ≡ without_number x.number cs
others cs i x rises lt read = removed 0 cs i x rises lt ∙ ap (λ (d : Contact). without_number d.number cs) (sym read)

-- the others are known as before
pub known_removed : (table : List ℕ) (ranges : List Range) (lit : Bool) (cs : List Contact) (known : List Known) (i : ℕ) → i < length cs → AreKnown table ranges lit cs known → AreKnown table ranges lit (remove cs i) (remove known i)
known_removed table ranges lit cs known i lt h =
    let many = h.as_many in
    let within : i < length known = omega (arith, lt, many) in
    let one = length-remove cs i lt in
    let other = length-remove known i within in
    record {
      as_many = omega (arith, one, other, many);
      each = λ k d e less.
          elim (cases_lt k i) [
            | inl early ↦ rw (get_or-remove_below cs i d k early lt, get_or-remove_below known i e k early within) (h.each k d e (omega (arith, early, lt)))
            | inr late ↦ rw (get_or-remove_above cs i d k late lt, get_or-remove_above known i e k late within) (h.each (k + 1) d e (omega (arith, less, one)))
          ];
    }
