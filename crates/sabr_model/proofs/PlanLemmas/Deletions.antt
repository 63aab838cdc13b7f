-- A plan without some of its contacts or ranges is a plan.
use Rattle.std.proofs.Common.{◌≡◌, ℕ, ◌<◌, ◌≤◌, ◌^◌, Bool, true, false, cond, not, eqb, ltb, List, [], ◌∷◌, length, map, refl, sym, ap, subst, ◌∙◌, arith}
use Rattle.sabr_model.proofs.ListLemmas.Members.{all_in, find_in}
use Rattle.sabr_model.proofs.ListLemmas.Ordered.{all_weaker}
use Rattle.std.specs.List.{filter, find, list_any, AllByRecursion}
use Rattle.std.specs.List.Sorted.{IsStrictlySortedBy}
use Rattle.std.proofs.lemmas.Bool.{and_parts, and_from, or_parts, or_from, not-true, not_from_false, eq-eqb, ne_eqb, lt-ltb, ltb-true, both_ways, cond_both}
use Rattle.std.proofs.lemmas.Bool.Decides.{nat_tests}
use Rattle.std.proofs.lemmas.List.Elements.{All-filter, All-from_recursion, recursion_from_All}
use Rattle.std.specs.declared.option.Option.TheVariants.{Some}
use Rattle.std.specs.declared.cmp.Ordering.TheVariants.{Less}
use Rattle.sabr_model.specs.declared.contact.Contact.{Contact}
use Rattle.sabr_model.specs.declared.contact.Range.{Range}
use Rattle.sabr_model.specs.Order.{by_key}
use Rattle.sabr_model.specs.plan.Plan.{ContactPlan, IsPlan, IsWindow, IsPair, rises_above, opens, same_opening, overlap, none_twice, range_key}
use Rattle.sabr_model.specs.plan.Table.{without_number}
use Rattle.sabr_model.proofs.PlanLemmas.Without.{all_above, is_one}

-- two tests, each of which implies the other, are the same
alike : (a b : Bool) → (a ≡ true → b ≡ true) → (b ≡ true → a ≡ true) → a ≡ b
alike true b f g = sym (f refl)
alike false true f g = g refl
alike false false f g = refl

module _ {X : Type 0} where
  pub all_filter : (P : X → Type 0) (t : X → Bool) (xs : List X) → AllByRecursion P xs → AllByRecursion P (filter t xs)
  all_filter P t xs all = recursion_from_All P (filter t xs) (All-filter t P xs (All-from_recursion P xs all))

  -- if no element passes a test, none of a filtered list does
  pub any_filter : (p t : X → Bool) (xs : List X) → list_any p xs ≡ false → list_any p (filter t xs) ≡ false
  any_filter p t [] none = refl
  any_filter p t (x ∷ xs) none =
      let parts = or_parts (p x) (list_any p xs) none in
      let rest = any_filter p t xs parts.1 in
      cond_both (t x) (x ∷ filter t xs) (filter t xs) (λ ys. list_any p ys ≡ false) (λ _. or_from (p x) (list_any p (filter t xs)) parts.0 rest) (λ _. rest)

  -- if no two elements pass a test, no two of a filtered list do
  pub none_twice-filter : (same : X → X → Bool) (t : X → Bool) (xs : List X) → none_twice same xs ≡ true → none_twice same (filter t xs) ≡ true
  none_twice-filter same t [] none = refl
  none_twice-filter same t (x ∷ xs) none =
      let parts = and_parts (not (list_any (same x) xs)) (none_twice same xs) none in
      let rest = none_twice-filter same t xs parts.1 in
      cond_both (t x) (x ∷ filter t xs) (filter t xs) (λ ys. none_twice same ys ≡ true)
      (λ _. and_from (not (list_any (same x) (filter t xs))) (none_twice same (filter t xs)) (not_from_false (list_any (same x) (filter t xs)) (any_filter (same x) t xs (not-true (list_any (same x) xs) parts.0))) rest)
      (λ _. rest)

  -- a filter adds nothing
  pub length-filter_le : (t : X → Bool) (xs : List X) → length (filter t xs) ≤ length xs
  length-filter_le t [] = omega arith
  length-filter_le t (x ∷ xs) =
      let rest = length-filter_le t xs in
      elim (t x) as (λ b. length (cond b (x ∷ filter t xs) (filter t xs)) ≤ length (x ∷ xs)) [ true ↦ omega (arith, rest) | false ↦ omega (arith, rest) ]

  -- what holds for all elements holds for the one that is found
  pub all_found : (P : X → Type 0) (t : X → Bool) (xs : List X) (x : X) → AllByRecursion P xs → find t xs ≡ Some x → P x
  all_found P t xs x all found = all_in P xs all x (find_in t xs x found).0

  -- the element that is found passes the test
  pub found_passes : (t : X → Bool) (xs : List X) (x : X) → find t xs ≡ Some x → t x ≡ true
  found_passes t xs x found = (find_in t xs x found).1

  -- if no element passes, each fails
  pub any_none : (p : X → Bool) (xs : List X) → list_any p xs ≡ false → AllByRecursion (λ x. p x ≡ false) xs
  any_none p [] none = tt
  any_none p (x ∷ xs) none = let parts = or_parts (p x) (list_any p xs) none in (parts.0, any_none p xs parts.1)

  -- two tests that the same element alone passes filter a list alike
  filter_alike : (p q : X → Bool) (c : X) (xs : List X) → p c ≡ true → q c ≡ true → AllByRecursion (λ x. p x ≡ true → x ≡ c) xs → AllByRecursion (λ x. q x ≡ true → x ≡ c) xs → filter (λ x. not (p x)) xs ≡ filter (λ x. not (q x)) xs
  filter_alike p q c [] one other only also = refl
  filter_alike p q c (x ∷ xs) one other only also =
      ap (λ b. cond (not b) (x ∷ filter (λ y. not (p y)) xs) (filter (λ y. not (p y)) xs)) (alike (p x) (q x) (λ yes. subst (λ e. q e ≡ true) (sym (only.0 yes)) other) (λ yes. subst (λ e. p e ≡ true) (sym (also.0 yes)) one))
      ∙ ap (λ ys. cond (not (q x)) (x ∷ ys) ys) (filter_alike p q c xs one other only.1 also.1)

-- numbers that rise above a bound rise above a lesser bound
rises_weaker : (low high : ℕ) (xs : List ℕ) → low ≤ high → rises_above high xs ≡ true → rises_above low xs ≡ true
rises_weaker low high [] le rises = refl
rises_weaker low high (x ∷ xs) le rises =
    let parts = and_parts (ltb high x) (rises_above x xs) rises in
    and_from (ltb low x) (rises_above x xs) (lt-ltb low x (let lt = ltb-true high x parts.0 in omega (arith, lt, le))) parts.1

-- some of rising numbers rise
rises_filter : (low : ℕ) (t : Contact → Bool) (cs : List Contact) → rises_above low (map (λ d. d.number) cs) ≡ true → rises_above low (map (λ d. d.number) (filter t cs)) ≡ true
rises_filter low t [] rises = refl
rises_filter low t (c ∷ cs) rises =
    let parts = and_parts (ltb low c.number) (rises_above c.number (map (λ d. d.number) cs)) rises in
    let rest = rises_filter c.number t cs parts.1 in
    cond_both (t c) (c ∷ filter t cs) (filter t cs) (λ (ds : List Contact). rises_above low (map (λ d. d.number) ds) ≡ true)
    (λ _. and_from (ltb low c.number) (rises_above c.number (map (λ d. d.number) (filter t cs))) parts.0 rest)
    (λ _. rises_weaker low c.number (map (λ d. d.number) (filter t cs)) (let lt = ltb-true low c.number parts.0 in omega (arith, lt)) rest)

-- some of the keys above a key are above it
keys_filter : (t : Range → Bool) (k : ℕ × ℕ × ℕ) (rs : List Range) → AllByRecursion (λ y. by_key k y ≡ Less) (map range_key rs) → AllByRecursion (λ y. by_key k y ≡ Less) (map range_key (filter t rs))
keys_filter t k [] all = tt
keys_filter t k (r ∷ rs) all =
    let rest = keys_filter t k rs all.1 in
    cond_both (t r) (r ∷ filter t rs) (filter t rs) (λ ss. AllByRecursion (λ y. by_key k y ≡ Less) (map range_key ss)) (λ _. (all.0, rest)) (λ _. rest)

-- some of sorted ranges are sorted
sorted_filter : (t : Range → Bool) (rs : List Range) → IsStrictlySortedBy by_key (map range_key rs) → IsStrictlySortedBy by_key (map range_key (filter t rs))
unfolding IsStrictlySortedBy
sorted_filter t [] sorted = tt
sorted_filter t (r ∷ rs) sorted =
    let rest = sorted_filter t rs sorted.1 in
    cond_both (t r) (r ∷ filter t rs) (filter t rs) (λ ss. IsStrictlySortedBy by_key (map range_key ss)) (λ _. (keys_filter t (range_key r) rs sorted.0, rest)) (λ _. rest)

-- a plan without some contacts is a plan
pub IsPlan-fewer_contacts : (p : ContactPlan) (t : Contact → Bool) → IsPlan p → IsPlan (record { contacts = filter t p.contacts; ranges = p.ranges; largest = p.largest })
IsPlan-fewer_contacts p t h =
    record {
      contact_windows = all_filter (λ d. IsWindow d.start d.end) t p.contacts h.contact_windows;
      contact_nodes = all_filter (λ d. IsPair d.from d.to) t p.contacts h.contact_nodes;
      rates = all_filter (λ d. d.rate < 2 ^ 64) t p.contacts h.rates;
      ranges_rise = h.ranges_rise;
      numbers_rise = rises_filter 0 t p.contacts h.numbers_rise;
      numbers_given = all_filter (λ d. d.number ≤ p.largest) t p.contacts h.numbers_given;
      openings_differ = none_twice-filter same_opening t p.contacts h.openings_differ;
      range_windows = h.range_windows;
      range_nodes = h.range_nodes;
      lights = h.lights;
      ranges_apart = h.ranges_apart;
      count = h.count;
      range_count = h.range_count;
    }

-- a plan without some ranges is a plan
pub IsPlan-fewer_ranges : (p : ContactPlan) (t : Range → Bool) → IsPlan p → IsPlan (record { contacts = p.contacts; ranges = filter t p.ranges; largest = p.largest })
IsPlan-fewer_ranges p t h =
    record {
      contact_windows = h.contact_windows;
      contact_nodes = h.contact_nodes;
      rates = h.rates;
      ranges_rise = sorted_filter t p.ranges h.ranges_rise;
      numbers_rise = h.numbers_rise;
      numbers_given = h.numbers_given;
      openings_differ = h.openings_differ;
      range_windows = all_filter (λ r. IsWindow r.start r.end) t p.ranges h.range_windows;
      range_nodes = all_filter (λ r. IsPair r.one r.other) t p.ranges h.range_nodes;
      lights = all_filter (λ r. r.light ≤ 1000000) t p.ranges h.lights;
      ranges_apart = none_twice-filter overlap t p.ranges h.ranges_apart;
      count = h.count;
      range_count = let fewer = length-filter_le t p.ranges in let most = h.range_count in omega (arith, fewer, most);
    }

-- ---- the contact of an opening is that of its number

-- a contact found by any test is found by its number
pub found_by_number : (low : ℕ) (t : Contact → Bool) (cs : List Contact) (c : Contact) → rises_above low (map (λ d. d.number) cs) ≡ true → find t cs ≡ Some c → find (λ d. eqb d.number c.number) cs ≡ Some c
found_by_number low t [] c rises found = absurd cc
found_by_number low t (x ∷ cs) c rises found =
    let parts = and_parts (ltb low x.number) (rises_above x.number (map (λ d. d.number) cs)) rises in
    elim (t x) as (λ b. cond b (Some x) (find t cs) ≡ Some c → cond (eqb x.number c.number) (Some x) (find (λ d. eqb d.number c.number) cs) ≡ Some c) [
      | true ↦ λ e. let same : x ≡ c = cc in ap (λ b. cond b (Some x) (find (λ d. eqb d.number c.number) cs)) (eq-eqb x.number c.number (ap (λ (d : Contact). d.number) same)) ∙ ap Some same
      | false ↦ λ e.
          let above = all_found (λ d. x.number < d.number) t cs c (all_above x.number cs parts.1) e in
          ap (λ b. cond b (Some x) (find (λ d. eqb d.number c.number) cs)) (ne_eqb x.number c.number (λ q. omega (arith, q, above)))
          ∙ found_by_number x.number t cs c parts.1 e
    ] found

-- an opening's parts
pub opens_parts : (from to start : ℕ) (d : Contact) → opens from to start d ≡ true → (from ≡ d.from) × (to ≡ d.to) × (start ≡ d.start)
opens_parts from to start d h = (grind (arith, nat_tests), grind (arith, nat_tests), grind (arith, nat_tests))

-- only one contact has an opening
opening_one : (from to start : ℕ) (cs : List Contact) (c : Contact) → none_twice same_opening cs ≡ true → find (opens from to start) cs ≡ Some c → AllByRecursion (λ d. opens from to start d ≡ true → d ≡ c) cs
opening_one from to start [] c none found = tt
opening_one from to start (x ∷ cs) c none found =
    let parts = and_parts (not (list_any (same_opening x) cs)) (none_twice same_opening cs) none in
    elim (opens from to start x) as (λ b. opens from to start x ≡ b → cond b (Some x) (find (opens from to start) cs) ≡ Some c → AllByRecursion (λ d. opens from to start d ≡ true → d ≡ c) (x ∷ cs)) [
      | true ↦ λ h e.
          let same : x ≡ c = cc in
          let p = opens_parts from to start x h in (
            (λ _. same),
            all_weaker (λ d. same_opening x d ≡ false) (λ d. opens from to start d ≡ true → d ≡ c)
                (λ d no yes. absurd (both_ways (same_opening x d) no
                (sym (ap (λ f. opens f to start d) p.0 ∙ ap (λ f. opens x.from f start d) p.1 ∙ ap (λ f. opens x.from x.to f d) p.2) ∙ yes)))
                cs (any_none (same_opening x) cs (not-true (list_any (same_opening x) cs) parts.0)),
          )
      | false ↦ λ h e. ((λ yes. absurd (both_ways (opens from to start x) h yes)), opening_one from to start cs c parts.1 e)
    ] refl found

-- filtering out the opening filters out the number
pub without_opening : (p : ContactPlan) (from to start : ℕ) (c : Contact) → IsPlan p → find (opens from to start) p.contacts ≡ Some c → filter (λ d. not (opens from to start d)) p.contacts ≡ without_number c.number p.contacts
without_opening p from to start c h found =
    filter_alike (opens from to start) (λ d. eqb d.number c.number) c p.contacts (found_passes (opens from to start) p.contacts c found) (eq-eqb c.number c.number refl)
    (opening_one from to start p.contacts c h.openings_differ found)
    (is_one 0 p.contacts c.number c h.numbers_rise (found_by_number 0 (opens from to start) p.contacts c h.numbers_rise found))
