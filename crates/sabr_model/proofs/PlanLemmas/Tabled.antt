-- What a plan shows of its table of nodes.
use Rattle.std.proofs.Common.{◌≡◌, ℕ, zero, suc, ◌<◌, Bool, true, false, cond, ◌||◌, not, eqb, List, [], ◌∷◌, length, get_or, refl, sym, ap, subst, ◌∙◌}
use Rattle.std.specs.Prelude.{nat_eq, slice_get, MatchOption, unwrap_or, Vec}
use Rattle.std.specs.List.{filter, find, list_any, position, AllByRecursion, IsDistinct}
use Rattle.std.specs.Map.{keys_of}
use Rattle.std.proofs.lemmas.Bool.{and_from, and_parts, not-true, or_left, or_right, not_from_false, eqb-true, eq-eqb, both_ways}
use Rattle.std.proofs.lemmas.Option.{slice_get-get_or}
use Rattle.std.specs.declared.option.Option.{Option}
use Rattle.std.specs.declared.option.Option.TheVariants.{Some, None}
use Rattle.indexmap.specs.IndexMap.{IndexMap, keys}
use Rattle.sabr_model.specs.declared.contact.Contact.{Contact}
use Rattle.sabr_model.specs.plan.Plan.{ContactPlan, has, are_different}
use Rattle.sabr_model.specs.plan.Table.{sent_by, IsTableOf}
use Rattle.sabr_model.specs.plan.Tabled.{IsTabled}
use Rattle.sabr_model.proofs.ListLemmas.Members.{find_in, in_map, in_filter}
use Rattle.sabr_model.proofs.PlanLemmas.TableLemmas.{has_node}
use Rattle.sabr_model.proofs.PlanLemmas.Without.{has_in}
use Rattle.sabr_model.proofs.PlanLemmas.Deletions.{found_passes}
use Rattle.sabr_model.proofs.PlanLemmas.Removed.{found_place}

-- a number unequal to each is not in the list
none_equal : (n : ℕ) (xs : List ℕ) → AllByRecursion (λ y. nat_eq n y ≡ false) xs → has n xs ≡ false
none_equal n [] all = refl
none_equal n (x ∷ xs) all = ap (λ b. b || has n xs) all.0 ∙ none_equal n xs all.1

-- distinct numbers are different
pub different_from_distinct : (xs : List ℕ) → IsDistinct nat_eq xs → are_different xs ≡ true
unfolding IsDistinct
different_from_distinct [] d = refl
different_from_distinct (x ∷ xs) d = and_from (not (has x xs)) (are_different xs) (not_from_false (has x xs) (none_equal x xs d.0)) (different_from_distinct xs d.1)

-- a plan shows its table of nodes
pub is_tabled : {S A : Type 0} (p : ContactPlan) (table : IndexMap ℕ (Vec ℕ A) S) → IsTableOf p.contacts table → IsTabled (record { plan = p; table = keys table })
is_tabled p table h = record { nodes = λ q. has_node p.contacts table q h; once = different_from_distinct (keys_of table.entries) h.unique }

-- ---- the place of a node

-- if nothing is found, no element passes
pub none_any : {X : Type 0} (p : X → Bool) (xs : List X) → find p xs ≡ None → list_any p xs ≡ false
none_any p [] e = refl
none_any p (x ∷ xs) e =
    elim (p x) as (λ b. cond b (Some x) (find p xs) ≡ None → (b || list_any p xs) ≡ false) [
      | true ↦ λ h. absurd cc
      | false ↦ λ h. none_any p xs h
    ] e

-- a place that is found holds the node, and None means that the node is missing
pub index_tells : (xs : List ℕ) (n : ℕ) → MatchOption (position (nat_eq n) xs) (has n xs ≡ false) (λ k. slice_get xs k ≡ Some n)
index_tells xs n = by (position (nat_eq n) xs) (found_place (nat_eq n) xs (position (nat_eq n) xs) refl)
  where
    by : (o : Option ℕ) → MatchOption o (find (nat_eq n) xs ≡ None) (λ k. (k < length xs) × (find (nat_eq n) xs ≡ slice_get xs k)) → MatchOption o (has n xs ≡ false) (λ k. slice_get xs k ≡ Some n)
    by None e = none_any (nat_eq n) xs e
    by (Some k) at = let there = slice_get-get_or xs k n at.0 in there ∙ ap Some (sym (eqb-true n (get_or xs k n) (found_passes (nat_eq n) xs (get_or xs k n) (at.1 ∙ there))))

-- a node of the table is found
pub index_of_member : (xs : List ℕ) (n : ℕ) (o : Option ℕ) → MatchOption o (has n xs ≡ false) (λ k. slice_get xs k ≡ Some n) → has n xs ≡ true → slice_get xs (unwrap_or o 0) ≡ Some n
index_of_member xs n None h there = absurd (both_ways (has n xs) h there)
index_of_member xs n (Some k) h there = h

-- ---- the contacts that a node sends

-- a node sends the number of each contact of which it is the sender
pub number_sent : (cs : List Contact) (n : ℕ) (c : Contact) → find (λ d. eqb d.number n) cs ≡ Some c → has n (sent_by cs c.from) ≡ true
number_sent cs n c found =
    let is = find_in (λ d. eqb d.number n) cs c found in
    subst (λ m. has m (sent_by cs c.from) ≡ true) (eqb-true c.number n is.1)
    (has_in c.number (sent_by cs c.from) (in_map (λ (d : Contact). d.number) c (filter (λ d. eqb c.from d.from) cs) (in_filter (λ d. eqb c.from d.from) c cs is.0 (eq-eqb c.from c.from refl))))

-- the number at a place is in the list
pub has_place : (xs : List ℕ) (k n : ℕ) → slice_get xs k ≡ Some n → has n xs ≡ true
has_place [] k n e = absurd cc
has_place (x ∷ xs) zero n e = let same : n ≡ x = cc in or_left (eqb n x) (has n xs) (eq-eqb n x same)
has_place (x ∷ xs) (suc k) n e = or_right (eqb n x) (has n xs) (has_place xs k n e)

-- a node is at only one place of the table
pub place_one : (xs : List ℕ) (i j n : ℕ) → are_different xs ≡ true → slice_get xs i ≡ Some n → slice_get xs j ≡ Some n → i ≡ j
place_one [] i j n d a b = absurd cc
place_one (x ∷ xs) zero zero n d a b = refl
place_one (x ∷ xs) zero (suc j) n d a b =
    let apart = not-true (has x xs) (and_parts (not (has x xs)) (are_different xs) d).0 in
    let same : x ≡ n = cc in
    absurd (both_ways (has x xs) apart (subst (λ m. has m xs ≡ true) (sym same) (has_place xs j n b)))
place_one (x ∷ xs) (suc i) zero n d a b =
    let apart = not-true (has x xs) (and_parts (not (has x xs)) (are_different xs) d).0 in
    let same : x ≡ n = cc in
    absurd (both_ways (has x xs) apart (subst (λ m. has m xs ≡ true) (sym same) (has_place xs i n a)))
place_one (x ∷ xs) (suc i) (suc j) n d a b = ap suc (place_one xs i j n (and_parts (not (has x xs)) (are_different xs) d).1 a b)
