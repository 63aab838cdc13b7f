-- Every route is a candidate, and the key orders routes.
use Rattle.sabr_model.proofs.ListLemmas.Names.{◌≡◌, ℕ, ◌+◌, ◌<◌, ◌≤◌, true, false, not, eqb, List, [], ◌∷◌, length, map, refl, sym, ap, ◌∙◌, inl, inr, ⊎_elim, arith, nat_eq, filter, find, range_with_len, AllByRecursion, IsTotalOrder, nat_eq_equiv, slice_cmp-IsAntisymmetric, nat_cmp-IsAntisymmetric, and_parts, and_from, or_cases, or_left, or_right, eqb-true, eq-eqb, not-true, not_from_false, both_ways, false_from_ne_true, Some, Equal, Contact, ContactPlan, IsPlan, contact_named, has, are_different, RouteRequest, chain_end, receivers, IsRoute, key_of, by_key}
use Rattle.std.specs.List.{IsDistinct}
use Rattle.std.specs.Cmp.Lexicographic.{on_texts}
use Rattle.std.proofs.lemmas.Map.Made.{length-le_from_is_member}
use Rattle.std.proofs.lemmas.List.FromFn.{length-range_with_len}
use Rattle.sabr_model.specs.routes.Listing.{lists_of_length, candidates}
use Rattle.sabr_model.proofs.ListLemmas.Members.{IsIn, all_in, find_in, in_map, in_flat_map, in_filter, in_range}
use Rattle.sabr_model.proofs.PlanLemmas.Deletions.{any_none}
use Rattle.sabr_model.proofs.PlanLemmas.Without.{all_above}
use Rattle.sabr_model.proofs.ListLemmas.Begins.{first_hop, receivers-cons}

-- ---- a list of different numbers from a list is among its lists of that length

pub in_from_has : (x : ℕ) (ys : List ℕ) → has x ys ≡ true → IsIn x ys
in_from_has x [] h = absurd cc
in_from_has x (y ∷ ys) h = ⊎_elim (λ e. inl (eqb-true x y e)) (λ k. inr (in_from_has x ys k)) (or_cases (eqb x y) (has x ys) h)

pub has_from_in : (x : ℕ) (ys : List ℕ) → IsIn x ys → has x ys ≡ true
has_from_in x [] h = absurd h
has_from_in x (y ∷ ys) h = ⊎_elim (λ e. or_left (eqb x y) (has x ys) (eq-eqb x y e)) (λ k. or_right (eqb x y) (has x ys) (has_from_in x ys k)) h

pub is_among_lists : (numbers s : List ℕ) → are_different s ≡ true → AllByRecursion (λ n. IsIn n numbers) s → IsIn s (lists_of_length numbers (length s))
unfolding lists_of_length
is_among_lists numbers [] d all = inl refl
is_among_lists numbers (n ∷ s) d all =
    let parts = and_parts (not (has n s)) (are_different s) d in
    in_flat_map (λ t. map (λ m. m ∷ t) (filter (λ m. not (has m t)) numbers)) (n ∷ s) s (lists_of_length numbers (length s))
    (is_among_lists numbers s parts.1 all.1)
    (in_map (λ m. m ∷ s) n (filter (λ m. not (has m s)) numbers) (in_filter (λ m. not (has m s)) n numbers all.0 parts.0))

pub distinct_from_different : (s : List ℕ) → are_different s ≡ true → IsDistinct nat_eq s
unfolding IsDistinct
distinct_from_different [] d = tt
distinct_from_different (n ∷ s) d =
    let parts = and_parts (not (has n s)) (are_different s) d in
    (any_none (eqb n) s (not-true (has n s) parts.0), distinct_from_different s parts.1)

pub is_candidate : (n : ℕ) (s : List ℕ) → are_different s ≡ true → AllByRecursion (λ m. IsIn m (range_with_len 1 n)) s → IsIn s (candidates n)
unfolding candidates
is_candidate n s d all =
    let short : length s ≤ length (range_with_len 1 n) = length-le_from_is_member nat_eq_equiv s (range_with_len 1 n) (distinct_from_different s d)
    (λ q h. has_from_in q (range_with_len 1 n) (all_in (λ m. IsIn m (range_with_len 1 n)) s all q (in_from_has q s h))) in
    in_flat_map (lists_of_length (range_with_len 1 n)) s (length s) (range_with_len 0 (n + 1))
    (in_range (length s) 0 (n + 1) (omega arith) (omega (arith, short, length-range_with_len 1 n)))
    (is_among_lists (range_with_len 1 n) s d all)

-- ---- the numbers of a route

-- the contact with a number is one of the contacts, and has that number
pub named_is : (cs : List Contact) (n : ℕ) (c : Contact) → find (λ d. eqb d.number n) cs ≡ Some c → IsIn c cs × (c.number ≡ n)
named_is cs n c e = let found = find_in (λ d. eqb d.number n) cs c e in (found.0, eqb-true c.number n found.1)

numbers_in_range : (p : ContactPlan) → IsPlan p → (a : ℕ) (s : List ℕ) (b : ℕ) → chain_end p a s ≡ Some b → AllByRecursion (λ n. IsIn n (range_with_len 1 p.largest)) s
numbers_in_range p good a [] b e = tt
numbers_in_range p good a (n ∷ s) b e =
    let h = first_hop p a n s b e in
    let m = named_is p.contacts n h.contact h.named in
    let low = all_in (λ (d : Contact). 0 < d.number) p.contacts (all_above 0 p.contacts good.numbers_rise) h.contact m.0 in
    let high = all_in (λ (d : Contact). d.number ≤ p.largest) p.contacts good.numbers_given h.contact m.0 in
    let same = m.1 in
    (in_range n 1 p.largest (omega arith) (omega arith), numbers_in_range p good h.contact.to s b h.rest)

-- if a number is in a chain, the receiver of its contact is among the receivers
its_receiver : (p : ContactPlan) (n : ℕ) (c : Contact) → contact_named p n ≡ Some c → (a : ℕ) (s : List ℕ) (b : ℕ) → chain_end p a s ≡ Some b → has n s ≡ true → has c.to (receivers p s) ≡ true
its_receiver p n c q a [] b e h = absurd cc
its_receiver p n c q a (m ∷ s) b e h =
    let f = first_hop p a m s b e in
    ap (has c.to) (receivers-cons p m s f.contact f.named)
    ∙ ⊎_elim
    (λ w. let same : f.contact ≡ c = cc (f.named, q, eqb-true n m w) in or_left (eqb c.to f.contact.to) (has c.to (receivers p s)) (eq-eqb c.to f.contact.to (ap (λ (x : Contact). x.to) (sym same))))
    (λ k. or_right (eqb c.to f.contact.to) (has c.to (receivers p s)) (its_receiver p n c q f.contact.to s b f.rest k))
    (or_cases (eqb n m) (has n s) h)

-- if no receiver occurs twice, no number does
numbers_different : (p : ContactPlan) (a : ℕ) (s : List ℕ) (b : ℕ) → chain_end p a s ≡ Some b → are_different (receivers p s) ≡ true → are_different s ≡ true
numbers_different p a [] b e d = refl
numbers_different p a (n ∷ s) b e d =
    let f = first_hop p a n s b e in
    let d' : are_different (f.contact.to ∷ receivers p s) ≡ true = sym (ap are_different (receivers-cons p n s f.contact f.named)) ∙ d in
    let parts = and_parts (not (has f.contact.to (receivers p s))) (are_different (receivers p s)) d' in
    let fresh : has n s ≡ false = false_from_ne_true (has n s) (λ h. both_ways (has f.contact.to (receivers p s)) (not-true (has f.contact.to (receivers p s)) parts.0) (its_receiver p n f.contact f.named f.contact.to s b f.rest h)) in
    and_from (not (has n s)) (are_different s) (not_from_false (has n s) fresh) (numbers_different p f.contact.to s b f.rest parts.1)

pub route_is_candidate : (p : ContactPlan) (r : RouteRequest) (s : List ℕ) → IsPlan p → IsRoute p r s → IsIn s (candidates p.largest)
route_is_candidate p r s good h =
    let d = and_parts (not (has r.source (receivers p s))) (are_different (receivers p s)) h.different in
    is_candidate p.largest s (numbers_different p r.source s r.destination h.reaches d.1) (numbers_in_range p good r.source s r.destination h.reaches)

pub key_total : (p : ContactPlan) (r : RouteRequest) → IsTotalOrder (by_key p r)
key_total p r = on_texts (key_of p r)

pub key_tells : (p : ContactPlan) (r : RouteRequest) (s t : List ℕ) → by_key p r s t ≡ Equal → s ≡ t
key_tells p r s t e =
    let same : key_of p r s ≡ key_of p r t = slice_cmp-IsAntisymmetric nat_cmp-IsAntisymmetric (key_of p r s) (key_of p r t) e in
    cc (same)
