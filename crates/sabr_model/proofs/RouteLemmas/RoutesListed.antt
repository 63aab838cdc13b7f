-- The list of all routes holds exactly the routes, each once, and their keys rise strictly.
use Rattle.sabr_model.proofs.ListLemmas.Names.{filter, range_with_len, AllByRecursion, same_numbers, is_route, by_key, RoutesAreListed, CandidatesAreListed, ◌≡◌, ℕ, zero, suc, ◌+◌, ◌<◌, ◌≤◌, true, not, List, ◌∷◌, length, map, refl, sym, subst, ◌∙◌, ⊎_elim, arith, IsTrue, and_from, has, are_different}
use Rattle.sabr_model.specs.routes.Listing.{candidates, routes, lists_of_length}
use Rattle.sabr_model.proofs.ListLemmas.Members.{in_filter, filter_in, in_from_Contains, Contains-from_in, IsIn, in_range, flat_map_in, map_in}
use Rattle.sabr_model.proofs.ListLemmas.Ordered.{all_weaker, sorted_in_order, in_order_is_in, is_in_order}
use Rattle.sabr_model.proofs.ListLemmas.Apart.{apart-none_twice, apart-sorted, same_numbers_tell, AreApart, apart-filter, apart-map, apart-flat_map}
use Rattle.sabr_model.proofs.RouteLemmas.Routes.{route_facts}
use Rattle.sabr_model.proofs.RouteLemmas.Listed.{route_is_candidate, key_total, key_tells, is_candidate}

pub routes_are_listed : RoutesAreListed
unfolding routes
routes_are_listed p r good =
    record {
      members = λ s. (
        λ c. (filter_in (is_route p r) s (candidates p.largest) (in_order_is_in (by_key p r) s (filter (is_route p r) (candidates p.largest)) (in_from_Contains (routes p r) s c))).1,
        λ h. Contains-from_in (routes p r) s
            (is_in_order (by_key p r) (key_tells p r) s (filter (is_route p r) (candidates p.largest))
            (in_filter (is_route p r) s (candidates p.largest) (route_is_candidate p r s good (route_facts p r s h)) h)),
      );
      once = apart-none_twice same_numbers same_numbers_tell (routes p r) (apart-sorted (by_key p r) (key_total p r) (routes p r) (sorted_in_order (by_key p r) (key_total p r) (filter (is_route p r) (candidates p.largest))));
      rising = sorted_in_order (by_key p r) (key_total p r) (filter (is_route p r) (candidates p.largest));
    }

-- The candidates are the lists of different numbers from 1 to n, each once.

range_in : (k a n : ℕ) → IsIn k (range_with_len a n) → (a ≤ k) × (k < a + n)
range_in k a zero h = absurd h
range_in k a (suc n) h = ⊎_elim (λ e. (omega arith, omega arith)) (λ r. let m = range_in k (a + 1) n r in (omega (arith, m.0), omega (arith, m.1))) h

apart-range : (a n : ℕ) → AreApart (range_with_len a n)
apart-range a zero = tt
apart-range a (suc n) = (λ i. let m = range_in a (a + 1) n i in absurd (omega (arith, m.0)), apart-range (a + 1) n)

-- ---- the lists of a length

record IsListOf (numbers : List ℕ) (k : ℕ) (s : List ℕ) : Type 0 where
  different : are_different s ≡ true
  taken : AllByRecursion (λ m. IsIn m numbers) s
  long : length s ≡ k

lists_facts : (numbers : List ℕ) (k : ℕ) (s : List ℕ) → IsIn s (lists_of_length numbers k) → IsListOf numbers k s
unfolding lists_of_length
lists_facts numbers zero s h = ⊎_elim (λ e. subst (IsListOf numbers 0) (sym e) (record { different = refl; taken = tt; long = refl })) (λ r. absurd r) h
lists_facts numbers (suc k) s h =
    let m = flat_map_in (λ t. map (λ n. n ∷ t) (filter (λ n. not (has n t)) numbers)) s (lists_of_length numbers k) h in
    let rest = lists_facts numbers k m.0 m.1 in
    let front = map_in (λ n. n ∷ m.0) s (filter (λ n. not (has n m.0)) numbers) m.2 in
    let first = filter_in (λ n. not (has n m.0)) front.0 numbers front.1 in
    subst (IsListOf numbers (suc k)) (sym front.2) (record {
      different = and_from (not (has front.0 m.0)) (are_different m.0) first.1 rest.different;
      taken = (first.0, rest.taken);
      long = let e = rest.long in omega arith;
    })

apart-lists : (numbers : List ℕ) → AreApart numbers → (k : ℕ) → AreApart (lists_of_length numbers k)
unfolding lists_of_length
apart-lists numbers a zero = ((λ i. i), tt)
apart-lists numbers a (suc k) =
    apart-flat_map (λ t. map (λ n. n ∷ t) (filter (λ n. not (has n t)) numbers))
    (λ t. apart-map (λ n. n ∷ t) (λ n m e. cc) (filter (λ n. not (has n t)) numbers) (apart-filter (λ n. not (has n t)) numbers a))
    (λ s t z l r. let one = map_in (λ n. n ∷ s) z (filter (λ n. not (has n s)) numbers) l in let two = map_in (λ n. n ∷ t) z (filter (λ n. not (has n t)) numbers) r in let e : one.0 ∷ s ≡ two.0 ∷ t = sym one.2 ∙ two.2 in cc)
    (lists_of_length numbers k) (apart-lists numbers a k)

apart-candidates : (n : ℕ) → AreApart (candidates n)
unfolding candidates
apart-candidates n =
    let numbers = range_with_len 1 n in
    apart-flat_map (lists_of_length numbers) (apart-lists numbers (apart-range 1 n))
    (λ j k s l r. sym (lists_facts numbers j s l).long ∙ (lists_facts numbers k s r).long)
    (range_with_len 0 (n + 1)) (apart-range 0 (n + 1))

candidate_facts : (n : ℕ) (s : List ℕ) → IsIn s (candidates n) → IsTrue (are_different s) × AllByRecursion (λ m. (0 < m) × (m ≤ n)) s
unfolding candidates
candidate_facts n s h =
    let m = flat_map_in (lists_of_length (range_with_len 1 n)) s (range_with_len 0 (n + 1)) h in
    let f = lists_facts (range_with_len 1 n) m.0 s m.2 in
    (f.different, all_weaker (λ m. IsIn m (range_with_len 1 n)) (λ m. (0 < m) × (m ≤ n)) (λ m i. let w = range_in m 1 n i in (omega (arith, w.0), omega (arith, w.1))) s f.taken)

pub candidates_are_listed : CandidatesAreListed
candidates_are_listed n =
    record {
      members = λ s. (
        λ c. candidate_facts n s (in_from_Contains (candidates n) s c),
        λ h. Contains-from_in (candidates n) s (is_candidate n s h.0 (all_weaker (λ m. (0 < m) × (m ≤ n)) (λ m. IsIn m (range_with_len 1 n)) (λ m w. in_range m 1 n (omega (arith, w.0)) (omega (arith, w.1))) s h.1)),
      );
      once = apart-none_twice same_numbers same_numbers_tell (candidates n) (apart-candidates n);
    }
