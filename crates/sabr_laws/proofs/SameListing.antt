-- A list that rises, and has exactly the routes, is the listing.
use Rattle.std.proofs.Common.{◌≡◌, ℕ, List, [], ◌∷◌, refl, sym, ap, subst, ◌∙◌, inl, inr, ⊎_elim, true, not, length, arith}
use Rattle.std.specs.List.{AllByRecursion, filter}
use Rattle.std.specs.List.Sorted.{IsStrictlySortedBy}
use Rattle.std.specs.Cmp.{IsTotalOrder}
use Rattle.std.specs.Ordering.{ordering_reverse}
use Rattle.std.specs.declared.cmp.Ordering.{Ordering}
use Rattle.std.specs.declared.cmp.Ordering.TheVariants.{Less}
use Rattle.sabr_model.specs.plan.Plan.{ContactPlan, IsPlan, has, are_different}
use Rattle.sabr_model.specs.routes.Arrival.{RouteRequest}
use Rattle.sabr_model.specs.routes.Route.{IsRoute, by_key, receivers, delivery_of}
use Rattle.sabr_model.specs.routes.Listing.{routes}
use Rattle.sabr_model.proofs.ListLemmas.Members.{IsIn, all_in, in_from_Contains, Contains-from_in, in_filter, filter_in}
use Rattle.sabr_model.proofs.ListLemmas.Apart.{apart-sorted}
use Rattle.sabr_model.proofs.RouteLemmas.Listed.{key_total}
use Rattle.sabr_model.proofs.RouteLemmas.Routes.{route_facts, route_from_facts}
use Rattle.sabr_model.proofs.RouteLemmas.RoutesListed.{routes_are_listed}
use Rattle.std.specs.Prelude.{◌≢◌, Contains, Bool, Some, slice_get}
use Rattle.std.proofs.lemmas.Bool.{and_parts, not-true, both_ways}
use Rattle.std.proofs.lemmas.List.Kept.{IsStrictlySortedBy-filter}
use Rattle.sabr_model.specs.Order.{by_numbers}
use Rattle.sabr_model.specs.routes.Journeys.{FirstDeliversBy}
use Rattle.sabr_model.proofs.ListLemmas.Begins.{end_is_received}
use Rattle.sabr_model.proofs.RouteLemmas.EveryWay.{every_way_is_listed}
use Rattle.sabr_laws.specs.Fewer.{LeavesOf}

module _ {X : Type 0} (cmp : X → X → Ordering) (total : IsTotalOrder cmp) where
  -- the first of a rising list comes before the others
  less_behind : (x z : X) (xs : List X) → IsStrictlySortedBy cmp (x ∷ xs) → IsIn z xs → cmp x z ≡ Less
  unfolding IsStrictlySortedBy
  less_behind x z xs sorted behind = all_in (λ w. cmp x w ≡ Less) xs sorted.0 z behind

  rising_rest : (x : X) (xs : List X) → IsStrictlySortedBy cmp (x ∷ xs) → IsStrictlySortedBy cmp xs
  unfolding IsStrictlySortedBy
  rising_rest x xs sorted = sorted.1

  -- the first of two rising lists, each of which has the first of the other
  same_first : (x y : X) (xs ys : List X) → IsStrictlySortedBy cmp (x ∷ xs) → IsStrictlySortedBy cmp (y ∷ ys) → IsIn x (y ∷ ys) → IsIn y (x ∷ xs) → x ≡ y
  same_first x y xs ys one other (inl same) in_one = same
  same_first x y xs ys one other (inr behind) (inl same) = sym same
  same_first x y xs ys one other (inr behind) (inr after) =
      let less : cmp x y ≡ Less = less_behind x y xs one after in
      let more : cmp y x ≡ Less = less_behind y x ys other behind in
      let back : cmp y x ≡ ordering_reverse Less = total.antisymm y x ∙ ap ordering_reverse less in
      absurd cc

  -- if each element of one is in the other, so it is without the first
  rest_in : (x : X) (xs ys : List X) → IsStrictlySortedBy cmp (x ∷ xs) → ((z : X) → IsIn z (x ∷ xs) → IsIn z (x ∷ ys)) → (z : X) → IsIn z xs → IsIn z ys
  rest_in x xs ys sorted within z behind =
      ⊎_elim (λ same. absurd ((apart-sorted cmp total (x ∷ xs) sorted).0 (subst (λ w. IsIn w xs) same behind))) (λ there. there) (within z (inr behind))

  -- two rising lists with the same elements are the same
  pub same_rising : (xs ys : List X) → IsStrictlySortedBy cmp xs → IsStrictlySortedBy cmp ys → ((z : X) → IsIn z xs → IsIn z ys) → ((z : X) → IsIn z ys → IsIn z xs) → xs ≡ ys
  same_rising [] [] one other to from = refl
  same_rising [] (y ∷ ys) one other to from = absurd (from y (inl refl))
  same_rising (x ∷ xs) [] one other to from = absurd (to x (inl refl))
  same_rising (x ∷ xs) (y ∷ ys) one other to from =
      let same = same_first x y xs ys one other (to x (inl refl)) (from y (inl refl)) in
      let to_rest = rest_in x xs ys one (subst (λ w. (z : X) → IsIn z (x ∷ xs) → IsIn z (w ∷ ys)) (sym same) to) in
      let from_rest = rest_in y ys xs other (subst (λ w. (z : X) → IsIn z (y ∷ ys) → IsIn z (w ∷ xs)) same from) in
      ap (λ w. w ∷ xs) same ∙ ap (λ ws. y ∷ ws) (same_rising xs ys (rising_rest x xs one) (rising_rest y ys other) to_rest from_rest)

-- a list that rises by one order rises by another that orders its elements alike
pub rising_alike : {X : Type 0} (cmp other : X → X → Ordering) (xs : List X) → ((x y : X) → IsIn x xs → IsIn y xs → cmp x y ≡ other x y) → IsStrictlySortedBy cmp xs → IsStrictlySortedBy other xs
unfolding IsStrictlySortedBy
rising_alike {X} cmp other [] alike sorted = tt
rising_alike {X} cmp other (x ∷ xs) alike sorted =
    (all_less xs (λ y there. alike x y (inl refl) (inr there)) sorted.0, rising_alike cmp other xs (λ y z i j. alike y z (inr i) (inr j)) sorted.1)
  where
    all_less : (ys : List X) → ((y : X) → IsIn y ys → cmp x y ≡ other x y) → AllByRecursion (λ y. cmp x y ≡ Less) ys → AllByRecursion (λ y. other x y ≡ Less) ys
    all_less [] same all = tt
    all_less (y ∷ ys) same all = (sym (same y (inl refl)) ∙ all.0, all_less ys (λ z there. same z (inr there)) all.1)

module _ (p : ContactPlan) (r : RouteRequest) (plan : IsPlan p) where
  pub route_listed : (s : List ℕ) → IsRoute p r s → IsIn s (routes p r)
  route_listed s route = in_from_Contains (routes p r) s (((routes_are_listed p r plan).members s).1 (route_from_facts p r s route))

  pub listed_route : (s : List ℕ) → IsIn s (routes p r) → IsRoute p r s
  listed_route s listed = route_facts p r s (((routes_are_listed p r plan).members s).0 (Contains-from_in (routes p r) s listed))

  -- the listing is the one rising list of the routes
  pub is_listing : (ways : List (List ℕ)) → IsStrictlySortedBy (by_key p r) ways → ((s : List ℕ) → IsIn s ways → IsRoute p r s) → ((s : List ℕ) → IsRoute p r s → IsIn s ways) → routes p r ≡ ways
  is_listing ways rising only all =
      same_rising (by_key p r) (key_total p r) (routes p r) ways (routes_are_listed p r plan).rising rising
      (λ s listed. all s (listed_route s listed)) (λ s there. route_listed s (only s there))

-- One listing is what a test leaves of another if the same holds of routes.
-- the routes of one request are those of another that pass a test, and deliver alike
pub record AreLeftOf (p : ContactPlan) (r : RouteRequest) (q : ContactPlan) (u : RouteRequest) (stays : List ℕ → Bool) : Type 0 where
  pub were : (s : List ℕ) → IsRoute q u s → IsRoute p r s
  pub pass : (s : List ℕ) → IsRoute q u s → stays s ≡ true
  pub stay : (s : List ℕ) → IsRoute p r s → stays s ≡ true → IsRoute q u s
  pub deliver : (s : List ℕ) → IsRoute q u s → delivery_of q u s ≡ delivery_of p r s

-- a route leads to another node
ends_apart : (p : ContactPlan) (r : RouteRequest) (s : List ℕ) → IsRoute p r s → r.source ≢ r.destination
ends_apart p r [] route same = omega (arith, route.some_hop)
ends_apart p r (n ∷ s) route same =
    let parts = and_parts (not (has r.source (receivers p (n ∷ s)))) (are_different (receivers p (n ∷ s))) route.different in
    both_ways (has r.source (receivers p (n ∷ s))) (not-true (has r.source (receivers p (n ∷ s))) parts.0)
    (subst (λ d. has d (receivers p (n ∷ s)) ≡ true) (sym same) (end_is_received p r.source n s r.destination route.reaches))

-- the first of a list is one of it
first_is_in : (ways : List (List ℕ)) (x : List ℕ) → slice_get ways 0 ≡ Some x → Contains ways x
first_is_in [] x e = absurd cc
first_is_in (y ∷ ways) x e = (0, omega arith, let same : y ≡ x = cc in same)

module _ (p : ContactPlan) (r : RouteRequest) (q : ContactPlan) (u : RouteRequest) (stays : List ℕ → Bool) (plan : IsPlan p) (left : IsPlan q) (are : AreLeftOf p r q u stays) where
  route_of : (s : List ℕ) → IsIn s (filter stays (routes p r)) → IsRoute q u s
  route_of s there = let m = filter_in stays s (routes p r) there in are.stay s (listed_route p r plan s m.0) m.1

  there_if_route : (s : List ℕ) → IsRoute q u s → IsIn s (filter stays (routes p r))
  there_if_route s route = in_filter stays s (routes p r) (route_listed p r plan s (are.were s route)) (are.pass s route)

  ordered_alike : (s t : List ℕ) → IsIn s (filter stays (routes p r)) → IsIn t (filter stays (routes p r)) → by_key p r s t ≡ by_key q u s t
  ordered_alike s t one other =
      ap (λ d. by_numbers (d ∷ length s ∷ s) (delivery_of p r t ∷ length t ∷ t)) (sym (are.deliver s (route_of s one)))
      ∙ ap (λ d. by_numbers (delivery_of q u s ∷ length s ∷ s) (d ∷ length t ∷ t)) (sym (are.deliver t (route_of t other)))

  delivers_alike : (s : List ℕ) → Contains (routes q u) s → delivery_of q u s ≡ delivery_of p r s
  delivers_alike s there = are.deliver s (listed_route q u left s (in_from_Contains (routes q u) s there))

  -- a route that is left was a journey before, and no journey comes before the first route
  no_sooner : (d : ℕ) → FirstDeliversBy q u d → FirstDeliversBy p r d
  no_sooner d (s, first, by_d) =
      let there = first_is_in (routes q u) s first in
      let was = are.were s (listed_route q u left s (in_from_Contains (routes q u) s there)) in
      let law = every_way_is_listed p r plan (ends_apart p r s was) in
      let found = law.first s (delivery_of p r s) (law.travelled s (Contains-from_in (routes p r) s (route_listed p r plan s was))).0 in
      (found.0, found.1, omega (arith, found.2, delivers_alike s there, by_d))

  pub leaves : LeavesOf p r q u stays
  leaves = record {
    listing =
        is_listing q u left (filter stays (routes p r))
        (rising_alike (by_key p r) (by_key q u) (filter stays (routes p r)) ordered_alike (IsStrictlySortedBy-filter (by_key p r) stays (routes p r) (routes_are_listed p r plan).rising))
        route_of there_if_route;
    deliveries = delivers_alike;
    never_sooner = no_sooner;
  }
