-- The list of all routes and the least of a part, as the frontier uses them.
use Rattle.sabr_frontier.proofs.Names.{◌≡◌, ℕ, true, false, ◌||◌, not, eqb, List, [], ◌∷◌, refl, sym, ap, ◌∙◌, inl, inr, Some, None, arith, ◌++◌, subst, ◌<◌, length, take, get_or, Contains, not_from_false, false_from_ne_true, nat_tests, nat_cmp, is_eq, is_lt, Ordering, Less, option_map_or, ContactPlan, IsPlan, RouteRequest, is_route, by_key, is_path, is_prefix, routes, number_after, goes_on, least_in, key_tells, has, Rises, Member, Within, goes_on_parts, number_after-append, number_after_some, member_is_route, route_is_member, empty_route, prefix_is_no_route, beginning_is_prefix, beginning_goes_on}
use Rattle.std.specs.List.Sorted.{IsStrictlySortedBy}
use Rattle.sabr_model.proofs.ListLemmas.Members.{IsIn, in_from_Contains, Contains-from_in, all_in}
use Rattle.sabr_model.proofs.RouteLemmas.RoutesListed.{routes_are_listed}
use Rattle.sabr_frontier.proofs.ListingLemmas.ListMembers.{IsExact}
use Rattle.sabr_frontier.proofs.ListingLemmas.Division.{Below-from}
use Rattle.sabr_model.proofs.ListLemmas.Begins.{no_route_begins_another}
use Rattle.sabr_frontier.proofs.TreeLemmas.ListFronts.{number_after-take}
use Rattle.sabr_model.specs.plan.Plan as plans
use Rattle.sabr_model.proofs.RouteLemmas.Least as model

-- ---- words for membership and order

pub Member_from_in : {X : Type 0} (e : X) (xs : List X) → IsIn e xs → Member e xs
Member_from_in e [] h = h
Member_from_in e (x ∷ xs) (inl h) = inl h
Member_from_in e (x ∷ xs) (inr h) = inr (Member_from_in e xs h)

pub in_from_Member : {X : Type 0} (e : X) (xs : List X) → Member e xs → IsIn e xs
in_from_Member e [] h = h
in_from_Member e (x ∷ xs) (inl h) = inl h
in_from_Member e (x ∷ xs) (inr h) = inr (in_from_Member e xs h)

pub member_of : {X : Type 0} (e : X) (xs : List X) → Contains xs e → Member e xs
member_of e xs c = Member_from_in e xs (in_from_Contains xs e c)

pub contains_of : {X : Type 0} (e : X) (xs : List X) → Member e xs → Contains xs e
contains_of e xs m = Contains-from_in xs e (in_from_Member e xs m)

Rises_from_sorted : {K : Type 0} (R : K → K → Ordering) (xs : List K) → IsStrictlySortedBy R xs → Rises R xs
unfolding IsStrictlySortedBy
Rises_from_sorted R [] h = tt
Rises_from_sorted R (x ∷ xs) h = (Below-from R x xs (λ y m. all_in (λ z. R x z ≡ Less) xs h.0 y (in_from_Member y xs m)), Rises_from_sorted R xs h.1)

-- ---- within a part

same_number_test : (x y : ℕ) → eqb x y ≡ is_eq (nat_cmp x y)
same_number_test x y = grind (arith, nat_tests)

pub has_number : (x : ℕ) (xs : List ℕ) → plans.has x xs ≡ has nat_cmp x xs
has_number x [] = refl
has_number x (y ∷ xs) = λ i. same_number_test x y i || has_number x xs i

pub within_goes_on : (q X s : List ℕ) → Within q X s → goes_on q X s ≡ true
within_goes_on q X s w = ap (λ o. option_map_or (λ n. not (plans.has n X)) o false) w.1 ∙ not_from_false (plans.has w.0 X) (has_number w.0 X ∙ w.2)

pub goes_on_within : (q X s : List ℕ) → goes_on q X s ≡ true → Within q X s
goes_on_within q X s h = let w = goes_on_parts q X s h in (w.0, ap (number_after q) w.2 ∙ number_after-append q w.0 w.1, sym (has_number w.0 X) ∙ w.3)

-- ---- what the frontier asks of the list and of the least of a part

pub by_key_exact : (p : ContactPlan) (r : RouteRequest) → IsExact (by_key p r)
by_key_exact p r = key_tells p r

module _ (p : ContactPlan) (r : RouteRequest) (good : IsPlan p) where
  pub routes_rise : Rises (by_key p r) (routes p r)
  routes_rise = Rises_from_sorted (by_key p r) (routes p r) (routes_are_listed p r good).rising

  pub routes_sound : (s : List ℕ) → Member s (routes p r) → is_route p r s ≡ true
  routes_sound s m = member_is_route p r s good (in_from_Member s (routes p r) m)

  pub routes_complete : (s : List ℕ) → is_route p r s ≡ true → Member s (routes p r)
  routes_complete s h = Member_from_in s (routes p r) (route_is_member p r s good h)

  pub least_some : (q X s : List ℕ) → least_in p r q X ≡ Some s → (is_route p r s ≡ true) × Within q X s × ((t : List ℕ) → is_route p r t ≡ true → Within q X t → is_lt (by_key p r t s) ≡ false)
  least_some q X s e =
      let w = model.least_some p r good q X s e in
      (w.0, goes_on_within q X s w.1, λ t is v. w.2 t is (within_goes_on q X t v))

  pub least_none : (q X : List ℕ) → least_in p r q X ≡ None → (t : List ℕ) → is_route p r t ≡ true → Within q X t → ⊥
  least_none q X e t is w = model.least_none p r good q X e t is (within_goes_on q X t w)

-- ---- routes, paths and prefixes, as the frontier needs them

module _ (p : ContactPlan) (r : RouteRequest) where
  pub route_filled : is_route p r [] ≡ true → ⊥
  route_filled h = empty_route p r h

  -- no route begins another
  pub routes_apart : (s t : List ℕ) (x : ℕ) → is_route p r s ≡ true → is_route p r t ≡ true → number_after s t ≡ Some x → ⊥
  routes_apart s t x one other e =
      let w = number_after_some s t x e in
      let none : x ∷ w.0 ≡ [] = no_route_begins_another p r s (x ∷ w.0) one (subst (λ z. is_route p r z ≡ true) w.1 other) in
      cc

  -- a beginning of a route is a path
  pub route_chains : (q s : List ℕ) (x : ℕ) → is_route p r s ≡ true → number_after q s ≡ Some x → is_path p r (q ++ x ∷ []) ≡ true
  route_chains q s x is e =
      let w = number_after_some q s x e in
      beginning_goes_on p r q x w.0 (subst (λ z. is_route p r z ≡ true) w.1 is)

  -- and a prefix if the route goes on
  pub route_fits : (q s : List ℕ) (x : ℕ) → is_route p r s ≡ true → number_after q s ≡ Some x → is_prefix p r q ≡ true
  route_fits q s x is e =
      let w = number_after_some q s x e in
      beginning_is_prefix p r q x w.0 (subst (λ z. is_route p r z ≡ true) w.1 is)

  pub prefix_no_route : (q : List ℕ) → is_prefix p r q ≡ true → is_route p r q ≡ false
  prefix_no_route q h = false_from_ne_true (is_route p r q) (prefix_is_no_route p r q h)

  -- so is what stands before a place of a route
  pub beginning_fits : (s : List ℕ) (n : ℕ) → is_route p r s ≡ true → n < length s → is_prefix p r (take n s) ≡ true
  beginning_fits s n is l = route_fits (take n s) s (get_or s n 0) is (number_after-take s n l)
