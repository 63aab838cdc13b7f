-- The least route of a part: what it is, and how it is recognized.
use Rattle.sabr_model.proofs.ListLemmas.Names.{◌≡◌, ℕ, true, false, Bool, cond, List, [], ◌∷◌, refl, sym, ap, subst, ◌∙◌, inl, inr, ⊎_elim, ◌⊎◌, IsTrue, find, nat_cmp, is_lt, ordering_reverse, ordering_then, tied_itself, nat_cmp_total, both_ways, Some, None, Ordering, Less, Equal, Greater, ContactPlan, IsPlan, RouteRequest, is_route, until_of, entry_of, by_key, routes}
use Rattle.std.specs.List.Sorted.{IsStrictlySortedBy}
use Rattle.sabr_model.specs.routes.Parts.{goes_on, least_in}
use Rattle.sabr_model.specs.routes.Record.{record_of, by_record}
use Rattle.sabr_model.proofs.ListLemmas.Members.{IsIn, in_from_Contains, Contains-from_in, all_in, find_in}
use Rattle.sabr_model.proofs.RouteLemmas.Listed.{key_total, key_tells}
use Rattle.sabr_model.proofs.RouteLemmas.RoutesListed.{routes_are_listed}

module _ {X : Type 0} (test : X → Bool) where
  find_none : (xs : List X) (t : X) → find test xs ≡ None → IsIn t xs → test t ≡ true → ⊥
  find_none [] t e i h = i
  find_none (y ∷ ys) t e i h =
      elim (test y) as (λ b. test y ≡ b → cond b (Some y) (find test ys) ≡ None → ⊥) [
        | true ↦ λ w g. cc
        | false ↦ λ w g. ⊎_elim (λ same. both_ways (test y) w (subst (λ z. test z ≡ true) same h)) (λ k. find_none ys t g k h) i
      ] refl e

  -- in a list that rises it is the least that passes
  find_least : (cmp : X → X → Ordering) (xs : List X) (x t : X) → IsStrictlySortedBy cmp xs → find test xs ≡ Some x → IsIn t xs → test t ≡ true → (t ≡ x) ⊎ (cmp x t ≡ Less)
  unfolding IsStrictlySortedBy
  find_least cmp [] x t sorted e i h = absurd i
  find_least cmp (y ∷ ys) x t sorted e i h =
      elim (test y) as (λ b. test y ≡ b → cond b (Some y) (find test ys) ≡ Some x → (t ≡ x) ⊎ (cmp x t ≡ Less)) [
        | true ↦ λ w g. let same : y ≡ x = cc in ⊎_elim (λ k. inl (k ∙ same)) (λ k. inr (subst (λ z. cmp z t ≡ Less) same (all_in (λ z. cmp y z ≡ Less) ys sorted.0 t k))) i
        | false ↦ λ w g. ⊎_elim (λ k. absurd (both_ways (test y) w (subst (λ z. test z ≡ true) k h))) (λ k. find_least cmp ys x t sorted.1 g k h) i
      ] refl e

pub member_is_route : (p : ContactPlan) (r : RouteRequest) (s : List ℕ) → IsPlan p → IsIn s (routes p r) → IsTrue (is_route p r s)
member_is_route p r s good i = ((routes_are_listed p r good).members s).0 (Contains-from_in (routes p r) s i)

pub route_is_member : (p : ContactPlan) (r : RouteRequest) (s : List ℕ) → IsPlan p → IsTrue (is_route p r s) → IsIn s (routes p r)
route_is_member p r s good h = in_from_Contains (routes p r) s (((routes_are_listed p r good).members s).1 h)

-- records compare as keys do
pub record_order : (p : ContactPlan) (r : RouteRequest) (s t : List ℕ) → by_record (record_of p r s) (record_of p r t) ≡ by_key p r s t
record_order p r s t =
    elim (by_key p r s t) as (λ o. by_key p r s t ≡ o → ordering_then o (ordering_then (nat_cmp (until_of p s) (until_of p t)) (nat_cmp (entry_of p s) (entry_of p t))) ≡ o) [
      | Less ↦ λ e. refl
      | Equal ↦ λ e.
          let same = key_tells p r s t e in
          ap (λ o. ordering_then o (nat_cmp (entry_of p s) (entry_of p t))) (ap (λ w. nat_cmp (until_of p s) (until_of p w)) (sym same) ∙ tied_itself nat_cmp_total (until_of p s))
          ∙ ap (λ w. nat_cmp (entry_of p s) (entry_of p w)) (sym same) ∙ tied_itself nat_cmp_total (entry_of p s)
      | Greater ↦ λ e. refl
    ] refl

-- ---- the least route of a part

module _ (p : ContactPlan) (r : RouteRequest) (good : IsPlan p) (q excluded : List ℕ) where
  -- it is a route of the part, and no route of the part has a lesser key
  pub least_some : (s : List ℕ) → least_in p r q excluded ≡ Some s → IsTrue (is_route p r s) × IsTrue (goes_on q excluded s) × ((t : List ℕ) → IsTrue (is_route p r t) → IsTrue (goes_on q excluded t) → is_lt (by_key p r t s) ≡ false)
  unfolding least_in
  least_some s e =
      let m = find_in (goes_on q excluded) (routes p r) s e in (
        member_is_route p r s good m.0,
        m.1,
        λ t route on. ⊎_elim
            (λ same. ap is_lt (ap (λ w. by_key p r w s) same ∙ tied_itself (key_total p r) s))
            (λ less. ap is_lt ((key_total p r).antisymm t s ∙ ap ordering_reverse less))
            (find_least (goes_on q excluded) (by_key p r) (routes p r) s t (routes_are_listed p r good).rising e (route_is_member p r t good route) on),
      )

  pub least_none : least_in p r q excluded ≡ None → (t : List ℕ) → IsTrue (is_route p r t) → IsTrue (goes_on q excluded t) → ⊥
  unfolding least_in
  least_none e t route on = find_none (goes_on q excluded) (routes p r) t e (route_is_member p r t good route) on
