-- Under stricter limits, the routes are those within them.
use Rattle.std.proofs.Common.{◌≡◌, ℕ, ◌≤◌, true, not, eqb, leb, List, [], ◌∷◌, length, refl, sym, subst, ⊎_elim, arith}
use Rattle.std.specs.Prelude.{is_some, IsTrue}
use Rattle.std.specs.List.{list_all}
use Rattle.std.proofs.lemmas.Bool.{and_parts, and_from, or_cases, eqb-true, leb-true, le-leb, not-true, not_from_false, both_ways, false_from_ne_true}
use Rattle.sabr_model.specs.plan.Plan.{ContactPlan, has}
use Rattle.sabr_model.specs.routes.Arrival.{RouteRequest}
use Rattle.sabr_model.specs.routes.Asking.{with_limits}
use Rattle.sabr_model.specs.routes.Route.{receivers, IsRoute}
use Rattle.sabr_laws.specs.Fewer.{keeps_limits, LimitsLeaveRoutesOut}
use Rattle.sabr_laws.proofs.Alike.{AgreeOn, arrival_after_alike, delivery_alike}
use Rattle.sabr_laws.proofs.SameListing.{AreLeftOf, leaves}

-- a node of a list whose nodes are all in another is in the other
has_too : (v : ℕ) (vs ws : List ℕ) → list_all (λ w. has w ws) vs ≡ true → has v vs ≡ true → has v ws ≡ true
has_too v [] ws all there = absurd cc
has_too v (w ∷ vs) ws all there =
    let parts = and_parts (has w ws) (list_all (λ x. has x ws) vs) all in
    ⊎_elim (λ here. subst (λ x. has x ws ≡ true) (sym (eqb-true v w here)) parts.0) (λ behind. has_too v vs ws parts.1 behind) (or_cases (eqb v w) (has v vs) there)

-- a route that goes over none of the nodes of a list goes over none of some of them
none_of_fewer : (some all nodes : List ℕ) → list_all (λ w. has w all) some ≡ true → list_all (λ v. not (has v all)) nodes ≡ true → list_all (λ v. not (has v some)) nodes ≡ true
none_of_fewer some all [] within none = refl
none_of_fewer some all (v ∷ nodes) within none =
    let parts = and_parts (not (has v all)) (list_all (λ w. not (has w all)) nodes) none in
    and_from (not (has v some)) (list_all (λ w. not (has w some)) nodes)
    (not_from_false (has v some) (false_from_ne_true (has v some) (λ there. both_ways (has v all) (not-true (has v all) parts.0) (has_too v some all within there))))
    (none_of_fewer some all nodes within parts.1)

-- a plan agrees with itself
agree_itself : (p : ContactPlan) (s : List ℕ) → AgreeOn p p s
agree_itself p [] = tt
agree_itself p (n ∷ s) = (refl, agree_itself p s)

module _ (p : ContactPlan) (r : RouteRequest) (max_hops : ℕ) (avoided : List ℕ) (fewer : max_hops ≤ r.max_hops) (more : IsTrue (list_all (λ v. has v avoided) r.avoided)) where
  within_limits : (s : List ℕ) → IsRoute p (with_limits r max_hops avoided) s → IsRoute p r s
  within_limits s route = record {
    some_hop = route.some_hop;
    reaches = route.reaches;
    different = route.different;
    in_time = subst (λ o. IsTrue (is_some o)) (arrival_after_alike p p (with_limits r max_hops avoided) r refl refl r.at s (agree_itself p s)) route.in_time;
    allowed = none_of_fewer r.avoided avoided (receivers p s) more route.allowed;
    within = let short = route.within in omega (arith, short, fewer);
  }

  keeps : (s : List ℕ) → IsRoute p (with_limits r max_hops avoided) s → keeps_limits p max_hops avoided s ≡ true
  keeps s route = and_from (leb (length s) max_hops) (list_all (λ v. not (has v avoided)) (receivers p s)) (le-leb (length s) max_hops route.within) route.allowed

  stays_within : (s : List ℕ) → IsRoute p r s → keeps_limits p max_hops avoided s ≡ true → IsRoute p (with_limits r max_hops avoided) s
  stays_within s route kept =
      let parts = and_parts (leb (length s) max_hops) (list_all (λ v. not (has v avoided)) (receivers p s)) kept in
      record {
        some_hop = route.some_hop;
        reaches = route.reaches;
        different = route.different;
        in_time = subst (λ o. IsTrue (is_some o)) (arrival_after_alike p p r (with_limits r max_hops avoided) refl refl r.at s (agree_itself p s)) route.in_time;
        allowed = parts.1;
        within = leb-true (length s) max_hops parts.0;
      }

  pub left_within : AreLeftOf p r p (with_limits r max_hops avoided) (keeps_limits p max_hops avoided)
  left_within = record {
    were = within_limits;
    pass = keeps;
    stay = stays_within;
    deliver = λ s route. delivery_alike p p (with_limits r max_hops avoided) r refl refl s refl (agree_itself p s);
  }

pub limits_leave_routes_out : LimitsLeaveRoutesOut
limits_leave_routes_out p r max_hops avoided plan fewer more =
    leaves p r p (with_limits r max_hops avoided) (keeps_limits p max_hops avoided) plan plan (left_within p r max_hops avoided fewer more)
