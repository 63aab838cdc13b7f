-- Chains with which routes may begin and continue.
use Rattle.sabr_model.proofs.ListLemmas.Names.{◌≡◌, ℕ, false, ◌||◌, not, eqb, List, [], ◌∷◌, ◌++◌, refl, sym, ap, subst, ◌∙◌, arith, length-append, append_assoc, IsTrue, and_parts, and_from, or_from, eqb-true, not-true, not_from_false, false_from_ne_true, both_ways, list_any-append, Some, ContactPlan, has, are_different, RouteRequest, chain_end, receivers, is_path, is_route}
use Rattle.sabr_model.specs.routes.Route.{is_prefix}
use Rattle.sabr_model.proofs.ListLemmas.Answered.{had_value}
use Rattle.sabr_model.proofs.RouteLemmas.Routes.{route_facts, empty_route}
use Rattle.sabr_model.proofs.ListLemmas.Begins.{chain_end-append, receivers-append, end_is_received, different_apart}
use Rattle.sabr_model.proofs.RouteLemmas.Paths.{path_from_facts, beginning_is_path, route_is_path, route_from_path, hop_facts, receivers_push, chain_end_push}

pub prefix_is_path : (p : ContactPlan) (r : RouteRequest) (q : List ℕ) → IsTrue (is_prefix p r q) → IsTrue (is_path p r q)
unfolding is_prefix
prefix_is_path p r q h = (and_parts (is_path p r q) (not (has r.destination (receivers p q))) h).0

-- it doesn't reach the destination
pub prefix_passes : (p : ContactPlan) (r : RouteRequest) (q : List ℕ) → IsTrue (is_prefix p r q) → has r.destination (receivers p q) ≡ false
unfolding is_prefix
prefix_passes p r q h = not-true (has r.destination (receivers p q)) (and_parts (is_path p r q) (not (has r.destination (receivers p q))) h).1

pub prefix_from_path : (p : ContactPlan) (r : RouteRequest) (q : List ℕ) → IsTrue (is_path p r q) → has r.destination (receivers p q) ≡ false → IsTrue (is_prefix p r q)
unfolding is_prefix
prefix_from_path p r q h passes = and_from (is_path p r q) (not (has r.destination (receivers p q))) h (not_from_false (has r.destination (receivers p q)) passes)

-- every route begins with the empty prefix
pub empty_is_path : (p : ContactPlan) (r : RouteRequest) → IsTrue (is_path p r [])
empty_is_path p r = path_from_facts p r [] (record { chained = refl; different = refl; in_time = refl; allowed = refl; within = omega arith })

pub empty_is_prefix : (p : ContactPlan) (r : RouteRequest) → IsTrue (is_prefix p r [])
empty_is_prefix p r = prefix_from_path p r [] (empty_is_path p r) refl

-- no prefix is a route
pub prefix_is_no_route : (p : ContactPlan) (r : RouteRequest) (q : List ℕ) → IsTrue (is_prefix p r q) → IsTrue (is_route p r q) → ⊥
prefix_is_no_route p r [] h route = empty_route p r route
prefix_is_no_route p r (n ∷ q) h route =
    both_ways (has r.destination (receivers p (n ∷ q))) (prefix_passes p r (n ∷ q) h) (end_is_received p r.source n q r.destination (route_facts p r (n ∷ q) route).reaches)

-- a path of one more hop than a prefix is a route or a prefix
pub prefix_goes_on : (p : ContactPlan) (r : RouteRequest) (q : List ℕ) (n : ℕ) → IsTrue (is_prefix p r q) → IsTrue (is_path p r (q ++ n ∷ [])) → is_route p r (q ++ n ∷ []) ≡ false → IsTrue (is_prefix p r (q ++ n ∷ []))
prefix_goes_on p r q n h path none =
    let hop = hop_facts p r q n path in
    let elsewhere : eqb r.destination hop.contact.to ≡ false =
    false_from_ne_true (eqb r.destination hop.contact.to) (λ e.
    both_ways (is_route p r (q ++ n ∷ [])) none
    (route_from_path p r (q ++ n ∷ []) path (omega (arith, length-append q (n ∷ [])))
    (chain_end_push p r.source q n hop.contact hop.named hop.sent ∙ ap Some (sym (eqb-true r.destination hop.contact.to e))))) in
    prefix_from_path p r (q ++ n ∷ []) path
    (ap (has r.destination) (receivers_push p q n hop.contact hop.named)
    ∙ list_any-append (eqb r.destination) (receivers p q) (hop.contact.to ∷ [])
    ∙ or_from (has r.destination (receivers p q)) (eqb r.destination hop.contact.to || false) (prefix_passes p r q h) (or_from (eqb r.destination hop.contact.to) false elsewhere refl))

-- a proper beginning of a route is a prefix
pub beginning_is_prefix : (p : ContactPlan) (r : RouteRequest) (q : List ℕ) (n : ℕ) (t : List ℕ) → IsTrue (is_route p r (q ++ n ∷ t)) → IsTrue (is_prefix p r q)
beginning_is_prefix p r q n t route =
    let f = route_facts p r (q ++ n ∷ t) route in
    let path = beginning_is_path p r q (n ∷ t) (route_is_path p r (q ++ n ∷ t) route) in
    let onward = had_value (λ b. chain_end p b (n ∷ t)) (chain_end p r.source q) r.destination (sym (chain_end-append p r.source q (n ∷ t)) ∙ f.reaches) in
    let received = end_is_received p onward.0 n t r.destination onward.2 in
    let different = and_parts (not (has r.source (receivers p (q ++ n ∷ t)))) (are_different (receivers p (q ++ n ∷ t))) f.different in
    prefix_from_path p r q path
    (false_from_ne_true (has r.destination (receivers p q)) (λ h.
    different_apart (receivers p q) (receivers p (n ∷ t)) r.destination (ap are_different (sym (receivers-append p q (n ∷ t))) ∙ different.1) h received))

-- a proper beginning of a route, with the next hop, is a path
pub beginning_goes_on : (p : ContactPlan) (r : RouteRequest) (q : List ℕ) (n : ℕ) (t : List ℕ) → IsTrue (is_route p r (q ++ n ∷ t)) → IsTrue (is_path p r (q ++ n ∷ []))
beginning_goes_on p r q n t route =
    beginning_is_path p r (q ++ n ∷ []) t (subst (λ s. IsTrue (is_path p r s)) (sym (append_assoc q (n ∷ []) t)) (route_is_path p r (q ++ n ∷ t) route))
