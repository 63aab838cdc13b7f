-- The tests of a path and of a route, and their facts.
use Rattle.sabr_model.proofs.ListLemmas.Names.{◌≡◌, ℕ, true, false, ◌&&◌, ltb, leb, not, eqb, List, [], ◌∷◌, length, refl, ap, ◌∙◌, arith, is_some, IsTrue, ltb-true, leb-true, lt-ltb, le-leb, and_parts, and_from, eq-eqb, eqb-true, list_all, option_map_or, Option, Some, None, ContactPlan, has, are_different, RouteRequest, arrival_after, chain_end, receivers, ends_at, IsPath, IsRoute}
use Rattle.sabr_model.specs.routes.Route.{is_route, is_path}

pub end_named : (o : Option ℕ) (d : ℕ) → option_map_or (λ b. eqb b d) o false ≡ true → o ≡ Some d
end_named None d e = absurd cc
end_named (Some b) d e = ap Some (eqb-true b d e)

pub path_facts : (p : ContactPlan) (r : RouteRequest) (s : List ℕ) → IsTrue (is_path p r s) → IsPath p r s
unfolding is_path
path_facts p r s h =
    let chained = is_some (chain_end p r.source s) in
    let different = are_different (r.source ∷ receivers p s) in
    let in_time = is_some (arrival_after p r r.at s) in
    let allowed = list_all (λ n. not (has n r.avoided)) (receivers p s) in
    let within = leb (length s) r.max_hops in
    let a = and_parts (chained && different && in_time && allowed) within h in
    let b = and_parts (chained && different && in_time) allowed a.0 in
    let c = and_parts (chained && different) in_time b.0 in
    let d = and_parts chained different c.0 in
    record { chained = d.0; different = d.1; in_time = c.1; allowed = b.1; within = leb-true (length s) r.max_hops a.1 }

pub path_from_facts : (p : ContactPlan) (r : RouteRequest) (s : List ℕ) → IsPath p r s → IsTrue (is_path p r s)
unfolding is_path
path_from_facts p r s h =
    let chained = is_some (chain_end p r.source s) in
    let different = are_different (r.source ∷ receivers p s) in
    let in_time = is_some (arrival_after p r r.at s) in
    let allowed = list_all (λ n. not (has n r.avoided)) (receivers p s) in
    and_from (chained && different && in_time && allowed) (leb (length s) r.max_hops)
    (and_from (chained && different && in_time) allowed
    (and_from (chained && different) in_time (and_from chained different h.chained h.different) h.in_time)
    h.allowed)
    (le-leb (length s) r.max_hops h.within)

pub route_facts : (p : ContactPlan) (r : RouteRequest) (s : List ℕ) → IsTrue (is_route p r s) → IsRoute p r s
unfolding is_route
route_facts p r s h =
    let both = and_parts (ltb 0 (length s) && ends_at p r s) (is_path p r s) h in
    let ends = and_parts (ltb 0 (length s)) (ends_at p r s) both.0 in
    let path = path_facts p r s both.1 in
    record {
      some_hop = ltb-true 0 (length s) ends.0;
      reaches = end_named (chain_end p r.source s) r.destination ends.1;
      different = path.different;
      in_time = path.in_time;
      allowed = path.allowed;
      within = path.within;
    }

pub route_from_facts : (p : ContactPlan) (r : RouteRequest) (s : List ℕ) → IsRoute p r s → IsTrue (is_route p r s)
unfolding is_route
route_from_facts p r s h =
    let ends = ap (λ o. option_map_or (λ b. eqb b r.destination) o false) h.reaches ∙ eq-eqb r.destination r.destination refl in
    and_from (ltb 0 (length s) && ends_at p r s) (is_path p r s)
    (and_from (ltb 0 (length s)) (ends_at p r s) (lt-ltb 0 (length s) h.some_hop) ends)
    (path_from_facts p r s (record { chained = ap is_some h.reaches; different = h.different; in_time = h.in_time; allowed = h.allowed; within = h.within }))

pub empty_route : (p : ContactPlan) (r : RouteRequest) → IsTrue (is_route p r []) → ⊥
empty_route p r h = omega (arith, (route_facts p r [] h).some_hop)
