-- The list of all routes leaves no way out: each journey's way is listed, and none ends before the first route delivers.
use Rattle.sabr_model.proofs.ListLemmas.Names.{◌≡◌, ℕ, ◌≤◌, List, [], ◌∷◌, length, slice_get, refl, sym, ap, subst, inl, inr, arith, ◌+◌, true, false, cond, eqb, not, ◌∙◌, ◌≢◌, ◌<◌, Contains, is_some, unwrap_or, nat_cmp, ordering_then, Ordering, Less, Some, None, nat_tests, slice_get_within, get_or_from_slice_get, ContactPlan, IsPlan, contact_named, has, are_different, RouteRequest, arrival_after, cost, chain_end, by_key, delivery_of, receivers, routes, CanArrive, IsJourney, MeetsNoneTwice, FirstDeliversBy, asked_at, EveryWayIsListed, list_all, option_and_then, and_parts, and_from, or_cases, eqb-true, not_from_false, cond-true, Contact}
use Rattle.std.specs.List.Sorted.{IsStrictlySortedBy}
use Rattle.sabr_model.proofs.ListLemmas.Members.{IsIn, all_in, in_from_Contains}
use Rattle.sabr_model.proofs.RouteLemmas.Waiting.{no_later, no_sooner, soonest}
use Rattle.sabr_model.proofs.RouteLemmas.Paths.{value_of}
use Rattle.sabr_model.proofs.RouteLemmas.Routes.{route_facts, route_from_facts}
use Rattle.sabr_model.proofs.RouteLemmas.RoutesListed.{routes_are_listed}
use Rattle.sabr_model.proofs.ListLemmas.Answered.{passed}
use Rattle.sabr_model.proofs.ListLemmas.Begins.{receivers-cons}

-- Journeys that come to a node more than once: without what lies between, they arrive no later.

-- a chain without loops from a to b, within so many hops and over no avoided node, for a bundle that is at a at t and is to
-- be at b by d
pub record IsLoopless (p : ContactPlan) (r : RouteRequest) (a t b d hops : ℕ) (s : List ℕ) : Type 0 where
  pub reaches : chain_end p a s ≡ Some b
  pub different : are_different (a ∷ receivers p s) ≡ true
  pub allowed : list_all (λ n. not (has n r.avoided)) (receivers p s) ≡ true
  pub within : length s ≤ hops
  pub there_at : ℕ
  pub arrives : CanArrive p r t s there_at
  pub in_time : there_at ≤ d

-- it is enough to be there earlier, and to have more hops
earlier : (p : ContactPlan) (r : RouteRequest) (a t u b d hops more : ℕ) (s : List ℕ) → t ≤ u → hops ≤ more → IsLoopless p r a u b d hops s → IsLoopless p r a t b d more s
earlier p r a t u b d hops more s le wide way =
    let soon = no_later p r t u s way.there_at le way.arrives in
    record {
      reaches = way.reaches;
      different = way.different;
      allowed = way.allowed;
      within = omega (arith, way.within, wide);
      there_at = soon.0;
      arrives = soon.1;
      in_time = omega (arith, soon.2, way.in_time);
    }

-- the first contact of a chain, and what is left of it
rest_of : (p : ContactPlan) (a n : ℕ) (s : List ℕ) (b : ℕ) (c : Contact) → contact_named p n ≡ Some c → chain_end p a (n ∷ s) ≡ Some b → (eqb c.from a ≡ true) × (chain_end p c.to s ≡ Some b)
rest_of p a n s b c named reaches =
    passed (eqb c.from a) (chain_end p c.to s) b (sym (ap (option_and_then (λ (x : Contact). cond (eqb x.from a) (chain_end p x.to s) None)) named) ∙ reaches)

module _ (p : ContactPlan) (r : RouteRequest) where
  -- without its first contact it is such a chain of the next node, and a bundle that is there as early has time enough
  left : (a t b d hops n : ℕ) (s : List ℕ) (way : IsLoopless p r a t b d hops (n ∷ s)) → CanArrive p r t (n ∷ s) way.there_at → (c : Contact) × (contact_named p n ≡ Some c) × IsLoopless p r c.to t b d hops s
  left a t b d hops n s way (c, l, sent, named, light, there, begun, before, rest) =
      let all = receivers-cons p n s c named in
      let different = and_parts (not (has a (receivers p (n ∷ s)))) (are_different (receivers p (n ∷ s))) way.different in
      let allowed = and_parts (not (has c.to r.avoided)) (list_all (λ m. not (has m r.avoided)) (receivers p s)) (ap (list_all (λ m. not (has m r.avoided))) (sym all) ∙ way.allowed) in (
        c,
        named,
        earlier p r c.to t (sent + cost r.margin l) b d hops hops s (omega (arith, there)) (omega arith) (record {
          reaches = (rest_of p a n s b c named way.reaches).1;
          different = ap are_different (sym all) ∙ different.1;
          allowed = allowed.1;
          within = omega (arith, way.within);
          there_at = way.there_at;
          arrives = rest;
          in_time = way.in_time;
        }),
      )

  -- so is what is left of it at any node that it comes to
  from_visit : (x a t b d hops : ℕ) (s : List ℕ) → IsLoopless p r a t b d hops s → has x (a ∷ receivers p s) ≡ true → (z : List ℕ) × IsLoopless p r x t b d hops z
  from_visit x a t b d hops [] way met =
      elim (or_cases (eqb x a) false met) [
        | inl here ↦ ([], subst (λ y. IsLoopless p r y t b d hops []) (sym (eqb-true x a here)) way)
        | inr never ↦ absurd cc
      ]
  from_visit x a t b d hops (n ∷ s) way met =
      elim (or_cases (eqb x a) (has x (receivers p (n ∷ s))) met) [
        | inl here ↦ (n ∷ s, subst (λ y. IsLoopless p r y t b d hops (n ∷ s)) (sym (eqb-true x a here)) way)
        | inr later ↦
            let next = left a t b d hops n s way way.arrives in
            from_visit x next.0.to t b d hops s next.2 (ap (has x) (sym (receivers-cons p n s next.0 next.1)) ∙ later)
      ]

-- each chain has one without loops that arrives no later
pub without_loops : (p : ContactPlan) (r : RouteRequest) (a t b d : ℕ) (s : List ℕ) → chain_end p a s ≡ Some b → list_all (λ n. not (has n r.avoided)) (receivers p s) ≡ true → CanArrive p r t s d → (z : List ℕ) × IsLoopless p r a t b d (length s) z
without_loops p r a t b d [] reaches allowed same =
    ([], record { reaches = reaches; different = refl; allowed = refl; within = omega arith; there_at = t; arrives = refl; in_time = omega (arith, same) })
without_loops p r a t b d (n ∷ s) reaches allowed (c, l, sent, named, light, there, begun, before, rest) =
    let all = receivers-cons p n s c named in
    let parts = and_parts (not (has c.to r.avoided)) (list_all (λ m. not (has m r.avoided)) (receivers p s)) (ap (list_all (λ m. not (has m r.avoided))) (sym all) ∙ allowed) in
    let hop = rest_of p a n s b c named reaches in
    let onward = without_loops p r c.to (sent + cost r.margin l) b d s hop.1 parts.1 rest in
    let behind = receivers-cons p n onward.0 c named in
    elim (has a (c.to ∷ receivers p onward.0)) as (λ met. has a (c.to ∷ receivers p onward.0) ≡ met → (z : List ℕ) × IsLoopless p r a t b d (length (n ∷ s)) z) [
      | true ↦ λ met.
          from_visit p r a c.to t b d (length (n ∷ s)) onward.0 (earlier p r c.to t (sent + cost r.margin l) b d (length s) (length (n ∷ s)) onward.0 (omega (arith, there)) (omega arith) onward.1) met
      | false ↦ λ new. (
        n ∷ onward.0,
        record {
          reaches = ap (option_and_then (λ (x : Contact). cond (eqb x.from a) (chain_end p x.to onward.0) None)) named
              ∙ cond-true (eqb c.from a) (chain_end p c.to onward.0) None hop.0 ∙ onward.1.reaches;
          different = ap (λ w. are_different (a ∷ w)) behind ∙ and_from (not (has a (c.to ∷ receivers p onward.0))) (are_different (c.to ∷ receivers p onward.0)) (not_from_false (has a (c.to ∷ receivers p onward.0)) new) onward.1.different;
          allowed = ap (list_all (λ m. not (has m r.avoided))) behind ∙ and_from (not (has c.to r.avoided)) (list_all (λ m. not (has m r.avoided)) (receivers p onward.0)) parts.0 onward.1.allowed;
          within = omega (arith, onward.1.within);
          there_at = onward.1.there_at;
          arrives = (c, l, sent, named, light, there, begun, before, onward.1.arrives);
          in_time = onward.1.in_time;
        },
      )
    ] refl

-- The list leaves no way out.

-- the first number decides if it isn't the same
first_decides : (a b : ℕ) (o : Ordering) → ordering_then (nat_cmp a b) o ≡ Less → a ≤ b
first_decides a b o h = grind (arith, nat_tests)

-- the first of a sorted list delivers no later than each of it
first_delivers : (p : ContactPlan) (r : RouteRequest) (ways : List (List ℕ)) (s : List ℕ) → IsStrictlySortedBy (by_key p r) ways → IsIn s ways → (x : List ℕ) × (slice_get ways 0 ≡ Some x) × (delivery_of p r x ≤ delivery_of p r s)
unfolding IsStrictlySortedBy
first_delivers p r [] s sorted never = absurd never
first_delivers p r (x ∷ ways) s sorted (inl same) = (x, refl, omega (arith, ap (delivery_of p r) same))
first_delivers p r (x ∷ ways) s sorted (inr behind) =
    (x, refl, first_decides (delivery_of p r x) (delivery_of p r s) _ (all_in (λ z. by_key p r x z ≡ Less) ways sorted.0 s behind))

-- a journey between two nodes has a contact
some_hop : (p : ContactPlan) (a b : ℕ) (s : List ℕ) → a ≢ b → chain_end p a s ≡ Some b → 0 < length s
some_hop p a b [] apart e = absurd (apart (let same : Some a ≡ Some b = e in cc))
some_hop p a b (n ∷ s) apart e = omega arith

module _ (p : ContactPlan) (r : RouteRequest) (plan : IsPlan p) where
  way_is_listed : r.source ≢ r.destination → (s : List ℕ) (d : ℕ) → IsJourney p r s d → MeetsNoneTwice p r s → Contains (routes p r) s × (delivery_of p r s ≤ d)
  way_is_listed apart s d journey different =
      let found = no_sooner p r r.at r.at s d (omega arith) journey.arrives in (
        ((routes_are_listed p r plan).members s).1 (route_from_facts p r s (record {
          some_hop = some_hop p r.source r.destination s apart journey.reaches;
          reaches = journey.reaches;
          different = different;
          in_time = ap is_some found.1;
          allowed = journey.allowed;
          within = journey.within;
        })),
        subst (λ o. unwrap_or o 0 ≤ d) (sym found.1) found.2,
      )

  route_is_travelled : (s : List ℕ) → Contains (routes p r) s → IsJourney p r s (delivery_of p r s) × MeetsNoneTwice p r s
  route_is_travelled s listed =
      let is = route_facts p r s (((routes_are_listed p r plan).members s).0 listed) in
      let d = value_of (arrival_after p r r.at s) is.in_time in (
        record {
          reaches = is.reaches;
          allowed = is.allowed;
          within = is.within;
          arrives = subst (λ o. CanArrive p r r.at s (unwrap_or o 0)) (sym d.1) (soonest p r r.at s d.0 d.1);
        },
        is.different,
      )

  nothing_is_sooner : r.source ≢ r.destination → (s : List ℕ) (d : ℕ) → IsJourney p r s d → FirstDeliversBy p r d
  nothing_is_sooner apart s d journey =
      let cut = without_loops p r r.source r.at r.destination d s journey.reaches journey.allowed journey.arrives in
      let way = cut.1 in
      let listed = way_is_listed apart cut.0 way.there_at (record {
        reaches = way.reaches;
        allowed = way.allowed;
        within = omega (arith, way.within, journey.within);
        arrives = way.arrives;
      }) way.different in
      let first = first_delivers p r (routes p r) cut.0 (routes_are_listed p r plan).rising (in_from_Contains (routes p r) cut.0 listed.0) in
      (first.0, first.1, omega (arith, first.2, listed.1, way.in_time))

-- a bundle that is at the source later makes a journey that is one for the earlier bundle, too
nobody_overtakes : (p : ContactPlan) (r : RouteRequest) → IsPlan p → r.source ≢ r.destination → (t d : ℕ) → r.at ≤ t → FirstDeliversBy p (asked_at r t) d → FirstDeliversBy p r d
nobody_overtakes p r plan apart t d le (s, first, by_d) =
    let later = route_is_travelled p (asked_at r t) plan s (0, slice_get_within (routes p (asked_at r t)) 0 s first, get_or_from_slice_get (routes p (asked_at r t)) 0 s s first) in
    let soon = no_later p r r.at t s (delivery_of p (asked_at r t) s) le later.0.arrives in
    let found = nothing_is_sooner p r plan apart s soon.0 (record {
      reaches = later.0.reaches;
      allowed = later.0.allowed;
      within = later.0.within;
      arrives = soon.1;
    }) in
    (found.0, found.1, omega (arith, found.2, soon.2, by_d))

pub every_way_is_listed : EveryWayIsListed
every_way_is_listed p r plan apart = record {
  listed = way_is_listed p r plan apart;
  travelled = route_is_travelled p r plan;
  first = nothing_is_sooner p r plan apart;
  later = nobody_overtakes p r plan apart;
}
