-- Chains that can be the beginning of a route: their facts, their beginnings, and one more hop.
use Rattle.sabr_model.proofs.ListLemmas.Names.{◌≡◌, ℕ, ◌<◌, Bool, true, false, cond, ◌&&◌, not, eqb, List, [], ◌∷◌, ◌++◌, length, refl, sym, ap, subst, ◌∙◌, ⊎_elim, arith, length-append, is_some, IsTrue, list_all, option_and_then, and_parts, and_from, or_cases, eqb-true, eq-eqb, not-true, not_from_false, false_from_ne_true, both_ways, list_all-append, Option, Some, None, Contact, ContactPlan, contact_named, has, are_different, RouteRequest, arrival, arrival_after, chain_end, receivers, is_path, is_route}
use Rattle.sabr_model.proofs.ListLemmas.Different.{different_append, different_front, different_last}
pub use Rattle.sabr_model.proofs.RouteLemmas.Routes.{path_facts, path_from_facts}
use Rattle.sabr_model.proofs.RouteLemmas.Routes.{route_facts, route_from_facts}
use Rattle.sabr_model.proofs.ListLemmas.Begins.{chain_end-append, receivers-append, receivers-cons, first_hop}

-- a route is a path that has a hop and ends at the destination
pub route_is_path : (p : ContactPlan) (r : RouteRequest) (s : List ℕ) → IsTrue (is_route p r s) → IsTrue (is_path p r s)
route_is_path p r s h =
    let f = route_facts p r s h in
    path_from_facts p r s (record { chained = ap is_some f.reaches; different = f.different; in_time = f.in_time; allowed = f.allowed; within = f.within })

pub route_from_path : (p : ContactPlan) (r : RouteRequest) (s : List ℕ) → IsTrue (is_path p r s) → 0 < length s → chain_end p r.source s ≡ Some r.destination → IsTrue (is_route p r s)
route_from_path p r s h some reaches =
    let f = path_facts p r s h in
    route_from_facts p r s (record { some_hop = some; reaches = reaches; different = f.different; in_time = f.in_time; allowed = f.allowed; within = f.within })

-- an option that is not None has a value
pub value_of : {X : Type 0} (o : Option X) → is_some o ≡ true → (x : X) × (o ≡ Some x)
value_of None h = absurd cc
value_of (Some x) h = (x, refl)

pub arrival_after-append : (p : ContactPlan) (r : RouteRequest) (t : ℕ) (q s : List ℕ) → arrival_after p r t (q ++ s) ≡ option_and_then (λ u. arrival_after p r u s) (arrival_after p r t q)
arrival_after-append p r t [] s = refl
arrival_after-append p r t (n ∷ q) s =
    elim (contact_named p n) as (λ o. option_and_then (λ c. option_and_then (λ u. arrival_after p r u (q ++ s)) (arrival p r t c)) o ≡ option_and_then (λ u. arrival_after p r u s) (option_and_then (λ c. option_and_then (λ u. arrival_after p r u q) (arrival p r t c)) o)) [
      | None ↦ refl
      | Some c ↦ elim (arrival p r t c) as (λ o. option_and_then (λ u. arrival_after p r u (q ++ s)) o ≡ option_and_then (λ u. arrival_after p r u s) (option_and_then (λ u. arrival_after p r u q) o)) [
        | None ↦ refl
        | Some u ↦ arrival_after-append p r u q s
      ]
    ]

-- if a function of an option's value has a result, the option has a value
before_then : {X Y : Type 0} (f : X → Option Y) (o : Option X) → is_some (option_and_then f o) ≡ true → is_some o ≡ true
before_then f None h = h
before_then f (Some x) h = refl

pub beginning_is_path : (p : ContactPlan) (r : RouteRequest) (q s : List ℕ) → IsTrue (is_path p r (q ++ s)) → IsTrue (is_path p r q)
beginning_is_path p r q s h =
    let f = path_facts p r (q ++ s) h in
    let both : receivers p (q ++ s) ≡ receivers p q ++ receivers p s = receivers-append p q s in
    let allowed : (list_all (λ n. not (has n r.avoided)) (receivers p q) && list_all (λ n. not (has n r.avoided)) (receivers p s)) ≡ true =
    sym (list_all-append (λ n. not (has n r.avoided)) (receivers p q) (receivers p s)) ∙ ap (list_all (λ n. not (has n r.avoided))) (sym both) ∙ f.allowed in
    path_from_facts p r q (record {
      chained = before_then (λ b. chain_end p b s) (chain_end p r.source q) (ap is_some (sym (chain_end-append p r.source q s)) ∙ f.chained);
      different = different_front (r.source ∷ receivers p q) (receivers p s) (ap (λ w. are_different (r.source ∷ w)) (sym both) ∙ f.different);
      in_time = before_then (λ u. arrival_after p r u s) (arrival_after p r r.at q) (ap is_some (sym (arrival_after-append p r r.at q s)) ∙ f.in_time);
      allowed = (and_parts (list_all (λ n. not (has n r.avoided)) (receivers p q)) (list_all (λ n. not (has n r.avoided)) (receivers p s)) allowed).0;
      within = let w = f.within in omega (arith, length-append q s);
    })

-- a hop over contact n that continues the path q
pub record IsHop (p : ContactPlan) (r : RouteRequest) (q : List ℕ) (n : ℕ) : Type 0 where
  pub contact : Contact
  pub named : contact_named p n ≡ Some contact
  pub sent : chain_end p r.source q ≡ Some contact.from
  pub fresh : has contact.to (r.source ∷ receivers p q) ≡ false
  pub ready : ℕ
  pub there_at : arrival_after p r r.at q ≡ Some ready
  pub arrived : ℕ
  pub arrives_at : arrival p r ready contact ≡ Some arrived
  pub allowed : has contact.to r.avoided ≡ false
  pub room : length q < r.max_hops

different_push : (xs : List ℕ) (x : ℕ) → are_different xs ≡ true → has x xs ≡ false → are_different (xs ++ x ∷ []) ≡ true
different_push xs x d new =
    different_append xs (x ∷ []) d refl (λ n in_xs in_x. ⊎_elim (λ same. both_ways (has x xs) new (subst (λ m. has m xs ≡ true) (eqb-true n x same) in_xs)) (λ no. absurd cc) (or_cases (eqb n x) false in_x))

-- the receivers after one more hop
pub receivers_push : (p : ContactPlan) (q : List ℕ) (n : ℕ) (c : Contact) → contact_named p n ≡ Some c → receivers p (q ++ n ∷ []) ≡ receivers p q ++ c.to ∷ []
receivers_push p q n c e = receivers-append p q (n ∷ []) ∙ ap (λ w. receivers p q ++ w) (receivers-cons p n [] c e)

-- where a chain with one more hop ends
pub chain_end_push : (p : ContactPlan) (a : ℕ) (q : List ℕ) (n : ℕ) (c : Contact) → contact_named p n ≡ Some c → chain_end p a q ≡ Some c.from → chain_end p a (q ++ n ∷ []) ≡ Some c.to
chain_end_push p a q n c named e =
    chain_end-append p a q (n ∷ []) ∙ ap (option_and_then (λ b. chain_end p b (n ∷ []))) e
    ∙ ap (option_and_then (λ (d : Contact). cond (eqb d.from c.from) (Some d.to) None)) named
    ∙ ap (λ b. cond b (Some c.to) None) (eq-eqb c.from c.from refl)

-- when one more hop arrives
pub arrival_after_push : (p : ContactPlan) (r : RouteRequest) (t : ℕ) (q : List ℕ) (n : ℕ) (c : Contact) (u v : ℕ) → contact_named p n ≡ Some c → arrival_after p r t q ≡ Some u → arrival p r u c ≡ Some v → arrival_after p r t (q ++ n ∷ []) ≡ Some v
arrival_after_push p r t q n c u v named e arrives =
    arrival_after-append p r t q (n ∷ []) ∙ ap (option_and_then (λ w. arrival_after p r w (n ∷ []))) e
    ∙ ap (option_and_then (λ (d : Contact). option_and_then (λ w. Some w) (arrival p r u d))) named
    ∙ ap (option_and_then (λ w. Some w)) arrives

pub hop_facts : (p : ContactPlan) (r : RouteRequest) (q : List ℕ) (n : ℕ) → IsTrue (is_path p r (q ++ n ∷ [])) → IsHop p r q n
hop_facts p r q n h =
    let f = path_facts p r (q ++ n ∷ []) h in
    let before = path_facts p r q (beginning_is_path p r q (n ∷ []) h) in
    let end = value_of (chain_end p r.source q) before.chained in
    let onward = value_of (chain_end p end.0 (n ∷ [])) (ap (λ o. is_some (option_and_then (λ b. chain_end p b (n ∷ [])) o)) (sym end.1) ∙ ap is_some (sym (chain_end-append p r.source q (n ∷ []))) ∙ f.chained) in
    let hop = first_hop p end.0 n [] onward.0 onward.1 in
    let ready = value_of (arrival_after p r r.at q) before.in_time in
    let late : is_some (option_and_then (λ (c : Contact). option_and_then (λ w. Some w) (arrival p r ready.0 c)) (contact_named p n)) ≡ true =
    ap (λ o. is_some (option_and_then (λ w. arrival_after p r w (n ∷ [])) o)) (sym ready.1) ∙ ap is_some (sym (arrival_after-append p r r.at q (n ∷ []))) ∙ f.in_time in
    let arrived = value_of (arrival p r ready.0 hop.contact) (before_then (λ w. Some w) (arrival p r ready.0 hop.contact) (ap (λ o. is_some (option_and_then (λ (c : Contact). option_and_then (λ w. Some w) (arrival p r ready.0 c)) o)) (sym hop.named) ∙ late)) in
    let seen = receivers_push p q n hop.contact hop.named in
    let passes : ℕ → Bool = λ m. not (has m r.avoided) in
    record {
      contact = hop.contact;
      named = hop.named;
      sent = end.1 ∙ ap Some (sym hop.sent);
      fresh = false_from_ne_true (has hop.contact.to (r.source ∷ receivers p q)) (different_last (r.source ∷ receivers p q) hop.contact.to (ap (λ w. are_different (r.source ∷ w)) (sym seen) ∙ f.different));
      ready = ready.0;
      there_at = ready.1;
      arrived = arrived.0;
      arrives_at = arrived.1;
      allowed = not-true (has hop.contact.to r.avoided) (and_parts (passes hop.contact.to) true (and_parts (list_all passes (receivers p q)) (list_all passes (hop.contact.to ∷ [])) (sym (list_all-append passes (receivers p q) (hop.contact.to ∷ [])) ∙ ap (list_all passes) (sym seen) ∙ f.allowed)).1).0;
      room = let w = f.within in omega (arith, length-append q (n ∷ []));
    }

pub path_push : (p : ContactPlan) (r : RouteRequest) (q : List ℕ) (n : ℕ) → IsTrue (is_path p r q) → IsHop p r q n → IsTrue (is_path p r (q ++ n ∷ []))
path_push p r q n h hop =
    let f = path_facts p r q h in
    let seen = receivers_push p q n hop.contact hop.named in
    let passes : ℕ → Bool = λ m. not (has m r.avoided) in
    path_from_facts p r (q ++ n ∷ []) (record {
      chained = ap is_some (chain_end_push p r.source q n hop.contact hop.named hop.sent);
      different = ap (λ w. are_different (r.source ∷ w)) seen ∙ different_push (r.source ∷ receivers p q) hop.contact.to f.different hop.fresh;
      in_time = ap is_some (arrival_after_push p r r.at q n hop.contact hop.ready hop.arrived hop.named hop.there_at hop.arrives_at);
      allowed = ap (list_all (λ m. not (has m r.avoided))) seen ∙ list_all-append passes (receivers p q) (hop.contact.to ∷ []) ∙ and_from (list_all passes (receivers p q)) (list_all passes (hop.contact.to ∷ [])) f.allowed (and_from (passes hop.contact.to) true (not_from_false (has hop.contact.to r.avoided) hop.allowed) refl);
      within = let w = hop.room in omega (arith, length-append q (n ∷ []));
    })
