-- A list without a fault is a route, and the reverse.
use Rattle.sabr_model.proofs.ListLemmas.Names.{◌≡◌, ℕ, ◌+◌, max, Bool, true, false, cond, not, eqb, leb, List, [], ◌∷◌, ◌++◌, length, refl, sym, ap, subst, ◌∙◌, arith, append_assoc, min, Option, Some, None, is_none, IsTrue, ◌==◌, option_map_or, option_and_then, eqb-true, eq-eqb, leb-true, le-leb, false_from_ne_true, not-false, Contact, HopFault, NoSuchContact, NotChained, NodeAgain, NoLight, TooLate, WrongEnd, AvoidedNode, TooManyHops, ContactPlan, contact_named, has, light_of, RouteRequest, arrival, arrival_after, chain_end, receivers, ends_at, is_path, is_route, contacts_of, until_of, entry_of, contact_fault, fault_at, fault_or, first_fault, fault_of, FaultsTellRoutes, append-nil, fold, cons_option, filter_map-append, summary_of, ne_eqb}
use Rattle.sabr_model.proofs.ListLemmas.Answered.{unfailed}
use Rattle.sabr_model.proofs.RouteLemmas.Waiting.{told_by}
use Rattle.sabr_model.proofs.RouteLemmas.Routes.{route_facts, empty_route, end_named}
use Rattle.sabr_model.proofs.RouteLemmas.Paths.{IsHop, value_of, path_facts, hop_facts, path_push, beginning_is_path, route_is_path, route_from_path}
use Rattle.sabr_model.proofs.RouteLemmas.Prefixes.{empty_is_path}
use Rattle.std.proofs.lemmas.List.Sums.{fold-append}

neither : (o o' : Option HopFault) → fault_or o o' ≡ None → (o ≡ None) × (o' ≡ None)
neither None o' e = (refl, e)
neither (Some f) o' e = absurd cc

six_to_none : (a b c d e f : Bool) (x : ℕ) → a ≡ false → b ≡ false → c ≡ false → d ≡ false → e ≡ false → f ≡ false
    → cond a (Some (NotChained x)) (cond b (Some (NodeAgain x)) (cond c (Some (NoLight x)) (cond d (Some (TooLate x)) (cond e (Some (AvoidedNode x)) (cond f (Some (TooManyHops x)) None))))) ≡ None
six_to_none a b c d e f x ha hb hc hd he hf = rw (ha, hb, hc, hd, he, hf) refl

-- an arrival shows that there is light
lit : (p : ContactPlan) (r : RouteRequest) (t : ℕ) (c : Contact) (x : ℕ) → arrival p r t c ≡ Some x → is_none (light_of p c) ≡ false
lit p r t c x e = ap is_none (told_by (max t c.start) c.end r.margin x (light_of p c) e).1

-- a hop that continues a path has no fault
pub hop_is_good : (p : ContactPlan) (r : RouteRequest) (q : List ℕ) (n : ℕ) → IsHop p r q n → fault_at p r q n ≡ None
hop_is_good p r q n hop =
    let c = hop.contact in
    let place = length q + 1 in
    ap (λ o. option_map_or (contact_fault p r q) o (Some (NoSuchContact place))) hop.named
    ∙ six_to_none
    (not (option_map_or (λ a. eqb a c.from) (chain_end p r.source q) false))
    (has c.to (r.source ∷ receivers p q))
    (is_none (light_of p c))
    (is_none (option_and_then (λ t. arrival p r t c) (arrival_after p r r.at q)))
    (has c.to r.avoided)
    (not (leb place r.max_hops))
    place
    (ap (λ o. not (option_map_or (λ a. eqb a c.from) o false)) hop.sent ∙ ap not (eq-eqb c.from c.from refl))
    hop.fresh
    (lit p r hop.ready c hop.arrived hop.arrives_at)
    (ap (λ o. is_none (option_and_then (λ t. arrival p r t c) o)) hop.there_at ∙ ap is_none hop.arrives_at)
    hop.allowed
    (ap not (le-leb place r.max_hops (let w = hop.room in omega arith)))

-- the end of a chain that passes the test
tested : (o : Option ℕ) (b : ℕ) → not (option_map_or (λ a. eqb a b) o false) ≡ false → o ≡ Some b
tested None b h = absurd cc
tested (Some a) b h = ap Some (eqb-true a b (not-false (eqb a b) h))

not_none : {X : Type 0} (o : Option X) → is_none o ≡ false → (x : X) × (o ≡ Some x)
not_none None h = absurd cc
not_none (Some x) h = (x, refl)

-- and a number without a fault continues the path
pub good_is_hop : (p : ContactPlan) (r : RouteRequest) (q : List ℕ) (n : ℕ) → IsTrue (is_path p r q) → fault_at p r q n ≡ None → IsHop p r q n
good_is_hop p r q n path e =
    elim (contact_named p n) as (λ o. contact_named p n ≡ o → option_map_or (contact_fault p r q) o (Some (NoSuchContact (length q + 1))) ≡ None → IsHop p r q n) [
      | None ↦ λ named h. absurd cc
      | Some c ↦ λ named h.
          let place = length q + 1 in
          let sent = unfailed (not (option_map_or (λ a. eqb a c.from) (chain_end p r.source q) false)) (NotChained place) _ h in
          let new = unfailed (has c.to (r.source ∷ receivers p q)) (NodeAgain place) _ sent.1 in
          let light = unfailed (is_none (light_of p c)) (NoLight place) _ new.1 in
          let late = unfailed (is_none (option_and_then (λ t. arrival p r t c) (arrival_after p r r.at q))) (TooLate place) _ light.1 in
          let allowed = unfailed (has c.to r.avoided) (AvoidedNode place) _ late.1 in
          let few = unfailed (not (leb place r.max_hops)) (TooManyHops place) None allowed.1 in
          let ready = value_of (arrival_after p r r.at q) (path_facts p r q path).in_time in
          let arrived = not_none (arrival p r ready.0 c) (ap (λ o. is_none (option_and_then (λ t. arrival p r t c) o)) (sym ready.1) ∙ late.0) in
          record {
            contact = c;
            named = named;
            sent = tested (chain_end p r.source q) c.from sent.0;
            fresh = new.0;
            ready = ready.0;
            there_at = ready.1;
            arrived = arrived.0;
            arrives_at = arrived.1;
            allowed = allowed.0;
            room = let w = leb-true place r.max_hops (not-false (leb place r.max_hops) few.0) in omega arith;
          }
    ] refl e

-- ---- the whole list

-- numbers without a fault after a path make a path, and the reverse
pub good_is_path : (p : ContactPlan) (r : RouteRequest) (q s : List ℕ) → IsTrue (is_path p r q) → first_fault p r q s ≡ None → IsTrue (is_path p r (q ++ s))
good_is_path p r q [] path e = subst (λ w. IsTrue (is_path p r w)) (sym (append-nil q)) path
good_is_path p r q (n ∷ s) path e =
    let both = neither (fault_at p r q n) (first_fault p r (q ++ n ∷ []) s) e in
    subst (λ w. IsTrue (is_path p r w)) (append_assoc q (n ∷ []) s) (good_is_path p r (q ++ n ∷ []) s (path_push p r q n path (good_is_hop p r q n path both.0)) both.1)

pub path_is_good : (p : ContactPlan) (r : RouteRequest) (q s : List ℕ) → IsTrue (is_path p r (q ++ s)) → first_fault p r q s ≡ None
path_is_good p r q [] path = refl
path_is_good p r q (n ∷ s) path =
    let whole : IsTrue (is_path p r ((q ++ n ∷ []) ++ s)) = subst (λ w. IsTrue (is_path p r w)) (sym (append_assoc q (n ∷ []) s)) path in
    ap (λ o. fault_or o (first_fault p r (q ++ n ∷ []) s)) (hop_is_good p r q n (hop_facts p r q n (beginning_is_path p r (q ++ n ∷ []) s whole)))
    ∙ path_is_good p r (q ++ n ∷ []) s whole

wrong_end_unless : (b : Bool) → cond b None (Some WrongEnd) ≡ None → b ≡ true
wrong_end_unless true e = refl
wrong_end_unless false e = absurd cc

pub no_fault_is_route : (p : ContactPlan) (r : RouteRequest) (s : List ℕ) → fault_of p r s ≡ None → IsTrue (is_route p r s)
no_fault_is_route p r [] e = absurd cc
no_fault_is_route p r (n ∷ s) e =
    let both = neither (first_fault p r [] (n ∷ s)) (cond (ends_at p r (n ∷ s)) None (Some WrongEnd)) e in
    route_from_path p r (n ∷ s) (good_is_path p r [] (n ∷ s) (empty_is_path p r) both.0) (omega arith)
    (end_named (chain_end p r.source (n ∷ s)) r.destination (wrong_end_unless (ends_at p r (n ∷ s)) both.1))

pub route_has_no_fault : (p : ContactPlan) (r : RouteRequest) (s : List ℕ) → IsTrue (is_route p r s) → fault_of p r s ≡ None
route_has_no_fault p r [] h = absurd (empty_route p r h)
route_has_no_fault p r (n ∷ s) h =
    let f = route_facts p r (n ∷ s) h in
    ap (λ o. fault_or o (cond (ends_at p r (n ∷ s)) None (Some WrongEnd))) (path_is_good p r [] (n ∷ s) (route_is_path p r (n ∷ s) h))
    ∙ ap (λ o. cond (option_map_or (λ b. eqb b r.destination) o false) None (Some WrongEnd)) f.reaches
    ∙ ap (λ b. cond b None (Some WrongEnd)) (eq-eqb r.destination r.destination refl)

-- a list with a fault is no route
pub fault_is_no_route : (p : ContactPlan) (r : RouteRequest) (s : List ℕ) (f : HopFault) → fault_of p r s ≡ Some f → is_route p r s ≡ false
fault_is_no_route p r s f e = false_from_ne_true (is_route p r s) (λ h. let none = route_has_no_fault p r s h in let no : ⊥ = cc in no)

pub faults_tell_routes : FaultsTellRoutes
faults_tell_routes p r s = (no_fault_is_route p r s, route_has_no_fault p r s)

-- What the record of a list holds after one more number.

module _ (p : ContactPlan) (n : ℕ) where
  until_more : (s : List ℕ) (o : Option Contact) → contact_named p n ≡ o → until_of p (s ++ n ∷ []) ≡ fold (λ m (d : Contact). min m d.end) (until_of p s) (cons_option o [])
  until_more s o named =
      ap (fold (λ m (d : Contact). min m d.end) 253370764799) (filter_map-append (contact_named p) s (n ∷ []))
      ∙ fold-append (λ m (d : Contact). min m d.end) 253370764799 (contacts_of p s) (contacts_of p (n ∷ []))
      ∙ ap (λ o. fold (λ m (d : Contact). min m d.end) (until_of p s) (cons_option o [])) named

  entry_more : (s : List ℕ) (o : Option Contact) → contact_named p n ≡ o → entry_of p (s ++ n ∷ []) ≡ cond (length s == 0) (option_map_or (λ (c : Contact). c.to) o 0) (entry_of p s)
  entry_more [] o named = ap (λ o. option_map_or (λ (c : Contact). c.to) o 0) named
  entry_more (x ∷ s) o named = ap (λ b. cond b (option_map_or (λ (c : Contact). c.to) o 0) (entry_of p (x ∷ s))) (sym (ne_eqb (length (x ∷ s)) 0 (λ e. absurd (omega (arith, e)))))

  -- the number has no contact
  pub told_none : (s : List ℕ) → contact_named p n ≡ None → summary_of p s ≡ summary_of p (s ++ n ∷ [])
  told_none s named =
      let until = until_more s None named in
      let entry : entry_of p (s ++ n ∷ []) ≡ entry_of p s = none s in
      λ i. record { until = sym until i; entry = sym entry i }
    where
      none : (s : List ℕ) → entry_of p (s ++ n ∷ []) ≡ entry_of p s
      none [] = ap (λ o. option_map_or (λ (c : Contact). c.to) o 0) named
      none (x ∷ s) = refl

  -- the number has a contact
  pub told_some : (s : List ℕ) (c : Contact) → contact_named p n ≡ Some c → record { until = min (until_of p s) c.end; entry = cond (length s == 0) c.to (entry_of p s) } ≡ summary_of p (s ++ n ∷ [])
  told_some s c named = λ i. record { until = sym (until_more s (Some c) named) i; entry = sym (entry_more s (Some c) named) i }
