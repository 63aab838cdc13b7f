-- From the least way of a search to the law of finders, and the bounds on looks.
use Rattle.std.proofs.Common.{◌≡◌, inl, inr, ℕ, suc, ◌+◌, ◌≤◌, true, eqb, ltb, List, [], ◌∷◌, ◌++◌, length, map, Some, None, refl, ap, sym, subst, ◌∙◌, ⊎_elim, arith, length-append}
use Rattle.std.proofs.lemmas.List.{length-map}
use Rattle.std.specs.Prelude.{IsTrue}
use Rattle.std.specs.List.{AllByRecursion}
use Rattle.std.specs.Option.{option_map}
use Rattle.std.proofs.lemmas.Bool.{and_parts, or_cases, eqb-true, cases_order, ltb-true}
use Rattle.sabr_model.specs.declared.contact.Contact.{Contact}
use Rattle.sabr_model.specs.plan.Plan.{ContactPlan, IsPlan, contact_named, has, are_different, rises_above}
use Rattle.sabr_model.specs.routes.Arrival.{RouteRequest}
use Rattle.sabr_model.specs.routes.Route.{chain_end, receivers, is_route, until_of, entry_of}
use Rattle.sabr_model.specs.routes.Record.{RouteRecord, record_of}
use Rattle.sabr_model.proofs.ListLemmas.Members.{IsIn, in_map}
use Rattle.sabr_model.proofs.RouteLemmas.Listed.{has_from_in}
use Rattle.sabr_model.proofs.RouteLemmas.Routes.{route_facts}
use Rattle.sabr_model.proofs.ListLemmas.Begins.{first_hop, receivers-cons}
use Rattle.sabr_search.specs.layers.Picks.{IsNotAfter, IsBestWay}
use Rattle.sabr_search.specs.questions.Part.{IsBestOf}
use Rattle.sabr_search.specs.questions.FirstSteps.{Leads}
use Rattle.sabr_search.specs.questions.Task.{SearchTask, Takes, HasNodes, IsTask, IsBehind, latest_arrival}
use Rattle.sabr_search.proofs.WayLemmas.Least.{least_in_part, none_in_part}
use Rattle.sabr_search.proofs.LinkLemmas.PlanFacts.{contact_in, takes_early, few_different}
use Rattle.sabr_search.proofs.WayLemmas.Prefixes.{IsPrefix}
use Rattle.sabr_model.proofs.PlanLemmas.Tabled.{has_place}
use Rattle.sabr_model.proofs.RouteLemmas.Paths.{value_of}

-- termination time and entry node are those of the contacts
pub record IsSummarized (p : ContactPlan) (route : RouteRecord) : Type 0 where
  pub until_is : route.until ≡ until_of p route.contacts
  pub entry_is : route.entry ≡ entry_of p route.contacts

-- no way arrives late
pub way_early : (task : SearchTask) → IsTask task → (ns : List ℕ) (u t v e : ℕ) → t ≤ latest_arrival → Leads (Takes task) u t ns v e → e ≤ latest_arrival
way_early task is [] u t v e le way = omega (arith, way.1)
way_early task is (n ∷ ns) u t v e le way = way_early task is ns way.0 way.1 v e (takes_early task is n u t way.0 way.1 way.2) way.3

-- ---- how long a chain is

receivers_length : (p : ContactPlan) (a : ℕ) (s : List ℕ) (b : ℕ) → chain_end p a s ≡ Some b → length (receivers p s) ≡ length s
receivers_length p a [] b chain = refl
receivers_length p a (n ∷ s) b chain =
    let h = first_hop p a n s b chain in
    ap length (receivers-cons p n s h.contact h.named) ∙ ap suc (receivers_length p h.contact.to s b h.rest)

pub received : (p : ContactPlan) (a : ℕ) (s : List ℕ) (b x : ℕ) → chain_end p a s ≡ Some b → has x (receivers p s) ≡ true → (n : ℕ) × (c : Contact) × (contact_named p n ≡ Some c) × (c.to ≡ x)
received p a [] b x chain h = absurd cc
received p a (n ∷ s) b x chain h =
    let f = first_hop p a n s b chain in
    ⊎_elim (λ here. (n, f.contact, f.named, sym (eqb-true x f.contact.to here))) (λ later. received p f.contact.to s b x f.rest later)
    (or_cases (eqb x f.contact.to) (has x (receivers p s)) (sym (ap (has x) (receivers-cons p n s f.contact f.named)) ∙ h))

-- a chain that comes to no node twice has no more contacts than the plan
pub chain_few : (p : ContactPlan) (a : ℕ) (s : List ℕ) (b : ℕ) → chain_end p a s ≡ Some b → are_different (receivers p s) ≡ true → length s ≤ length p.contacts
chain_few p a s b chain differ =
    let few = few_different (receivers p s) (map (λ (c : Contact). c.to) p.contacts) differ
    (λ q h. (let m = received p a s b q chain h in
    has_from_in q (map (λ (c : Contact). c.to) p.contacts) (subst (λ x. IsIn x (map (λ (c : Contact). c.to) p.contacts)) m.3 (in_map (λ (c : Contact). c.to) m.1 p.contacts (contact_in p m.0 m.1 m.2))))) in
    omega (arith, few, receivers_length p a s b chain, length-map p.contacts (λ (c : Contact). c.to))

pub route_few : (p : ContactPlan) (r : RouteRequest) (s : List ℕ) → IsTrue (is_route p r s) → length s ≤ length p.contacts
route_few p r s route =
    let facts = route_facts p r s route in
    chain_few p r.source s r.destination facts.reaches (and_parts _ (are_different (receivers p s)) facts.different).1

pub prefix_few : (p : ContactPlan) (r : RouteRequest) (s : List ℕ) → IsPrefix p r s → length s ≤ length p.contacts
prefix_few p r s facts =
    let ends = value_of (chain_end p r.source s) facts.chained in
    chain_few p r.source s ends.0 ends.1 (and_parts _ (are_different (receivers p s)) facts.different).1

-- and fewer than the plan has nodes
pub route_nodes : (p : ContactPlan) (r : RouteRequest) (table : List ℕ) → HasNodes p table → (s : List ℕ) → IsTrue (is_route p r s) → length s + 1 ≤ length table
route_nodes p r table nodes [] route = absurd (omega (arith, (route_facts p r [] route).some_hop))
route_nodes p r table nodes (n ∷ s) route =
    let facts = route_facts p r (n ∷ s) route in
    let h = first_hop p r.source n s r.destination facts.reaches in
    let source = nodes.senders n h.contact h.named in
    let few = few_different (r.source ∷ receivers p (n ∷ s)) table facts.different
    (λ q there. ⊎_elim
    (λ here. has_place table source.0 q (source.1 ∙ ap Some (h.sent ∙ sym (eqb-true q r.source here))))
    (λ later. (let m = received p r.source (n ∷ s) r.destination q facts.reaches later in let place = nodes.receivers m.0 m.1 m.2 in has_place table place.0 q (place.1 ∙ ap Some m.3)))
    (or_cases (eqb q r.source) (has q (receivers p (n ∷ s))) there)) in
    omega (arith, few, receivers_length p r.source (n ∷ s) r.destination facts.reaches)

rising_few : (low top : ℕ) (cs : List Contact) → rises_above low (map (λ (c : Contact). c.number) cs) ≡ true → AllByRecursion (λ (c : Contact). c.number ≤ top) cs → low ≤ top → low + length cs ≤ top
rising_few low top [] rise all le = omega arith
rising_few low top (c ∷ cs) rise all le =
    let parts = and_parts (ltb low c.number) (rises_above c.number (map (λ (d : Contact). d.number) cs)) rise in
    omega (arith, ltb-true low c.number parts.0, rising_few c.number top cs parts.1 all.1 all.0)

-- a plan has at most 20000 contacts
pub contacts_few : (p : ContactPlan) → IsPlan p → length p.contacts ≤ 20000
contacts_few p good = omega (arith, rising_few 0 p.largest p.contacts good.numbers_rise good.numbers_given (omega arith), good.count)

-- ---- the law

key_order : (task : SearchTask) (hops ceiling : ℕ) (s : List ℕ) (d : ℕ) → IsBestWay task hops ceiling s d → (ns : List ℕ) (e : ℕ) → Leads (Takes task) task.start task.at ns task.goal e → d ≤ e → IsNotAfter (d ∷ length s ∷ s) (e ∷ length ns ∷ ns)
key_order task hops ceiling s d least ns e way le =
    elim (cases_order d e) [
      | inr (inl less) ↦ inl less
      | inr (inr more) ↦ absurd (omega arith)
      | inl same ↦ inr (
        same,
        elim (cases_order (length s) (length ns)) [
          | inr (inl fewer) ↦ inl fewer
          | inr (inr more) ↦ absurd (omega (arith, least.fewest ns e more way))
          | inl equal ↦ inr (equal, least.front ns e (sym equal) way (omega arith))
        ],
      )
    ]

-- the least way that no route of the part is sooner than is the least of the part
pub found_is_least : (task : SearchTask) → IsTask task → (prefix : List ℕ) → IsBehind task prefix → IsPrefix task.plan task.request prefix → (hops ceiling : ℕ) (s : List ℕ) (route : RouteRecord) → route.contacts ≡ prefix ++ s → IsBestWay task hops ceiling s route.delivery → IsSummarized task.plan route →
    length prefix + length s ≤ task.request.max_hops →
    ((ns : List ℕ) (e : ℕ) → IsTrue (is_route task.plan task.request (prefix ++ ns)) → Leads (Takes task) task.start task.at ns task.goal e → route.delivery ≤ e) →
    IsBestOf task.plan task.request prefix task.excluded (Some route)
found_is_least task is prefix behind facts hops ceiling s route contacts least summary short soonest =
    let p = task.plan in
    let r = task.request in
    let found = least_in_part task prefix behind is.plan facts s route.delivery least.some least.way least.fewest short
    (λ ns e listed way. key_order task hops ceiling s route.delivery least ns e way (soonest ns e listed way)) in
    let f : List ℕ → ℕ → RouteRecord = λ c d. record { contacts = c; delivery = d; until = until_of p c; entry = entry_of p c } in
    let g : ℕ → ℕ → RouteRecord = λ u e. record { contacts = route.contacts; delivery = route.delivery; until = u; entry = e } in
    let one : route ≡ f route.contacts route.delivery = ap (λ u. g u route.entry) summary.until_is ∙ ap (g (until_of p route.contacts)) summary.entry_is in
    ap Some (one ∙ ap (λ c. f c route.delivery) contacts ∙ ap (f (prefix ++ s)) (sym found.1)) ∙ sym (ap (option_map (record_of p r)) found.0)

-- if the part has no way, it has no route
pub none_is_least : (task : SearchTask) → IsTask task → (prefix : List ℕ) → IsBehind task prefix →
    ((ns : List ℕ) (e : ℕ) → IsTrue (is_route task.plan task.request (prefix ++ ns)) → Leads (Takes task) task.start task.at ns task.goal e → ⊥) → IsBestOf task.plan task.request prefix task.excluded None
none_is_least task is prefix behind none = sym (ap (option_map (record_of task.plan task.request)) (none_in_part task prefix behind is.plan none))

-- what a route of the part has after the prefix
pub behind_sizes : (task : SearchTask) → IsTask task → (prefix ns : List ℕ) → IsTrue (is_route task.plan task.request (prefix ++ ns)) → (length prefix + length ns ≤ task.request.max_hops) × (length prefix + length ns + 1 ≤ length task.table) × (length prefix + length ns ≤ length task.plan.contacts)
behind_sizes task is prefix ns route =
    let facts = route_facts task.plan task.request (prefix ++ ns) route in
    let size : length (prefix ++ ns) ≡ length prefix + length ns = length-append prefix ns in
    (omega (arith, facts.within), omega (arith, route_nodes task.plan task.request task.table is.nodes (prefix ++ ns) route), omega (arith, route_few task.plan task.request (prefix ++ ns) route))
