-- Forbidding nodes, and going along a prefix.
use Rattle.std.proofs.Common.{◌≡◌, ◌≢◌, inl, inr, ℕ, zero, suc, ◌+◌, ◌<◌, ◌≤◌, Bool, true, false, not, ◌||◌, eqb, List, [], ◌∷◌, ◌++◌, length, take, drop, Some, None, slice_get, slice_index, slice_index_or, slice_set, refl, ap, sym, subst, ◌∙◌, arith, length-append}
use Rattle.std.specs.Prelude.{IsTrue}
use Rattle.std.specs.Option.{option_and_then}
use Rattle.std.proofs.lemmas.Bool.{or_right, or_from, eq-eqb, ne_eqb, both_ways, cases_eq, and_parts, not-true}
use Rattle.std.proofs.lemmas.List.{take_more, take-take, take-append-drop, get_or-set_other, get_or-set_same, length-set}
use Rattle.std.proofs.lemmas.Option.{slice_get_within, slice_get-get_or, get_or_from_slice_get}
use Rattle.sabr_model.specs.declared.contact.Contact.{Contact}
use Rattle.sabr_model.specs.declared.hop.Hop.{Hop}
use Rattle.sabr_model.specs.plan.Plan.{ContactPlan, TabledPlan, IsPlan, contact_named, has}
use Rattle.sabr_model.specs.plan.Tabled.{IsHopNamed}
use Rattle.sabr_model.specs.routes.Arrival.{RouteRequest, arrival, arrival_after}
use Rattle.sabr_model.specs.routes.Asking.{IsRequest}
use Rattle.sabr_model.specs.routes.Telling.{summary_of}
use Rattle.sabr_model.specs.routes.Route.{chain_end, receivers, is_path, is_prefix, is_route}
use Rattle.sabr_model.proofs.RouteLemmas.Routes.{route_facts}
use Rattle.sabr_model.proofs.ListLemmas.Begins.{first_hop, end_is_received}
use Rattle.sabr_model.specs.routes.Hops.{hop_arrival}
use Rattle.sabr_search.specs.declared.prefix_path.Stop.{Stop}
use Rattle.sabr_search.specs.questions.Task.{SearchTask, HasNodes, IsTask, IsBehind, is_forbidden, task_of, most_nodes, latest_arrival}
use Rattle.sabr_search.specs.questions.PrefixPath.{AreForbidden, IsStop, AreStops}
use Rattle.sabr_search.proofs.LinkLemmas.PlanFacts.{arrival_parts, arrives_later, hop_arrival_is, contact_window, light_small, cost_small}
use Rattle.sabr_search.proofs.WayLemmas.RoutesAndWays.{start_is_forbidden}
use Rattle.sabr_search.proofs.WayLemmas.Chains.{has_append, first_arrival}
use Rattle.sabr_search.proofs.WayLemmas.Prefixes.{IsPrefix}
use Rattle.sabr_model.proofs.PlanLemmas.Tabled.{has_place}
use Rattle.sabr_model.proofs.RouteLemmas.Paths.{IsHop, hop_facts, beginning_is_path, receivers_push, chain_end_push, arrival_after_push}
use Rattle.sabr_model.proofs.RouteLemmas.Prefixes.{prefix_is_path}
use Rattle.sabr_model.proofs.ListLemmas.Members.{push_cases}
use Rattle.sabr_search.proofs.AnswerLemmas.Law.{received}

pub or_false : (b : Bool) → (b || false) ≡ b
or_false true = refl
or_false false = refl

-- the flag of one node is set
forbidden_set : (p : ContactPlan) (table : List ℕ) → HasNodes p table → (forbidden : List Bool) (test test' : ℕ → Bool) (k node : ℕ) (flag : Bool) → AreForbidden table forbidden test → slice_get table k ≡ Some node →
    test' node ≡ flag → ((x : ℕ) → x ≢ node → test' x ≡ test x) → AreForbidden table (slice_set forbidden k flag) test'
forbidden_set p table nodes forbidden test test' k node flag so_far at own others = record {
  many = length-set forbidden k flag ∙ so_far.many;
  flag = λ j x here. elim (cases_eq j k) [
    | inl same ↦
        (let node_is : x ≡ node = (let q : Some x ≡ Some node = sym here ∙ ap (slice_get table) same ∙ at in cc (q)) in
        ap (λ i. slice_index_or (slice_set forbidden k flag) i false) same ∙ get_or-set_same forbidden k flag false (omega (arith, so_far.many, slice_get_within table k node at)) ∙ sym (ap test' node_is ∙ own))
    | inr other ↦ get_or-set_other forbidden k j flag false other ∙ so_far.flag j x here ∙ sym (others x (λ same. other (nodes.apart j k node (here ∙ ap Some same) at)))
  ];
}

-- a node more is forbidden
pub forbidden_more : (p : ContactPlan) (table : List ℕ) → HasNodes p table → (forbidden : List Bool) (test test' : ℕ → Bool) (k node : ℕ) → AreForbidden table forbidden test → slice_get table k ≡ Some node → ((x : ℕ) → test' x ≡ (test x || eqb x node)) → AreForbidden table (slice_set forbidden k true) test'
forbidden_more p table nodes forbidden test test' k node so_far at more = forbidden_set p table nodes forbidden test test' k node true so_far at (more node ∙ or_right (test node) (eqb node node) (eq-eqb node node refl))
    (λ x differ. more x ∙ ap (λ b. test x || b) (ne_eqb x node differ) ∙ or_false (test x))

-- a node less is forbidden
pub forbidden_less : (p : ContactPlan) (table : List ℕ) → HasNodes p table → (forbidden : List Bool) (test test' : ℕ → Bool) (k node : ℕ) → AreForbidden table forbidden test' → slice_get table k ≡ Some node → ((x : ℕ) → test' x ≡ (test x || eqb x node)) → test node ≡ false → AreForbidden table (slice_set forbidden k false) test
forbidden_less p table nodes forbidden test test' k node so_far at more off = forbidden_set p table nodes forbidden test' test k node false so_far at off (λ x differ. sym (more x ∙ ap (λ b. test x || b) (ne_eqb x node differ) ∙ or_false (test x)))

-- a node that isn't in the table needs no flag
pub forbidden_same : (table : List ℕ) (forbidden : List Bool) (test test' : ℕ → Bool) → AreForbidden table forbidden test → ((x : ℕ) → has x table ≡ true → test' x ≡ test x) → AreForbidden table forbidden test'
forbidden_same table forbidden test test' so_far same = record { many = so_far.many; flag = λ k x at. so_far.flag k x at ∙ sym (same x (has_place table k x at)) }

or_nothing : (a b : Bool) → (a || (b || false)) ≡ (a || b)
or_nothing true b = refl
or_nothing false true = refl
or_nothing false false = refl

-- the numbers up to one, and that one
one_more : (prefix : List ℕ) (i n : ℕ) → slice_get prefix i ≡ Some n → take (i + 1) prefix ≡ take i prefix ++ n ∷ []
one_more prefix i n at = take_more prefix i n (slice_get_within prefix i n at) ∙ ap (λ y. take i prefix ++ y ∷ []) (get_or_from_slice_get prefix i n n at)

-- one node more of a list
pub has_more : (xs : List ℕ) (i node x : ℕ) → slice_get xs i ≡ Some node → has x (take (i + 1) xs) ≡ (has x (take i xs) || eqb x node)
has_more xs i node x at =
    ap (has x) (one_more xs i node at) ∙ has_append x (take i xs) (node ∷ []) ∙ or_nothing (has x (take i xs)) (eqb x node)

or_middle : (a b c d : Bool) → ((a || (b || (c || false))) || d) ≡ (((a || b) || d) || c)
or_middle true b c d = refl
or_middle false true c d = refl
or_middle false false true true = refl
or_middle false false true false = refl
or_middle false false false true = refl
or_middle false false false false = refl

-- the receiver of one contact more is closed
pub closed_more : (p : ContactPlan) (r : RouteRequest) (prefix : List ℕ) (i n : ℕ) (c : Contact) → slice_get prefix i ≡ Some n → contact_named p n ≡ Some c → (x : ℕ) → is_forbidden p r (take (i + 1) prefix) x ≡ (is_forbidden p r (take i prefix) x || eqb x c.to)
closed_more p r prefix i n c at named x =
    let all : receivers p (take (i + 1) prefix) ≡ receivers p (take i prefix) ++ c.to ∷ [] =
    ap (receivers p) (one_more prefix i n at) ∙ receivers_push p (take i prefix) n c named in
    ap (λ xs. (eqb x r.source || has x xs) || has x r.avoided) all
    ∙ ap (λ b. (eqb x r.source || b) || has x r.avoided) (has_append x (receivers p (take i prefix)) (c.to ∷ []))
    ∙ or_middle (eqb x r.source) (has x (receivers p (take i prefix))) (eqb x c.to) (has x r.avoided)

pub closed_none : (p : ContactPlan) (r : RouteRequest) (x : ℕ) → is_forbidden p r [] x ≡ (has x r.avoided || eqb x r.source)
closed_none p r x = swap (eqb x r.source) (has x r.avoided)
  where
    swap : (a b : Bool) → ((a || false) || b) ≡ (b || a)
    swap true true = refl
    swap true false = refl
    swap false true = refl
    swap false false = refl

-- ---- the stops of a prefix

-- each number of a prefix goes on from those before it
pub hop_at : (p : ContactPlan) (r : RouteRequest) (prefix : List ℕ) → IsTrue (is_prefix p r prefix) → (i n : ℕ) → slice_get prefix i ≡ Some n → IsHop p r (take i prefix) n
hop_at p r prefix fits i n at =
    let whole : prefix ≡ (take i prefix ++ n ∷ []) ++ drop (i + 1) prefix = sym (take-append-drop (i + 1) prefix) ∙ ap (λ q. q ++ drop (i + 1) prefix) (one_more prefix i n at) in
    hop_facts p r (take i prefix) n (beginning_is_path p r (take i prefix ++ n ∷ []) (drop (i + 1) prefix) (subst (λ s. IsTrue (is_path p r s)) whole (prefix_is_path p r prefix fits)))

-- its receiver is open before it
pub open_before : (p : ContactPlan) (r : RouteRequest) (q : List ℕ) (n : ℕ) → (hop : IsHop p r q n) → is_forbidden p r q hop.contact.to ≡ false
open_before p r q n hop = or_from (has hop.contact.to (r.source ∷ receivers p q)) (has hop.contact.to r.avoided) hop.fresh hop.allowed

-- the stop after it
pub stop_after : (p : TabledPlan) (r : RouteRequest) (prefix : List ℕ) (i n : ℕ) → slice_get prefix i ≡ Some n → (hop : IsHop p.plan r (take i prefix) n) → (stop next : Stop) → IsStop p r (take i prefix) stop
    → slice_get p.table next.node ≡ Some hop.contact.to → arrival p.plan r stop.at hop.contact ≡ Some next.at → next.summary ≡ summary_of p.plan (take i prefix ++ n ∷ []) → IsStop p r (take (i + 1) prefix) next
stop_after p r prefix i n at hop stop next here to arrives summary = record {
  last_node = hop.contact.to;
  chained = ap (chain_end p.plan r.source) (one_more prefix i n at) ∙ chain_end_push p.plan r.source (take i prefix) n hop.contact hop.named hop.sent;
  stands = to;
  arrives = ap (arrival_after p.plan r r.at) (one_more prefix i n at) ∙ arrival_after_push p.plan r r.at (take i prefix) n hop.contact stop.at next.at hop.named here.arrives arrives;
  tells = summary ∙ sym (ap (summary_of p.plan) (one_more prefix i n at));
}

-- the arrival over the number is that over its hop
pub arrival_at : (p : TabledPlan) (r : RouteRequest) (q : List ℕ) (n : ℕ) → (step : IsHop p.plan r q n) → (stop : Stop) → IsStop p r q stop → (h : Hop) → (hop : IsHopNamed p n h)
    → (hop.contact ≡ step.contact) × (arrival p.plan r stop.at step.contact ≡ Some step.arrived) × (hop_arrival r.margin stop.at h ≡ Some step.arrived)
arrival_at p r q n step stop here h hop =
    let same : hop.contact ≡ step.contact = (let q : Some hop.contact ≡ Some step.contact = sym hop.named ∙ step.named in cc (q)) in
    let ready : step.ready ≡ stop.at = (let q : Some step.ready ≡ Some stop.at = sym step.there_at ∙ here.arrives in cc (q)) in
    let arrives : arrival p.plan r stop.at step.contact ≡ Some step.arrived = ap (λ t. arrival p.plan r t step.contact) (sym ready) ∙ step.arrives_at in
    (same, arrives, sym (hop_arrival_is p r stop.at hop.contact h hop.is) ∙ ap (arrival p.plan r stop.at) same ∙ arrives)

-- the node of the stop after a number is its receiver
pub stop_node : (p : TabledPlan) (r : RouteRequest) (prefix : List ℕ) (i n : ℕ) → slice_get prefix i ≡ Some n → (hop : IsHop p.plan r (take i prefix) n) → (stop : Stop) → IsStop p r (take (i + 1) prefix) stop → slice_get p.table stop.node ≡ Some hop.contact.to
stop_node p r prefix i n at hop stop here =
    let ends : chain_end p.plan r.source (take (i + 1) prefix) ≡ Some hop.contact.to = ap (chain_end p.plan r.source) (one_more prefix i n at) ∙ chain_end_push p.plan r.source (take i prefix) n hop.contact hop.named hop.sent in
    here.stands ∙ sym here.chained ∙ ends

-- the last of some numbers is taken back, and its node is opened
pub taken_back : (p : TabledPlan) (r : RouteRequest) → HasNodes p.plan p.table → (numbers : List ℕ) → IsTrue (is_prefix p.plan r numbers) → (forbidden : List Bool) (i : ℕ) (stop : Stop) → i < length numbers
    → IsStop p r (take (i + 1) numbers) stop → AreForbidden p.table forbidden (is_forbidden p.plan r (take (i + 1) numbers)) → AreForbidden p.table (slice_set forbidden stop.node false) (is_forbidden p.plan r (take i numbers))
taken_back p r nodes numbers fits forbidden i stop within here are =
    let at = slice_get-get_or numbers i 0 within in
    let n = slice_index numbers i in
    let hop = hop_at p.plan r numbers fits i n at in
    forbidden_less p.plan p.table nodes forbidden (is_forbidden p.plan r (take i numbers)) (is_forbidden p.plan r (take (i + 1) numbers)) stop.node hop.contact.to are (stop_node p r numbers i n at hop stop here) (closed_more p.plan r numbers i n hop.contact at hop.named) (open_before p.plan r (take i numbers) n hop)

-- a path that is opened has one stop, the source
pub first_stop : (p : TabledPlan) (r : RouteRequest) (stop : Stop) → slice_get p.table stop.node ≡ Some r.source → stop.at ≡ r.at → stop.summary ≡ summary_of p.plan [] → AreStops p r [] (stop ∷ [])
first_stop p r stop at time summary zero one here = let same : stop ≡ one = cc (here) in subst (IsStop p r []) same (record { last_node = r.source; chained = refl; stands = at; arrives = ap Some (sym time); tells = summary })
first_stop p r stop at time summary (suc i) one here = absurd (omega (arith, slice_get_within (stop ∷ []) (suc i) one here))

-- one stop more
pub stops_more : (p : TabledPlan) (r : RouteRequest) (prefix : List ℕ) (i : ℕ) (stops : List Stop) (next : Stop) → length stops ≡ i + 1 → AreStops p r prefix stops → IsStop p r (take (i + 1) prefix) next → (length (stops ++ next ∷ []) ≡ i + 1 + 1) × AreStops p r prefix (stops ++ next ∷ [])
stops_more p r prefix i stops next many are here = (
  omega (arith, length-append stops (next ∷ []), many),
  λ j stop at. elim (push_cases stops next j stop at) [
    | inl old ↦ are j stop old
    | inr new ↦ (let j_is : i + 1 ≡ j = sym many ∙ sym new.0 in subst (λ k. IsStop p r (take k prefix) stop) j_is (subst (IsStop p r (take (i + 1) prefix)) new.1 here))
  ],
)

-- stops of one list of numbers are those of another that begins with as many
pub same_stops : (p : TabledPlan) (r : RouteRequest) (numbers prefix : List ℕ) (front : ℕ) (stops : List Stop) → take front numbers ≡ take front prefix → length stops ≡ front + 1 → AreStops p r numbers stops → AreStops p r prefix stops
same_stops p r numbers prefix front stops same many are i stop at =
    let le : i ≤ front = omega (arith, many, slice_get_within stops i stop at) in
    let both : take i numbers ≡ take i prefix = sym (take-take i front numbers le) ∙ ap (take i) same ∙ take-take i front prefix le in
    subst (λ s. IsStop p r s stop) both (are i stop at)

-- ---- where source or destination isn't in the table there is no route

pub no_source : (p : ContactPlan) (r : RouteRequest) (table : List ℕ) → HasNodes p table → has r.source table ≡ false → (s : List ℕ) → IsTrue (is_route p r s) → ⊥
no_source p r table nodes out [] route = omega (arith, (route_facts p r [] route).some_hop)
no_source p r table nodes out (n ∷ s) route =
    let h = first_hop p r.source n s r.destination (route_facts p r (n ∷ s) route).reaches in
    let place = nodes.senders n h.contact h.named in
    both_ways (has r.source table) out (has_place table place.0 r.source (place.1 ∙ ap Some h.sent))

pub no_destination : (p : ContactPlan) (r : RouteRequest) (table : List ℕ) → HasNodes p table → has r.destination table ≡ false → (s : List ℕ) → IsTrue (is_route p r s) → ⊥
no_destination p r table nodes out [] route = omega (arith, (route_facts p r [] route).some_hop)
no_destination p r table nodes out (n ∷ s) route =
    let facts = route_facts p r (n ∷ s) route in
    let m = received p r.source (n ∷ s) r.destination r.destination facts.reaches (end_is_received p r.source n s r.destination facts.reaches) in
    let place = nodes.receivers m.0 m.1 m.2 in
    both_ways (has r.destination table) out (has_place table place.0 r.destination (place.1 ∙ ap Some m.3))

-- ---- the task after a prefix

early_after : (p : ContactPlan) (r : RouteRequest) → IsPlan p → r.margin ≤ 1000000 → (a : ℕ) (s : List ℕ) (b t e : ℕ) → chain_end p a s ≡ Some b → t ≤ latest_arrival → arrival_after p r t s ≡ Some e → e ≤ latest_arrival
early_after p r good margin a [] b t e chain le after = let same : t ≡ e = cc (after) in omega arith
early_after p r good margin a (n ∷ s) b t e chain le after =
    let h = first_hop p a n s b chain in
    let next = first_arrival p r t n s e h.contact h.named after in
    let parts = arrival_parts p r t h.contact next.0 next.1 in
    let window = contact_window p good n h.contact h.named in
    early_after p r good margin h.contact.to s b next.0 e h.rest (omega (arith, parts.sum, parts.before_end, window.1, cost_small r.margin parts.light (light_small p good h.contact parts.light parts.in_force) margin)) next.2

-- what is taken along arrives no earlier than it begins
pub after_later : (p : ContactPlan) (r : RouteRequest) (s : List ℕ) (t e : ℕ) → arrival_after p r t s ≡ Some e → t ≤ e
after_later p r [] t e after = let same : t ≡ e = cc (after) in omega arith
after_later p r (n ∷ s) t e after =
    (elim (contact_named p n) as (λ o. contact_named p n ≡ o → t ≤ e) [
      | None ↦ λ none. absurd (let no_way : None ≡ Some e = sym (ap (option_and_then (λ c. option_and_then (λ b. arrival_after p r b s) (arrival p r t c))) none) ∙ after in cc)
      | Some c ↦ λ named.
          let next = first_arrival p r t n s e c named after in
          omega (arith, arrives_later p r t c next.0 next.1, after_later p r s next.0 e next.2)
    ]) refl

pub behind_passed : (p : TabledPlan) (r : RouteRequest) (prefix : List ℕ) (forbidden : List Bool) (stop : Stop) → IsStop p r prefix stop → AreForbidden p.table forbidden (is_forbidden p.plan r prefix) → HasNodes p.plan p.table → (goal : ℕ) → slice_get p.table goal ≡ Some r.destination → (excluded : List ℕ) →
    IsBehind (task_of p r forbidden excluded stop.node stop.at goal) prefix
behind_passed p r prefix forbidden stop here forbids nodes goal goal_is excluded = record {
  nodes = nodes;
  last_node = here.last_node;
  chained = here.chained;
  stands = here.stands;
  arrives = here.arrives;
  goal_is = goal_is;
  forbids = forbids.flag;
}

pub task_passed : (p : TabledPlan) (r : RouteRequest) (prefix : List ℕ) (forbidden : List Bool) (stop : Stop) → IsStop p r prefix stop → AreForbidden p.table forbidden (is_forbidden p.plan r prefix) → HasNodes p.plan p.table → (goal : ℕ) → slice_get p.table goal ≡ Some r.destination → (excluded : List ℕ) →
    IsPlan p.plan → length p.table ≤ most_nodes → IsRequest r → IsPrefix p.plan r prefix → IsTask (task_of p r forbidden excluded stop.node stop.at goal)
task_passed p r prefix forbidden stop here forbids nodes goal goal_is excluded good few asked facts =
    let task : SearchTask = task_of p r forbidden excluded stop.node stop.at goal in
    let behind = behind_passed p r prefix forbidden stop here forbids nodes goal goal_is excluded in
    let avoids = and_parts _ (not (has r.destination r.avoided)) asked.avoids in
    let away : eqb r.destination r.source ≡ false = ne_eqb r.destination r.source (λ same. asked.apart (sym same)) in
    let closed : is_forbidden p.plan r prefix r.destination ≡ false =
    or_from (has r.destination (r.source ∷ receivers p.plan prefix)) (has r.destination r.avoided)
    (or_from (eqb r.destination r.source) (has r.destination (receivers p.plan prefix)) away facts.goes_on) (not-true (has r.destination r.avoided) avoids.1) in
    record {
      plan = good;
      nodes = nodes;
      margin = asked.margin;
      as_many = forbids.many;
      few = few;
      start_in = slice_get_within p.table stop.node here.last_node here.stands;
      goal_in = slice_get_within p.table goal r.destination goal_is;
      start_forbidden = start_is_forbidden task prefix behind;
      goal_open = forbids.flag goal r.destination goal_is ∙ closed;
      time = early_after p.plan r good asked.margin r.source prefix here.last_node r.at stop.at here.chained (omega (arith, asked.time)) here.arrives;
    }

-- a node that isn't in the table is no other
pub has_other : (xs : List ℕ) (i node x : ℕ) → slice_get xs i ≡ Some node → (table : List ℕ) → has node table ≡ false → has x table ≡ true → has x (take (i + 1) xs) ≡ has x (take i xs)
has_other xs i node x at table out inside =
    let differ : eqb x node ≡ false = ne_eqb x node (λ same. both_ways (has node table) out (subst (λ k. has k table ≡ true) same inside)) in
    has_more xs i node x at ∙ ap (λ b. has x (take i xs) || b) differ ∙ or_false (has x (take i xs))
