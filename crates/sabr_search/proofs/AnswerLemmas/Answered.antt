-- What an answer after a prefix comes to: it is the best route, and the looks are within the bounds of a finder; and what
-- holds for the question of each part, by the soonest arrivals from the source.
use Rattle.std.proofs.Common.{◌≡◌, ℕ, true, false, List, [], ◌∷◌, ◌++◌, not, refl, sym, ap, ◌∙◌, arith, length-append, ◌≢◌, inl, inr, Bool, eqb, ◌||◌, Some, slice_get, slice_index_or, subst, slice_index, ◌⊎◌, zero, suc, ◌+◌, ◌-◌, ◌*◌, ◌^◌, ◌<◌, ◌≤◌, min, cond, length, Option, None}
use Rattle.std.proofs.lemmas.Bool.{or_from, not-true, false_from_ne_true, cases_eq, and_parts, and_from, cases_lt, both_ways, eq-eqb, eqb-true}
use Rattle.std.specs.Option.{option_and_then}
use Rattle.sabr_model.specs.plan.Plan.{TabledPlan, has}
use Rattle.sabr_model.specs.routes.Arrival.{RouteRequest, arrival_after}
use Rattle.sabr_model.specs.routes.Route.{chain_end, receivers, is_route}
use Rattle.sabr_model.specs.routes.Telling.{summary_of}
use Rattle.sabr_model.proofs.ListLemmas.Begins.{receivers-append, chain_end-append, different_apart}
use Rattle.sabr_search.specs.questions.Task.{SearchTask, IsBehind, IsOfRequest, is_forbidden, HasNodes, Takes, IsAsked, IsTask, left_of}
use Rattle.sabr_search.specs.questions.PrefixPath.{IsStop}
use Rattle.sabr_search.specs.questions.FirstSteps.{tabled_of, Leads}
use Rattle.sabr_search.specs.layers.Late.{AreSince, IsNoneSooner}
use Rattle.sabr_search.specs.layers.NodeBounds.{AreSoonFor, Goes, IsBetween, AreDeadlinesFor, AreCostsFor}
use Rattle.sabr_search.proofs.WayLemmas.Prefixes.{IsPrefix, prefix_facts}
use Rattle.sabr_search.proofs.WayLemmas.Chains.{arrival_after-append, all_of, has_either}
use Rattle.sabr_search.proofs.WayLemmas.RoutesAndWays.{same_some, way_from_chain, IsChain, chain_of_way, takes_timely}
use Rattle.sabr_search.specs.layers.Settling.{IsBound}
use Rattle.sabr_search.proofs.WayLemmas.PrefixPaths.{after_later}
use Rattle.std.specs.Prelude.{IsTrue}
use Rattle.std.proofs.Math.Nat.{mul-le-mul, mul-le-mul_right}
use Rattle.sabr_model.specs.routes.Parts.{goes_on}
use Rattle.sabr_model.specs.routes.Asking.{most_hops}
use Rattle.sabr_model.specs.routes.Record.{RouteRecord}
use Rattle.sabr_search.specs.declared.bound.Bound.{Bound}
use Rattle.sabr_index.specs.declared.looks.Looks.{Looks}
use Rattle.sabr_search.specs.questions.Bounded.{IsBeyond, IsFloor, bound_after, is_up_to}
use Rattle.sabr_search.specs.questions.Part.{IsBestOf}
use Rattle.sabr_search.specs.layers.Picks.{IsBestWay}
use Rattle.sabr_index.specs.Looks.{looks_taken}
use Rattle.sabr_search.specs.answers.Answers.{IsWayBeyond, HasNoWayWithin}
use Rattle.sabr_search.proofs.AnswerLemmas.BoundedWays.{above_before}
use Rattle.sabr_search.proofs.WayLemmas.Least.{delivered}
use Rattle.sabr_search.proofs.WayLemmas.PartWays.{IsPartWay, part_way, way_is_route}
use Rattle.sabr_search.proofs.AnswerLemmas.Law.{IsSummarized, contacts_few, prefix_few, found_is_least, none_is_least, behind_sizes}
use Rattle.sabr_search.proofs.WayLemmas.Shortness.{way_few}

-- What holds for the question of each part.

-- The soonest arrivals from the source.

-- an empty list knows nothing
pub none_soon : (p : TabledPlan) (r : RouteRequest) (soon : List ℕ) → soon ≡ [] → AreSoonFor p r soon
none_soon p r soon empty = rw empty (λ ns v node t some at chain after open'. omega arith)

-- the arrivals of a search over the whole graph from the source
pub soon_for : (task : SearchTask) → IsBehind task [] → task.excluded ≡ [] → (since : List ℕ) → AreSince task since → AreSoonFor (tabled_of task) task.request since
soon_for task behind free since are = λ ns v node t some at chain after open'.
    let there = ap (λ b. arrival_after task.plan task.request b ns) (sym (same_some behind.arrives)) ∙ after in
    are ns v t some (way_from_chain task [] behind ns task.start task.request.source task.at v node t (behind.stands ∙ sym behind.chained) chain at there open' (λ n more same here. ap (has n) free))

-- a question starts where its prefix ends
pub stop_of : (task : SearchTask) (prefix : List ℕ) → IsBehind task prefix → IsStop (tabled_of task) task.request prefix (record { node = task.start; at = task.at; summary = summary_of task.plan prefix })
stop_of task prefix behind = record { last_node = behind.last_node; chained = behind.chained; stands = behind.stands; arrives = behind.arrives; tells = refl }

-- the request closes no receiver of a prefix
pub receivers_open : (task : SearchTask) (prefix : List ℕ) → IsPrefix task.plan task.request prefix → (x : ℕ) → has x (receivers task.plan prefix) ≡ true → is_forbidden task.plan task.request [] x ≡ false
receivers_open task prefix facts x one =
    let r = task.request in
    or_from (has x (r.source ∷ [])) (has x r.avoided)
    (false_from_ne_true (has x (r.source ∷ [])) (λ source. different_apart (r.source ∷ []) (receivers task.plan prefix) x facts.different source one))
    (not-true (has x r.avoided) (all_of (λ n. not (has n r.avoided)) (receivers task.plan prefix) facts.allowed x one))

-- what is known of the ways from the source is so of a question's ways, each of which goes on from its prefix
pub soon_after : (task : SearchTask) (prefix : List ℕ) → IsOfRequest task → IsPrefix task.plan task.request prefix → IsStop (tabled_of task) task.request prefix (record { node = task.start; at = task.at; summary = summary_of task.plan prefix })
    → (soon : List ℕ) → AreSoonFor (tabled_of task) task.request soon → AreSince task soon
soon_after task prefix over facts stop soon are = λ ns v t some way.
    let p = task.plan in
    let r = task.request in
    let chain : IsChain task [] ns v t task.at stop.last_node = chain_of_way task [] over.closes ns task.start task.at v t stop.last_node stop.stands way in
    are (prefix ++ ns) v chain.last t (omega (arith, some, length-append prefix ns)) chain.stands
    (chain_end-append p r.source prefix ns ∙ ap (option_and_then (λ b. chain_end p b ns)) stop.chained ∙ chain.chain)
    (arrival_after-append p r r.at prefix ns ∙ ap (option_and_then (λ b. arrival_after p r b ns)) stop.arrives ∙ chain.after)
    (λ x h.
    has_either x (receivers p prefix) (receivers p ns) (sym (ap (has x) (receivers-append p prefix ns)) ∙ h) (is_forbidden p r [] x ≡ false)
    (λ one. receivers_open task prefix facts x one)
    (λ other. chain.open_nodes x other))

-- what is forbidden for fewer nodes
fewer : (a b c : Bool) → ((a || b) || c) ≡ false → ((a || false) || c) ≡ false
fewer true b c h = absurd cc
fewer false true c h = absurd cc
fewer false false c h = h

-- the question after a prefix closes what the request does
pub of_request : (task : SearchTask) (prefix : List ℕ) → IsBehind task prefix → IsOfRequest task
of_request task prefix behind = record {
  goal_is = behind.goal_is;
  since = after_later task.plan task.request prefix task.request.at task.at behind.arrives;
  closes = λ k x at open'.
      let closed : is_forbidden task.plan task.request prefix x ≡ false = sym (behind.forbids k x at) ∙ open' in
      fewer (eqb x task.request.source) (has x (receivers task.plan prefix)) (has x task.request.avoided) closed;
}

-- what forbids fewer nodes takes no step away
pub goes_of : (task : SearchTask) → IsOfRequest task → (n u t w b : ℕ) → Takes task n u t w b → Goes (tabled_of task) task.request n u t w b
goes_of task over n u t w b s = record {
  contact = s.contact;
  named = s.named;
  sender = s.sender;
  receiver = s.receiver;
  permitted = over.closes w s.contact.to s.receiver s.permitted;
  arrives = s.arrives;
}

-- what is known of the ways over the whole graph is so of a question's ways
pub bounds_of_nodes : (task : SearchTask) → HasNodes task.plan task.table → IsOfRequest task → (until : ℕ) (deadline costs : List ℕ) → AreDeadlinesFor (tabled_of task) task.request until deadline → AreCostsFor (tabled_of task) task.request costs → IsBound task until deadline costs
bounds_of_nodes task nodes over until deadline costs are_late are_costs = record {
  goal = are_late.goal task.goal over.goal_is;
  steps = λ n u t w b s open' other. are_late.steps n u t w b (goes_of task over n u t w b s) (between n u t w b s open' other);
  there = omega (arith, are_costs.goal task.goal over.goal_is);
  since = over.since;
  lowers = λ n u t w b s open' since. elim (cases_eq u task.goal) [
    | inl same ↦ omega (arith, ap (slice_index costs) same, are_costs.goal task.goal over.goal_is, (takes_timely task nodes).later n u t w b s)
    | inr other ↦ omega (arith, (takes_timely task nodes).later n u t w b s, are_costs.steps n u t w b (goes_of task over n u t w b s) (between n u t w b s open' other) since)
  ];
}
  where
    between : (n u t w b : ℕ) → Takes task n u t w b → slice_index_or task.forbidden u false ≡ false → u ≢ task.goal → IsBetween (tabled_of task) task.request u
    between n u t w b s open' other = record {
      node = s.contact.from;
      stands = s.sender;
      permitted = over.closes u s.contact.from s.sender open';
      other = λ same. other (nodes.apart u task.goal task.request.destination (subst (λ x. slice_get task.table u ≡ Some x) same s.sender) over.goal_is);
    }

-- the answer after a prefix: the route goes on by the best way, or no way leads to the goal
abbrev pub IsAnswered : SearchTask → List ℕ → Option RouteRecord → Type 0
IsAnswered task prefix None = HasNoWayWithin task (left_of task prefix)
IsAnswered task prefix (Some route) = (s : List ℕ) × (route.contacts ≡ prefix ++ s) × IsBestWay task (left_of task prefix) (route.delivery + 1) s route.delivery × IsSummarized task.plan route

-- the hops that are left, with a limit and without one
left_cases : (task : SearchTask) (prefix : List ℕ) → ((task.request.max_hops ≡ most_hops) × (left_of task prefix ≡ length task.table - 1)) ⊎ ((task.request.max_hops ≢ most_hops) × (left_of task prefix ≡ min (length task.table - 1) (task.request.max_hops - length prefix)))
left_cases task prefix =
    let m = task.request.max_hops in
    let x = length task.table - 1 in
    let y = min x (m - length prefix) in
    elim (eqb m most_hops) as (λ b. eqb m most_hops ≡ b → ((m ≡ most_hops) × (cond b x y ≡ x)) ⊎ ((m ≢ most_hops) × (cond b x y ≡ y))) [
      | true ↦ λ e. inl (eqb-true m most_hops e, refl)
      | false ↦ λ e. inr ((λ same. both_ways (eqb m most_hops) e (eq-eqb m most_hops same)), refl)
    ] refl

-- they are fewer than the nodes
pub left_fewer : (task : SearchTask) → IsTask task → (prefix : List ℕ) → left_of task prefix < length task.table
left_fewer task is prefix = elim (left_cases task prefix) [ inl free ↦ omega (arith, free.1, is.start_in) | inr limited ↦ omega (arith, limited.1, is.start_in) ]

module _ (task : SearchTask) (prefix : List ℕ) (asked : IsAsked task prefix) where
  facts : IsPrefix task.plan task.request prefix
  facts = prefix_facts task.plan task.request prefix asked.fits

  pub left_less : left_of task prefix < length task.table
  left_less = left_fewer task asked.task_is prefix

  pub left_free : task.request.max_hops ≡ most_hops → length task.table ≤ left_of task prefix + 1
  left_free most = elim (left_cases task prefix) [ inl free ↦ omega (arith, free.1) | inr limited ↦ absurd (limited.0 most) ]

  -- no route of the part has more
  left_all : (ns : List ℕ) → IsTrue (is_route task.plan task.request (prefix ++ ns)) → length ns ≤ left_of task prefix
  left_all ns route =
      let sizes = behind_sizes task asked.task_is prefix ns route in
      elim (left_cases task prefix) [ inl free ↦ omega (arith, free.1, sizes.1) | inr limited ↦ omega (arith, limited.1, sizes.0, sizes.1) ]

  -- and a way of the fewest hops makes a route
  ways_fit : (s : List ℕ) (d : ℕ) → length s ≤ left_of task prefix → Leads (Takes task) task.start task.at s task.goal d → ((ns : List ℕ) (e : ℕ) → length ns < length s → Leads (Takes task) task.start task.at ns task.goal e → d < e) → length prefix + length s ≤ task.request.max_hops
  ways_fit s d within way fewest = elim (left_cases task prefix) [
    | inl free ↦ omega (arith, free.0, contacts_few task.plan asked.task_is.plan, way_few task prefix asked.behind facts s d way fewest)
    | inr limited ↦ omega (arith, limited.1, within, facts.within)
  ]

  left_fits : (ceiling : ℕ) (s : List ℕ) (d : ℕ) → IsBestWay task (left_of task prefix) ceiling s d → length prefix + length s ≤ task.request.max_hops
  left_fits ceiling s d least = ways_fit s d least.within least.way least.fewest

  -- no way within what is left delivers before a second that no route of the part does
  floor_below : (d : ℕ) → IsFloor task.plan task.request prefix task.excluded d → (many : ℕ) (ns : List ℕ) (e : ℕ) → length ns < many → length ns ≤ left_of task prefix → Leads (Takes task) task.start task.at ns task.goal e → d ≤ e
  floor_below d floor zero ns e less within way = absurd (omega (arith, less))
  floor_below d floor (suc many) ns e less within way = elim (cases_lt e d) [
    | inr by ↦ by
    | inl sooner ↦
        let fewest : (ms : List ℕ) (x : ℕ) → length ms < length ns → Leads (Takes task) task.start task.at ms task.goal x → e < x =
        λ ms x fewer on. omega (arith, sooner, floor_below d floor many ms x (omega (arith, fewer, less)) (omega (arith, fewer, within)) on) in
        let own = way_is_route task prefix asked.behind facts ns e (some_hop ns e way) way fewest (ways_fit ns e within way fewest) in
        let by = floor (prefix ++ ns) (and_from (is_route task.plan task.request (prefix ++ ns)) (goes_on prefix task.excluded (prefix ++ ns)) own.0 own.1) in
        absurd (omega (arith, sooner, by, delivered task.plan task.request (prefix ++ ns) e own.2))
  ]
    where
      some_hop : (ns : List ℕ) (e : ℕ) → Leads (Takes task) task.start task.at ns task.goal e → 0 < length ns
      some_hop [] e way = absurd (both_ways (slice_index_or task.forbidden task.start false) (subst (λ k. slice_index_or task.forbidden k false ≡ false) (sym way.0) asked.task_is.goal_open) asked.task_is.start_forbidden)
      some_hop (n ∷ ns) e way = omega arith

  pub floor_of_ways : (d : ℕ) → IsFloor task.plan task.request prefix task.excluded d → IsNoneSooner task (left_of task prefix) d
  floor_of_ways d floor ns e within way = floor_below d floor (suc (length ns)) ns e (omega arith) within way

  pub answered_is_least : (o : Option RouteRecord) → IsAnswered task prefix o → IsBestOf task.plan task.request prefix task.excluded o
  answered_is_least None none = none_is_least task asked.task_is prefix asked.behind (λ ns e route way. none ns e (left_all ns route) way)
  answered_is_least (Some route) summary =
      found_is_least task asked.task_is prefix asked.behind facts (left_of task prefix) (route.delivery + 1) summary.0 route summary.1 summary.2 summary.3 (left_fits (route.delivery + 1) summary.0 route.delivery summary.2)
      (λ ns e listed way. summary.2.least ns e (left_all ns listed) way)

  -- the route of the least way is no longer than the plan
  pub route_few : (s : List ℕ) (d : ℕ) → IsBestWay task (left_of task prefix) (d + 1) s d → length prefix + length s ≤ length task.plan.contacts
  route_few s d least = way_few task prefix asked.behind facts s d least.way least.fewest

  -- so much is within the bound of a finder
  pub passes_within : 2 * length task.plan.contacts ≤ 3 * length task.table * length task.plan.contacts
  passes_within =
      let some : 1 * length task.plan.contacts ≤ length task.table * length task.plan.contacts = mul-le-mul_right (length task.plan.contacts) (omega (arith, asked.task_is.start_in)) in
      omega (arith, some)

  pub layers_within : left_of task prefix * length task.plan.contacts + length task.plan.contacts ≤ length task.table * length task.plan.contacts
  layers_within =
      let le : (left_of task prefix + 1) * length task.plan.contacts ≤ length task.table * length task.plan.contacts = mul-le-mul_right (length task.plan.contacts) (omega (arith, left_less)) in
      omega (arith, le)

  -- and so much fits into the numbers of a machine
  product : left_of task prefix * length task.plan.contacts ≤ 40000 * 20000
  product = mul-le-mul {n₂ = 40000} {m₂ = 20000} (omega (arith, left_less, asked.task_is.few)) (contacts_few task.plan asked.task_is.plan)

  pub search_fits : (3 * left_of task prefix + 3) * length task.plan.contacts ≤ 2 ^ 60
  search_fits = omega (arith, product, contacts_few task.plan asked.task_is.plan)

  pub route_fits : (numbers : List ℕ) (looks : Looks) → length numbers ≤ left_of task prefix → looks_taken looks ≤ 3 * length task.table * length task.plan.contacts → length prefix + length numbers ≤ looks.left
  route_fits numbers looks short few =
      let nodes : length task.table * length task.plan.contacts ≤ 40000 * 20000 = mul-le-mul {n₂ = 40000} {m₂ = 20000} asked.task_is.few (contacts_few task.plan asked.task_is.plan) in
      omega (arith, few, nodes, contacts_few task.plan asked.task_is.plan, prefix_few task.plan task.request prefix facts, short, left_less, asked.task_is.few)

  -- each route of the part is above a bound if each way is above what that leaves
  pub beyond_is : (b : Bound) → IsWayBeyond task (left_of task prefix) (bound_after b (length prefix)) → IsBeyond task.plan task.request prefix task.excluded b
  beyond_is b beyond s inside =
      let p = task.plan in
      let r = task.request in
      let both = and_parts (is_route p r s) (goes_on prefix task.excluded s) inside in
      let w : IsPartWay task prefix s = part_way task prefix asked.behind s both.0 both.1 in
      let size : length s ≡ length prefix + length w.rest = ap length w.is ∙ length-append prefix w.rest in
      let short = left_all w.rest (subst (λ (x : List ℕ). IsTrue (is_route p r x)) w.is both.0) in
      ap (λ d. is_up_to b d (length s)) (delivered p r s w.delivery w.delivers) ∙ ap (is_up_to b w.delivery) size
      ∙ above_before b (length prefix) w.delivery (length w.rest) (beyond w.rest w.delivery short w.way)
