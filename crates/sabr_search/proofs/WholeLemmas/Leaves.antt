-- Layers made for the whole graph leave out no way of a part's question; and what dead ends say of other seconds and
-- hops.
use Rattle.std.proofs.Common.{◌≡◌, inl, inr, ℕ, ◌+◌, ◌<◌, ◌≤◌, true, false, List, [], ◌∷◌, ◌++◌, length, slice_get, slice_index, slice_index_or, Some, refl, ap, sym, subst, ◌∙◌, arith, length-append, zero, suc, ◌-◌, min, add-zero}
use Rattle.std.proofs.lemmas.List.{get_or_past}
use Rattle.std.proofs.lemmas.Bool.{cases_eq, cases_lt, both_ways}
use Rattle.std.proofs.lemmas.Bool.Decides.{nat_tests}
use Rattle.std.proofs.lemmas.Option.{slice_get-get_or}
use Rattle.sabr_model.specs.plan.Plan.{TabledPlan, contact_named, has}
use Rattle.sabr_model.specs.routes.Arrival.{RouteRequest, arrival}
use Rattle.sabr_search.specs.declared.backward.deadlines.Deadlines.{Deadlines}
use Rattle.sabr_search.specs.questions.FirstSteps.{Leads, tabled_of}
use Rattle.sabr_search.specs.questions.Task.{SearchTask, IsTask, IsAsked, Takes, is_forbidden, HasNodes}
use Rattle.sabr_search.specs.layers.Deadlines.{HasDeadline, IsInTimeWithin, IsLastBelow, IsLatestWithin, end_within}
use Rattle.sabr_search.specs.layers.NodeBounds.{AreSoonFor}
use Rattle.sabr_search.specs.layers.WholeDeadlines.{AreOfEach, AreWhole, AreWholeDeadlinesOf, IsDeadEnd}
use Rattle.sabr_search.proofs.WayLemmas.Ways.{Leads-append, Leads-later, Leads-earlier}
use Rattle.sabr_search.proofs.WayLemmas.RoutesAndWays.{takes_timely}
use Rattle.sabr_search.proofs.WayLemmas.Prefixes.{prefix_facts}
use Rattle.sabr_search.proofs.AnswerLemmas.Answered.{of_request, stop_of, soon_after, receivers_open}
use Rattle.sabr_search.proofs.ForwardLemmas.FirstWays.{goal_other}

-- the node at which a way of some hops ends is one that a step takes
way_ends : (task : SearchTask) (Open : ℕ → Type 0) → ((n u t w b : ℕ) → Takes task n u t w b → Open w) → (ns : List ℕ) (u t v e : ℕ) → Leads (Takes task) u t ns v e → 0 < length ns → Open v
way_ends task Open each [] u t v e way some = absurd (omega arith)
way_ends task Open each (n ∷ []) u t v e way some = rw (← way.3.0) (each n u t way.0 way.1 way.2)
way_ends task Open each (n ∷ m ∷ ns) u t v e way some = way_ends task Open each (m ∷ ns) way.0 way.1 v e way.3 (omega arith)

-- no way over the whole graph comes to where a question starts any sooner, unless it starts at the source
start_soon : (task : SearchTask) (prefix : List ℕ) → IsAsked task prefix → (soon : List ℕ) → AreSoonFor (tabled_of task) task.request soon → is_forbidden task.plan task.request [] task.request.source ≡ true →
    ((x : ℕ) → slice_get task.table task.start ≡ Some x → is_forbidden task.plan task.request [] x ≡ false) → slice_index soon task.start ≤ task.at
start_soon task [] asked soon are source open' = absurd (both_ways (is_forbidden task.plan task.request [] task.request.source) (open' task.request.source (asked.behind.stands ∙ sym asked.behind.chained)) source)
start_soon task (n ∷ prefix) asked soon are source open' =
    let behind = asked.behind in
    are (n ∷ prefix) task.start behind.last_node task.at (omega arith) behind.stands behind.chained behind.arrives (receivers_open task (n ∷ prefix) (prefix_facts task.plan task.request (n ∷ prefix) asked.fits))

-- the source is closed
source_closed : (task : SearchTask) → is_forbidden task.plan task.request [] task.request.source ≡ true
source_closed task = grind (arith, nat_tests)

-- a question after no contact that excludes nothing, and one after a prefix, of the same plan and request
module _ (whole task : SearchTask) (prefix : List ℕ) (first : IsAsked whole []) (asked : IsAsked task prefix) (plan : tabled_of whole ≡ tabled_of task) (request : whole.request ≡ task.request) where
  table_is : whole.table ≡ task.table
  table_is = ap (λ (p : TabledPlan). p.table) plan

  -- where the whole graph is forbidden
  forbidden_there : (k x : ℕ) → slice_get task.table k ≡ Some x → slice_index_or whole.forbidden k false ≡ is_forbidden task.plan task.request [] x
  forbidden_there k x at = first.behind.forbids k x (ap (λ t. slice_get t k) table_is ∙ at) ∙ ap (λ (p : TabledPlan). is_forbidden p.plan whole.request [] x) plan ∙ ap (λ r. is_forbidden task.plan r [] x) request

  opens_there : (k : ℕ) → slice_index_or task.forbidden k false ≡ false → slice_index_or whole.forbidden k false ≡ false
  opens_there k open' = elim (cases_lt k (length task.table)) [
    | inl within ↦
        (let at = slice_get-get_or task.table k 0 within in
        forbidden_there k _ at ∙ (of_request task prefix asked.behind).closes k _ at open')
    | inr past ↦ get_or_past whole.forbidden k false (omega (arith, past, first.task_is.as_many, ap length table_is))
  ]

  goal_there : whole.goal ≡ task.goal
  goal_there = asked.task_is.nodes.apart whole.goal task.goal task.request.destination (sym (ap (λ t. slice_get t whole.goal) table_is) ∙ first.behind.goal_is ∙ ap (λ (r : RouteRequest). Some r.destination) request) asked.behind.goal_is

  soon_there : (since : List ℕ) → AreSoonFor (tabled_of whole) whole.request since → AreSoonFor (tabled_of task) task.request since
  soon_there since are = subst (λ r. AreSoonFor (tabled_of task) r since) request (subst (λ p. AreSoonFor p whole.request since) plan are)

  -- each step of the question is one of the whole graph
  whole_step : whole.excluded ≡ [] → (n u t w b : ℕ) → Takes task n u t w b → Takes whole n u t w b
  whole_step none n u t w b s = record {
    contact = s.contact;
    named = ap (λ (p : TabledPlan). contact_named p.plan n) plan ∙ s.named;
    sender = ap (λ (p : TabledPlan). slice_get p.table u) plan ∙ s.sender;
    receiver = ap (λ (p : TabledPlan). slice_get p.table w) plan ∙ s.receiver;
    permitted = opens_there w s.permitted;
    allowed = λ same. ap (has n) none;
    arrives = ap (λ (p : TabledPlan). arrival p.plan whole.request t s.contact) plan ∙ ap (λ r. arrival task.plan r t s.contact) request ∙ s.arrives;
  }

-- layers made for the question after no contact are layers of each that is asked of the plan and the request
pub of_each : {A : Type 0} (whole : SearchTask) (s : Deadlines A) (d : ℕ) → IsAsked whole [] → whole.excluded ≡ [] → (since : List ℕ) → AreSoonFor (tabled_of whole) whole.request since → ((most : ℕ) → AreWhole whole since d most s) → AreOfEach (tabled_of whole) whole.request s d
of_each whole s d first none since soon layers task prefix asked is requested hops =
    let same = sym is in
    let requests = sym requested in
    let are = soon_there whole task prefix first asked same requests since soon in
    record {
      most = hops;
      within = omega arith;
      whole = whole;
      since = since;
      layers = layers hops;
      table = table_is whole task prefix first asked same requests;
      goal = goal_there whole task prefix first asked same requests;
      takes = whole_step whole task prefix first asked same requests none;
      soonest = soon_after task prefix (of_request task prefix asked.behind) (prefix_facts task.plan task.request prefix asked.fits) (stop_of task prefix asked.behind) since are;
      begins = λ open'. start_soon task prefix asked since are (source_closed task) (λ x at. sym (forbidden_there whole task prefix first asked same requests task.start x at) ∙ open');
    }

module _ {A : Type 0} (task : SearchTask) (is : IsTask task) (d hops : ℕ) (s : Deadlines A) (over : AreWholeDeadlinesOf task d hops s) where
  -- as far as fewer hops
  pub level_fewer : (fewer : ℕ) → fewer ≤ hops → AreWholeDeadlinesOf task d fewer s
  level_fewer fewer le = record {
    most = over.most;
    within = omega (arith, le, over.within);
    whole = over.whole;
    since = over.since;
    layers = over.layers;
    table = over.table;
    goal = over.goal;
    takes = over.takes;
    soonest = over.soonest;
    begins = over.begins;
  }

  -- the goal's entry
  pub goal_entry : HasDeadline s.ends.items s.entries.items 0 task.goal (d + 1)
  goal_entry = (0, omega (arith, over.layers.first_end), omega (arith, over.layers.second_end), over.layers.goal_first ∙ ap (λ g. Some (record { node = g; before = d + 1 })) over.goal)

  -- whoever a way leads on to the goal in time is in time for an entry, at the start if its question leaves it open
  in_time : (ns ms : List ℕ) (u t e : ℕ) → length ns ≤ hops → slice_index_or over.whole.forbidden u false ≡ false → slice_index over.since u ≤ t → Leads (Takes task) task.start task.at ms u t → Leads (Takes task) u t ns task.goal e → e ≤ d →
      IsInTimeWithin s.ends.items s.entries.items (length ns) u t
  in_time [] ms u t e few permitted since there on by = (0, d + 1, omega arith, rw (on.0) goal_entry, omega (arith, on.1))
  in_time (n ∷ ns) ms u t e few permitted since there on by =
      let timely = takes_timely task is.nodes in
      let step = over.takes n u t on.0 on.1 on.2 in
      let next : Leads (Takes task) task.start task.at (ms ++ n ∷ []) on.0 on.1 = Leads-append (Takes task) timely ms (n ∷ []) task.start task.at u t on.0 on.1 there (on.0, on.1, on.2, (refl, refl)) in
      let some : 0 < length (ms ++ n ∷ []) = omega (arith, length-append ms (n ∷ [])) in
      let r = in_time ns (ms ++ n ∷ []) on.0 on.1 e (omega (arith, few)) step.permitted (over.soonest (ms ++ n ∷ []) on.0 on.1 some next) next on.3 by in
      elim (cases_eq u task.goal) [
        | inl same ↦ (0, d + 1, omega arith, rw same goal_entry, omega (arith, Leads-later (Takes task) timely (n ∷ ns) u t task.goal e on))
        | inr other ↦
            (let in_time = over.layers.taken r.0 on.0 r.1 n u t on.1 (omega (arith, r.2, few, over.within)) r.3 r.4 step permitted (λ same. other (same ∙ over.goal)) since in
            (in_time.0, in_time.1, omega (arith, in_time.2, r.2), in_time.3, in_time.4))
      ]

  -- after the start it is open
  pub leaves_out_none : (ms ns : List ℕ) (u t e : ℕ) → 0 < length ms → length ns ≤ hops → Leads (Takes task) task.start task.at ms u t → Leads (Takes task) u t ns task.goal e → e ≤ d →
      IsInTimeWithin s.ends.items s.entries.items (length ns) u t
  leaves_out_none ms ns u t e some few there on by =
      let permitted = way_ends task (λ v. slice_index_or over.whole.forbidden v false ≡ false) (λ n v s w b step. (over.takes n v s w b step).permitted) ms task.start task.at u t there some in
      in_time ns ms u t e few permitted (over.soonest ms u t some there) there on by

  pub in_time_at_start : slice_index_or over.whole.forbidden task.start false ≡ false → (ns : List ℕ) (e : ℕ) → length ns ≤ hops → Leads (Takes task) task.start task.at ns task.goal e → e ≤ d →
      IsInTimeWithin s.ends.items s.entries.items (length ns) task.start task.at
  in_time_at_start permitted ns e few on by = in_time ns [] task.start task.at e few permitted (over.begins permitted) (refl, refl) on by

-- Dead ends: what they say of other seconds and hops, and what makes a node one.

-- a dead end is so later, and in fewer hops
pub dead_later : (task : SearchTask) (d u t s hops fewer : ℕ) → t ≤ s → fewer ≤ hops → IsDeadEnd task d u t hops → IsDeadEnd task d u s fewer
dead_later task d u t s hops fewer by less dead = λ ns b e later within way. dead ns b e (omega (arith, by, later)) (omega (arith, within, less)) way

-- it is one if no way from that very second on delivers: each from a later one would deliver as soon
pub dead_at : (task : SearchTask) → HasNodes task.plan task.table → (d u t hops : ℕ) → ((ns : List ℕ) (e : ℕ) → length ns ≤ hops → Leads (Takes task) u t ns task.goal e → d < e) → IsDeadEnd task d u t hops
dead_at task nodes d u t hops none = λ ns s e later within way.
    let sooner = Leads-earlier (Takes task) (takes_timely task nodes) ns u s task.goal e t way later in
    omega (arith, sooner.1, none ns sooner.0 within sooner.2)

-- no way from the start has no hop
pub dead_none : (task : SearchTask) → IsTask task → (d : ℕ) → IsDeadEnd task d task.start task.at 0
dead_none task is d [] s e later within way = absurd (goal_other task is (sym way.0))
dead_none task is d (n ∷ ns) s e later within way = absurd (omega (arith, within))

-- bounds rise up to the last
rises : (ends : List ℕ) → ((j : ℕ) → j + 1 < length ends → slice_index ends j ≤ slice_index ends (j + 1)) → (j m : ℕ) → j + m < length ends → slice_index ends j ≤ slice_index ends (j + m)
rises ends rising j zero within = rw add-zero (omega arith)
rises ends rising j (suc m) within =
    let next : slice_index ends (j + m) ≤ slice_index ends (j + m + 1) = rising (j + m) (omega arith) in
    let same : j + suc m ≡ j + m + 1 = omega arith in
    rw same (omega (arith, next, rises ends rising j m (omega arith)))

module _ {A : Type 0} (task : SearchTask) (is : IsTask task) (d hops : ℕ) (s : Deadlines A) (over : AreWholeDeadlinesOf task d hops s) where
  -- who is in time for an entry of so many hops is in time by a second that none of them exceeds
  pub latest_later : (u t before : ℕ) → IsLatestWithin s.entries.items u (end_within s.ends.items hops) before → IsInTimeWithin s.ends.items s.entries.items hops u t → t < before
  latest_later u t before latest entry =
      let ends = s.ends.items in
      let i = entry.0 in
      let place = entry.3 in
      let last : ℕ = min (length ends - 1) (hops + 1) in
      elim (cases_lt (i + 1) (length ends)) [
        | inl within ↦
            (let sum : (i + 1) + (last - (i + 1)) ≡ last = omega (arith, entry.2, within) in
            let rise : slice_index ends (i + 1) ≤ slice_index ends last = rw sum at (rises ends over.layers.rising (i + 1) (last - (i + 1)) (omega (arith, sum, within))) in
            omega (arith, entry.4, latest place.0 (record { node = u; before = entry.1 }) (omega (arith, place.2, rise)) place.3 refl))
        | inr past ↦ absurd (omega (arith, place.2, get_or_past ends (i + 1) 0 past))
      ]

  -- whoever a way of the question leads to a node after a second that none of its entries of so many hops exceeds is at a dead
  -- end
  pub dead_too_late : (ms : List ℕ) (u t before : ℕ) → 0 < length ms → Leads (Takes task) task.start task.at ms u t → IsLatestWithin s.entries.items u (end_within s.ends.items hops) before → before ≤ t → IsDeadEnd task d u t hops
  dead_too_late ms u t before some there latest deadline = dead_at task is.nodes d u t hops (λ ns e within way. elim (cases_lt d e) [
    | inl yes' ↦ yes'
    | inr by ↦
        (let entry = leaves_out_none task is d hops s over ms ns u t e some within there way by in
        absurd (omega (arith, deadline, latest_later u t before latest (entry.0, entry.1, omega (arith, entry.2, within), entry.3, entry.4))))
  ])

  -- the start is at one if it has an entry and is too late for those of so many hops
  pub start_late : (place before : ℕ) → 0 < place → IsLastBelow s.entries.items task.start (length s.entries.items) place → IsLatestWithin s.entries.items task.start (end_within s.ends.items hops) before → before ≤ task.at → IsDeadEnd task d task.start task.at hops
  start_late place before some last latest deadline = dead_at task is.nodes d task.start task.at hops (λ ns e within way. elim (cases_lt d e) [
    | inl yes' ↦ yes'
    | inr by ↦
        (let entry = in_time_at_start task is d hops s over (over.layers.permitted (place - 1) task.start (last.entry some)) ns e within way by in
        absurd (omega (arith, deadline, latest_later task.start task.at before latest (entry.0, entry.1, omega (arith, entry.2, within), entry.3, entry.4))))
  ])
